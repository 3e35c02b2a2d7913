-- The types of a header in the middle of their reading.
use Rattle.std.specs.Prelude.{ℕ, ◌+◌, ◌-◌, ◌==◌, Bool, false, ◌||◌, nat_le, if◌then◌else◌, List, length, Option, Some, None}
use Rattle.std.specs.List.{list_any}
use Rattle.sx_record.specs.SerialTypes.{body_len, is_unused}
use Rattle.sx_record.specs.Records.{bodies_len}
use Rattle.sx_record.specs.declared.survey.Survey.{Survey}

-- what is left of the room behind a body
abbrev pub lowered : Option ℕ → ℕ → Option ℕ
lowered None type = None
lowered (Some room) type = if nat_le (body_len type) room then Some (room - body_len type) else None

-- the bodies fill what is left of the room
abbrev pub is_filled : Option ℕ → List ℕ → Bool
is_filled None types = false
is_filled (Some room) types = room == bodies_len types

-- what is said in the end, where types are still to come
abbrev pub survey_behind : ℕ → Bool → Option ℕ → List ℕ → Survey
survey_behind columns unused left types = record { columns = columns + length types; unused = unused || list_any is_unused types; fits = is_filled left types }
