-- What stands at the last settled moment.
use Rattle.std.specs.Prelude.{ℕ, List, Option, None, Some, ⊤}
use Rattle.sx_moment.specs.Sweep.{Swept}
use Rattle.sx_schemas.specs.Behind.{IsReadBehind}
use Rattle.sx_sums.specs.declared.entry.Entry.{Entry}
use Rattle.sx_sweep.specs.Passing.{IsBefore}
use Rattle.sx_sweep.specs.declared.passing.Behind.{Behind}

-- where some moment was gone over, the references stand there and the schema does
abbrev pub IsBehind : Swept → Option Behind → ℕ → List Entry → Type 0
IsBehind swept None usable entries = ⊤
IsBehind swept (Some behind) usable entries = IsBefore swept (Some behind.walk) usable entries × IsReadBehind swept (Some behind.schemas)
