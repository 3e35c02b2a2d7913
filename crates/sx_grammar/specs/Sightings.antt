-- What is seen of a record that isn't wholly there.
use Rattle.std.specs.Prelude.{◌≡◌, ◌≤◌, is_some, ℕ, ◌+◌, ◌-◌, ℤ, Bool, nat_le, if◌then◌else◌, false, true, List, [], ◌∷◌, length, take, drop, Option, Some, None}
use Rattle.sx_record.specs.Content.{Content, content_of}
use Rattle.sx_record.specs.SerialTypes.{body_len, content_in}
use Rattle.sx_record.specs.Records.{types_or_none}
use Rattle.sx_grammar.specs.declared.form.Form.{Form}
use Rattle.sx_grammar.specs.declared.form.Form.TheVariants.{Full, Tail, Types, Lost}
use Rattle.sx_grammar.specs.declared.shown.Shown.{Shown}
use Rattle.sx_grammar.specs.declared.shown.Shown.TheVariants as shown
use Rattle.sx_grammar.specs.Shorts.{used_types}

-- what is seen of a column: what it holds, nothing since its type was overwritten, or a body that ends past the local part
pub data Seen : Type 0 where
  value : Content → Seen
  lost : Seen
  beyond : Seen

-- a column of this type whose body begins these bytes
unfoldable pub seen_in : ℕ → List ℕ → Seen
seen_in type bodies = if nat_le (body_len type) (length bodies) then value (content_in type (take (body_len type) bodies)) else beyond

-- the columns of these types whose bodies stand one after the other
unfoldable pub seen : List ℕ → List ℕ → List Seen
seen [] bodies = []
seen (type ∷ types) bodies = seen_in type bodies ∷ seen types (drop (body_len type) bodies)

-- in front of them the one whose type is lost
abbrev pub with_lost : Form → List Seen → List Seen
with_lost Full columns = columns
with_lost (Tail e) columns = columns
with_lost (Types n) columns = columns
with_lost (Lost n alias) columns = lost ∷ columns

-- the columns of a form whose types and bodies stand in these bytes
unfoldable pub columns_in : Form → List ℕ → List ℕ → List Seen
columns_in form types bodies = with_lost form (seen (types_or_none (used_types types)) bodies)

-- the length of the payload: the one that a whole cell names, and else what a span has besides the bytes that stand in front
-- of its record, or in place of its record's first bytes
abbrev pub payload_in : Form → ℕ → ℕ → ℕ
payload_in Full len payload = payload
payload_in (Tail e) len payload = len - (4 + e)
payload_in (Types n) len payload = len - 3
payload_in (Lost n alias) len payload = len - 2

-- the local part of the payload of a whole cell; none for another form
abbrev pub local_in : Form → List ℕ → Option (List ℕ)
local_in Full local = Some local
local_in (Tail e) local = None
local_in (Types n) local = None
local_in (Lost n alias) local = None

-- a span that a form accepts: its length, and what it says of a row
pub record Sighting : Type 0 where
  pub form : Form
  pub len : ℕ
  pub rowid : Option ℤ
  pub overflow : Option ℕ
  pub payload : ℕ
  pub local : Option (List ℕ)
  pub columns : List Seen

-- of a span whose first bytes were overwritten
abbrev pub sighted : Form → ℕ → Option ℤ → Option ℕ → List Seen → Sighting
sighted form len rowid overflow columns =
    record { form = form; len = len; rowid = rowid; overflow = overflow; payload = payload_in form len 0; local = local_in form []; columns = columns }

-- of a cell that stands whole
abbrev pub whole : ℕ → ℤ → ℕ → List ℕ → Option ℕ → List Seen → Sighting
whole len rowid payload local overflow columns =
    record { form = Full; len = len; rowid = Some rowid; overflow = overflow; payload = payload; local = Some local; columns = columns }

-- what a shown column shows
abbrev pub seen_of : Shown → Seen
seen_of (shown.Value held) = value (content_of held)
seen_of shown.Lost = lost
seen_of shown.Beyond = beyond

-- the columns of these types and bodies, behind one whose type is lost or not
unfoldable pub seen_from : Bool → List ℕ → List ℕ → List Seen
seen_from false types bodies = seen (types_or_none (used_types types)) bodies
seen_from true types bodies = lost ∷ seen (types_or_none (used_types types)) bodies

-- the types of these columns stand there
pub record AreShown (form : Form) (types bodies : List ℕ) (columns : ℕ) : Type 0 where
  pub read : is_some (used_types types) ≡ true
  pub count : length (columns_in form types bodies) ≡ columns

-- the local part of a whole cell is one of its payload, which isn't longer than a cell may have
abbrev pub IsPart : Form → ℕ → List ℕ → Type 0
IsPart Full payload local = (length local ≤ payload) × (payload ≤ 2147483647)
IsPart (Tail e) payload local = Unit {0}
IsPart (Types n) payload local = Unit {0}
IsPart (Lost n alias) payload local = Unit {0}

-- whether the type of the first column is lost
abbrev pub has_lost : Form → Bool
has_lost Full = false
has_lost (Tail e) = false
has_lost (Types n) = false
has_lost (Lost n alias) = true
