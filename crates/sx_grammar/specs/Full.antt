-- A cell of a table leaf that still stands whole, read from its front.
use Rattle.std.specs.Prelude.{ℕ, ◌+◌, ◌-◌, ◌/◌, ◌==◌, Bool, true, false, ◌&&◌, ◌||◌, nat_le, nat_lt, if◌then◌else◌, List, length, take, drop, slice_index, Option, Some, None}
use Rattle.std.specs.Int.{w64, cast_signed}
use Rattle.sx_base.specs.Bytes.{word_at}
use Rattle.sx_cell.specs.declared.cell.Kind.TheVariants.{TableLeaf}
use Rattle.sx_cell.specs.Local.{longest_local, local_of}
use Rattle.sx_grammar.specs.declared.form.Form.TheVariants.{Full}
use Rattle.sx_grammar.specs.Shorts.{◌>>=◌, short_field}
use Rattle.sx_grammar.specs.Sightings.{Sighting, whole, columns_in}
use Rattle.sx_grammar.specs.Records.{Opened, record_in}

-- the number of the first overflow page where there is one, and the bytes behind it
unfoldable pub link_field : Bool → List ℕ → Option (Option ℕ × List ℕ)
link_field false bytes = Some (None, bytes)
link_field true bytes =
    if nat_lt (length bytes) 4 then None
    else (if word_at (take 4 bytes) 0 == 0 then None
    else Some (Some (word_at (take 4 bytes) 0), drop 4 bytes))

-- the local part of a payload, the overflow page behind it, and the bytes behind both
pub record Held : Type 0 where
  pub local : List ℕ
  pub overflow : Option ℕ
  pub rest : List ℕ

-- behind a local part of so many bytes
unfoldable pub held_in : ℕ → Bool → List ℕ → Option Held
held_in len spilled bytes = do
  link ← link_field spilled (drop len bytes)
  Some (record { local = take len bytes; overflow = link.0; rest = link.1 })

-- behind the two numbers of a cell: a payload that isn't too long, as much of it as a cell holds, and where more is to come
-- its first overflow page
unfoldable pub held_at : ℕ → ℕ → List ℕ → Option Held
held_at usable payload bytes =
    if nat_lt 2147483647 payload then None
    else (if nat_lt (length bytes) (local_of TableLeaf payload usable) then None
    else held_in (local_of TableLeaf payload usable) (nat_lt (longest_local TableLeaf usable) payload) bytes)

-- the bodies are exactly what the payload has behind its header
abbrev pub whole_cell : ℕ → ℕ → ℕ → Held → Opened → Option Sighting
whole_cell len payload rowid held parts =
    if parts.left == 0
    then Some (whole (len - length held.rest) (cast_signed w64 rowid) payload held.local held.overflow (columns_in Full parts.types parts.bodies))
    else None

-- the cell at the front
unfoldable pub full_at : ℕ → List ℕ → Option Sighting
full_at usable bytes = do
  payload ← short_field bytes
  rowid ← short_field payload.1
  held ← held_at usable payload.0 rowid.1
  parts ← record_in payload.0 held.local
  whole_cell (length bytes) payload.0 rowid.0 held parts

-- ---- a look at the first bytes

-- no more bytes than the body of a type of one byte has: those of a text or a blob; a longer type isn't looked at
abbrev pub least_body : ℕ → ℕ
least_body type = if nat_lt type 128 then (type - 12) / 2 else 0

-- a header of such a size with such types has no place in so small a payload: the second type is looked at where the first
-- has one byte and the header has room for it
abbrev pub is_no_header : ℕ → ℕ → ℕ → ℕ → Bool
is_no_header payload header first second =
    nat_lt header 2
    || (nat_lt payload header
    || (nat_lt payload (header + least_body first)
    || (nat_lt first 128 && (nat_le 3 header && nat_lt payload (header + least_body first + least_body second)))))

-- the payload's length and the rowid have one byte each, and the record behind them has no place in the payload
abbrev pub is_no_cell : List ℕ → Bool
is_no_cell bytes =
    nat_lt 4 (length bytes)
    && (nat_lt (slice_index bytes 0) 128
    && (nat_lt (slice_index bytes 1) 128
    && is_no_header (slice_index bytes 0) (slice_index bytes 2) (slice_index bytes 3) (slice_index bytes 4)))
