-- The fields of a cell, each read from the front of the bytes that are left: its value and the bytes behind it, or the
-- fault that is met there ("B-tree Pages").
use Rattle.std.specs.Prelude.{◌≡◌, ℕ, ℤ, nat_lt, if◌then◌else◌, Bool, true, false, List, length, take, drop, Option, Some, None, Result, Ok, Err}
use Rattle.std.specs.Int.{w64, cast_signed}
use Rattle.sx_base.specs.Bytes.{word_at}
use Rattle.sx_bytes.specs.Varints.{varint_at}
use Rattle.sx_cell.specs.declared.cell.Kind.{Kind}
use Rattle.sx_cell.specs.declared.cell.Kind.TheVariants.{TableLeaf, TableInner, IndexLeaf, IndexInner}
use Rattle.sx_cell.specs.declared.cell.CellFault.{CellFault}
use Rattle.sx_cell.specs.declared.cell.CellFault.TheVariants.{Outside, TooLong}
use Rattle.sx_cell.specs.Local.{longest_payload}

infixl 10 ◌>>=◌
-- one step after the other, up to the first fault
abbrev pub ◌>>=◌ : {A B : Type 0} → Result A CellFault → (A → Result B CellFault) → Result B CellFault
(Ok x) >>= f = f x
(Err e) >>= f = Err e

-- what a function returned, seen by view, is what was read
abbrev pub Reads : {X Y : Type 0} → (X → Y) → Result X CellFault → Result Y CellFault → Type 0
Reads view (Ok x) read = read ≡ Ok (view x)
Reads view (Err e) read = read ≡ Err e

-- a word
unfoldable pub word_field : List ℕ → Result (ℕ × List ℕ) CellFault
word_field bytes = if nat_lt (length bytes) 4 then Err Outside else Ok (word_at (take 4 bytes) 0, drop 4 bytes)

-- what was found at the front, and the bytes behind it
abbrev pub found_field : List ℕ → Option (ℕ × ℕ) → Result (ℕ × List ℕ) CellFault
found_field bytes None = Err Outside
found_field bytes (Some found) = Ok (found.0, drop found.1 bytes)

-- a variable-length integer
unfoldable pub varint_field : List ℕ → Result (ℕ × List ℕ) CellFault
varint_field bytes = found_field bytes (varint_at bytes)

-- a word, where there is one
unfoldable pub word_if : Bool → List ℕ → Result (Option ℕ × List ℕ) CellFault
word_if false bytes = Ok (None, bytes)
word_if true bytes = word_field bytes >>= λ word. Ok (Some word.0, word.1)

-- the length of a payload, if it isn't above the greatest
abbrev pub limited : ℕ × List ℕ → Result (ℕ × List ℕ) CellFault
limited size = if nat_lt longest_payload size.0 then Err TooLong else Ok size

-- the length of the payload: interior cells of a table have none
unfoldable pub size_field : Kind → List ℕ → Result (ℕ × List ℕ) CellFault
size_field TableLeaf bytes = varint_field bytes >>= limited
size_field TableInner bytes = Ok (0, bytes)
size_field IndexLeaf bytes = varint_field bytes >>= limited
size_field IndexInner bytes = varint_field bytes >>= limited

-- the 64 bits of a number, as a signed one
abbrev pub signed : ℕ → ℤ
signed bits = cast_signed w64 bits

-- a signed number
unfoldable pub signed_field : List ℕ → Result (Option ℤ × List ℕ) CellFault
signed_field bytes = varint_field bytes >>= λ bits. Ok (Some (signed bits.0), bits.1)

-- the rowid or the key: cells of an index have none
unfoldable pub key_field : Kind → List ℕ → Result (Option ℤ × List ℕ) CellFault
key_field TableLeaf bytes = signed_field bytes
key_field TableInner bytes = signed_field bytes
key_field IndexLeaf bytes = Ok (None, bytes)
key_field IndexInner bytes = Ok (None, bytes)
