-- Cells whose first four bytes were overwritten by those of a freeblock ("B-tree Pages": next freeblock, size).
use Rattle.std.specs.Prelude.{◌≡◌, ◌⊎◌, ℕ, ◌+◌, ◌-◌, ◌<◌, ◌≤◌, ◌==◌, Bool, true, false, ◌&&◌, ◌||◌, nat_le, nat_lt, if◌then◌else◌, List, [], ◌∷◌, ◌++◌, length, take, drop, slice_index, Option, Some, None}
use Rattle.sx_base.specs.Bytes.{two_bytes_at}
use Rattle.sx_bytes.specs.Varints.{shortest}
use Rattle.sx_record.specs.Records.{bodies_len}
use Rattle.sx_grammar.specs.declared.form.Form.TheVariants.{Tail}
use Rattle.sx_grammar.specs.Shorts.{◌>>=◌}
use Rattle.sx_grammar.specs.Sightings.{Sighting, sighted, seen, columns_in}
use Rattle.sx_grammar.specs.Records.{IsHeader, Opened, record_in}

-- where a span begins: its place in the page, whether a freeblock begins there, and the longest payload that stands whole
pub record Setting : Type 0 where
  pub offset : ℕ
  pub block : Bool
  pub longest : ℕ

-- a span in a freeblock is at most as long as the block says, any other one exactly as long
abbrev pub Fits : Bool → ℕ → ℕ → Type 0
Fits true len size = len ≤ size
Fits false len size = len ≡ size

-- four bytes that say where the next freeblock is, not before the end of this one, and how long this one is
pub record IsCut (setting : Setting) (four : List ℕ) (len : ℕ) : Type 0 where
  pub long : length four ≡ 4
  pub next : (two_bytes_at four 0 ≡ 0) ⊎ (setting.offset + two_bytes_at four 2 ≤ two_bytes_at four 0)
  pub fits : Fits setting.block len (two_bytes_at four 2)

-- the shortest spelling of a payload's length and a rowid's spelling have so many bytes together
pub record AreLengths (payload rowid_len together : ℕ) : Type 0 where
  pub least : 1 ≤ rowid_len
  pub most : rowid_len ≤ 9
  pub sum : shortest payload + rowid_len ≡ together

-- the last bytes of a rowid: all but the last go on, and the last doesn't, unless it is the ninth
abbrev pub EndsRowid : Bool → List ℕ → Type 0
EndsRowid nine [] = Unit
EndsRowid true (byte ∷ []) = Unit
EndsRowid false (byte ∷ []) = byte < 128
EndsRowid nine (byte ∷ next ∷ bytes) = (128 ≤ byte) × EndsRowid nine (next ∷ bytes)

-- Tail(e): the last e bytes of a rowid and the whole record
pub record IsTail (e : ℕ) (setting : Setting) (span : List ℕ) (sighting : Sighting) : Type 0 where
  pub four : List ℕ
  pub end : List ℕ
  pub header : List ℕ
  pub types_text : List ℕ
  pub types : List ℕ
  pub bodies : List ℕ
  pub rowid_len : ℕ
  pub parts : span ≡ four ++ (end ++ (header ++ bodies))
  pub cut : IsCut setting four (length span)
  pub long : length end ≡ e
  pub typed : IsHeader header types_text types
  pub few : length header ≤ 127
  pub filled : length bodies ≡ bodies_len types
  pub local : length (header ++ bodies) ≤ setting.longest
  pub lengths : AreLengths (length (header ++ bodies)) rowid_len (4 + e)
  pub ends : EndsRowid (rowid_len == 9) end
  pub is : sighting ≡ sighted (Tail e) (length span) None None (seen types bodies)

-- ---- read from the front

-- what may stand behind the four bytes of a span: none where they don't say so
abbrev pub cut_as : ℕ → List ℕ → List ℕ
cut_as size bytes = take (size - 4) (drop 4 bytes)

-- the four bytes may begin a span
unfoldable pub may_begin : Setting → ℕ → ℕ → ℕ → Bool
may_begin setting len next size =
    nat_le 4 size && ((next == 0 || nat_le (setting.offset + size) next) && (setting.block || nat_le size len))

-- what may stand behind the four bytes at the front, where these can begin a span
unfoldable pub cut_in : Setting → List ℕ → Option (List ℕ)
cut_in setting bytes =
    if nat_lt (length bytes) 4 then None
    else (if may_begin setting (length bytes) (two_bytes_at (take 4 bytes) 0) (two_bytes_at (take 4 bytes) 2)
    then Some (cut_as (two_bytes_at (take 4 bytes) 2) bytes)
    else None)

-- how many bytes the rowid had, where that is possible
unfoldable pub rowid_len_in : ℕ → ℕ → Option ℕ
rowid_len_in payload together =
    if nat_lt (shortest payload) together && nat_le together (shortest payload + 9) then Some (together - shortest payload) else None

-- whether these can be the last bytes of a rowid
unfoldable pub ends_rowid : Bool → List ℕ → Bool
ends_rowid nine [] = true
ends_rowid nine (byte ∷ []) = nine || nat_lt byte 128
ends_rowid nine (byte ∷ next ∷ bytes) = nat_le 128 byte && ends_rowid nine (next ∷ bytes)

-- the payload of a record of such a header and such bodies, of which so much is left
abbrev pub payload_of : ℕ → Opened → ℕ
payload_of len parts = len - parts.left

-- a record in its place: of what is behind the four bytes nothing is left, unless a freeblock begins there
unfoldable pub is_placed : Setting → ℕ → Opened → Bool
is_placed setting len parts =
    nat_le (len - length parts.bodies) 127 && (nat_le (payload_of len parts) setting.longest && (setting.block || parts.left == 0))

-- such a record behind the last e bytes of a rowid
abbrev pub tailed : ℕ → List ℕ → ℕ → Opened → ℕ → Option Sighting
tailed e end len parts rowid_len =
    if ends_rowid (rowid_len == 9) end
    then Some (sighted (Tail e) (4 + e + payload_of len parts) None None (columns_in (Tail e) parts.types (take (length parts.bodies - parts.left) parts.bodies)))
    else None

-- the same where the record stands in its place and the lengths fit each other
unfoldable pub tail_made : ℕ → Setting → List ℕ → ℕ → Opened → Option Sighting
tail_made e setting end len parts =
    if is_placed setting len parts
    then (rowid_len_in (payload_of len parts) (4 + e) >>= λ rowid_len. tailed e end len parts rowid_len)
    else None

-- Tail(e), of what may stand behind the four bytes
unfoldable pub tail_in : ℕ → Setting → List ℕ → Option Sighting
tail_in e setting behind =
    if nat_lt (length behind) e then None
    else record_in (length (drop e behind)) (drop e behind) >>= λ parts. tail_made e setting (take e behind) (length (drop e behind)) parts

-- a record of a header of at most 127 bytes can begin behind so many bytes
abbrev pub has_short_header : List ℕ → ℕ → Bool
has_short_header behind e = nat_lt e (length behind) && nat_lt (slice_index behind e) 128

-- so many bytes or more can be the last of a rowid: the byte before the last of so many goes on
abbrev pub goes_on : List ℕ → ℕ → Bool
goes_on behind e = nat_lt e 2 || (nat_lt (e - 2) (length behind) && nat_le 128 (slice_index behind (e - 2)))

-- Tail(e), at the front
unfoldable pub tail_at : ℕ → Setting → List ℕ → Option Sighting
tail_at e setting bytes = cut_in setting bytes >>= λ behind. tail_in e setting behind
