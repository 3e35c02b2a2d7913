-- Cells of which four bytes were overwritten that reach into the record's header: its types, from some column on, and their
-- bodies.
use Rattle.std.specs.Prelude.{◌≡◌, ℕ, zero, suc, ◌+◌, ◌-◌, ◌<◌, ◌≤◌, ◌==◌, Bool, true, false, ◌&&◌, ◌||◌, nat_le, nat_lt, if◌then◌else◌, List, ◌∷◌, ◌++◌, length, take, drop, Option, Some, None}
use Rattle.sx_base.specs.Bytes.{two_bytes_at}
use Rattle.sx_record.specs.SerialTypes.{body_len, is_unused}
use Rattle.sx_record.specs.Records.{bodies_len}
use Rattle.sx_grammar.specs.declared.form.Form.TheVariants.{Types, Lost}
use Rattle.sx_grammar.specs.Shorts.{◌>>=◌, AreTypes, short_field}
use Rattle.sx_grammar.specs.Sightings.{Sighting, sighted, seen, lost, columns_in}
use Rattle.sx_grammar.specs.Clips.{Setting, IsCut, AreLengths, cut_in, rowid_len_in}

-- Types(n): the types of n columns, whose header was one byte longer, and their bodies
pub record IsTyped (n : ℕ) (setting : Setting) (span : List ℕ) (sighting : Sighting) : Type 0 where
  pub four : List ℕ
  pub types_text : List ℕ
  pub types : List ℕ
  pub bodies : List ℕ
  pub rowid_len : ℕ
  pub parts : span ≡ four ++ (types_text ++ bodies)
  pub cut : IsCut setting four (length span)
  pub spelled : AreTypes types types_text
  pub count : length types ≡ n
  pub some : 0 < n
  pub few : 1 + length types_text ≤ 127
  pub filled : length bodies ≡ bodies_len types
  pub local : 1 + length (types_text ++ bodies) ≤ setting.longest
  pub lengths : AreLengths (1 + length (types_text ++ bodies)) rowid_len 3
  pub is : sighting ≡ sighted (Types n) (length span) None None (seen types bodies)

-- the body of a column whose type is lost: an alias of the rowid has none; another one fills the span
abbrev pub IsFirst : Bool → List ℕ → ℕ → ℕ → Type 0
IsFirst true body len size = length body ≡ 0
IsFirst false body len size = (length body ≤ 57) × (len ≡ size)

-- Lost(n, alias): the types of all columns but the first, whose header was two bytes longer, and the bodies of all
pub record IsLost (n : ℕ) (alias : Bool) (setting : Setting) (span : List ℕ) (sighting : Sighting) : Type 0 where
  pub four : List ℕ
  pub types_text : List ℕ
  pub types : List ℕ
  pub first : List ℕ
  pub bodies : List ℕ
  pub rowid_len : ℕ
  pub parts : span ≡ four ++ (types_text ++ (first ++ bodies))
  pub cut : IsCut setting four (length span)
  pub spelled : AreTypes types types_text
  pub count : suc (length types) ≡ n
  pub few : 2 + length types_text ≤ 127
  pub first_is : IsFirst alias first (length span) (two_bytes_at four 2)
  pub filled : length bodies ≡ bodies_len types
  pub small : 2 + length (types_text ++ (first ++ bodies)) ≤ 127
  pub local : 2 + length (types_text ++ (first ++ bodies)) ≤ setting.longest
  pub lengths : AreLengths (2 + length (types_text ++ (first ++ bodies))) rowid_len 2
  pub is : sighting ≡ sighted (Lost n alias) (length span) None None (lost ∷ seen types bodies)

-- ---- read from the front

-- types read so far: how many bytes their bodies have, and what is behind them
pub record Front : Type 0 where
  pub sum : ℕ
  pub rest : List ℕ

-- the same as one value
abbrev pub front : ℕ → List ℕ → Front
front sum rest = record { sum = sum; rest = rest }

-- one more type, of bytes that had so many: none where it is unused, where the types have more than 126 bytes, and where the
-- bodies do not fit behind them
abbrev pub fronted : ℕ → ℕ → ℕ → List ℕ → Option Front
fronted len type sum rest =
    if is_unused type then None
    else (if nat_le (len - length rest) 126 && nat_le sum (length rest) then Some (front sum rest) else None)

-- the type at the front of what is behind, after those before
unfoldable pub front_more : ℕ → Front → Option Front
front_more len before = do
  type ← short_field before.rest
  fronted len type.0 (before.sum + body_len type.0) type.1

-- so many more types
unfoldable pub front_of : ℕ → ℕ → Front → Option Front
front_of len zero before = Some before
front_of len (suc n) before = front_more len before >>= λ after. front_of len n after

-- the types of n columns with their bodies, and a header's size in front of them
unfoldable pub is_typed : ℕ → Setting → ℕ → Front → Bool
is_typed n setting len read =
    nat_lt 0 n && (nat_le (1 + (len - length read.rest) + read.sum) setting.longest && (setting.block || length read.rest == read.sum))

-- Types(n) of types that were read, where they stand in their place and the lengths fit each other
unfoldable pub types_made : ℕ → Setting → List ℕ → Front → Option Sighting
types_made n setting behind read =
    if is_typed n setting (length behind) read
    then (rowid_len_in (1 + (length behind - length read.rest) + read.sum) 3 >>= λ rowid_len. Some (sighted (Types n)
    (4 + (length behind - length read.rest) + read.sum) None None
    (columns_in (Types n) (take (length behind - length read.rest) behind) (take read.sum read.rest))))
    else None

-- Types(n), of what may stand behind the four bytes
unfoldable pub types_in : ℕ → Setting → List ℕ → Option Sighting
types_in n setting behind = front_of (length behind) n (front 0 behind) >>= λ read. types_made n setting behind read

-- Types(n), at the front
unfoldable pub types_at : ℕ → Setting → List ℕ → Option Sighting
types_at n setting bytes = cut_in setting bytes >>= λ behind. types_in n setting behind

-- how long the first body is, whose type is lost, where behind the types and the other bodies so much is left; none where
-- that isn't possible
unfoldable pub first_len : Bool → Bool → ℕ → Option ℕ
first_len true whole left = Some 0
first_len false whole left = if whole && nat_le left 57 then Some left else None

-- whether a record whose first body has so many bytes stands in its place
unfoldable pub is_lost : Setting → ℕ → Front → ℕ → Bool
is_lost setting len read first =
    nat_le (2 + (len - length read.rest) + first + read.sum) 127
    && (nat_le (2 + (len - length read.rest) + first + read.sum) setting.longest && (setting.block || length read.rest == first + read.sum))

-- Lost(n, alias) with such a first body
abbrev pub lost_as : ℕ → Bool → Setting → List ℕ → Front → ℕ → Option Sighting
lost_as n alias setting behind read first =
    if is_lost setting (length behind) read first
    then Some (sighted (Lost n alias) (4 + (length behind - length read.rest) + first + read.sum) None None
    (columns_in (Lost n alias) (take (length behind - length read.rest) behind) (take read.sum (drop first read.rest))))
    else None

-- Lost(n, alias) of types that were read
unfoldable pub lost_made : ℕ → Bool → Setting → Bool → List ℕ → Front → Option Sighting
lost_made n alias setting whole behind read =
    first_len alias whole (length read.rest - read.sum) >>= λ first. lost_as n alias setting behind read first

-- Lost(n, alias), of what may stand behind the four bytes
unfoldable pub lost_in : ℕ → Bool → Setting → Bool → List ℕ → Option Sighting
lost_in n alias setting whole behind = front_of (length behind) (n - 1) (front 0 behind) >>= λ read. lost_made n alias setting whole behind read

-- as many bytes are there as the four say
abbrev pub is_whole : List ℕ → Bool
is_whole bytes = nat_le (two_bytes_at (take 4 bytes) 2) (length bytes)

-- Lost(n, alias), at the front
unfoldable pub lost_at : ℕ → Bool → Setting → List ℕ → Option Sighting
lost_at n alias setting bytes = cut_in setting bytes >>= λ behind. lost_in n alias setting (is_whole bytes) behind
