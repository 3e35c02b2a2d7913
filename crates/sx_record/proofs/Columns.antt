-- The types of a header and the columns behind it, one at a time.
use Rattle.std.proofs.Common.{◌≡◌, ℕ, zero, suc, ◌+◌, ◌<◌, ◌≤◌, true, List, [], ◌∷◌, length, take, drop, Option, Some, None, is_some, refl, ap, ◌∙◌, arith, length-drop}
use Rattle.std.specs.Option.{option_map}
use Rattle.sx_bytes.specs.Varints.{varint_at, IsVarint}
use Rattle.sx_bytes.proofs.VarintLemmas.{found}
use Rattle.sx_record.specs.SerialTypes.{body_len, content_in}
use Rattle.sx_record.specs.Records.{types_within, types_in, found_first, contents, bodies_len, types_or_none, columns_in, IsFilled}

-- a number that is read has at least one byte
pub some_read : (bytes : List ℕ) (value read : ℕ) → varint_at bytes ≡ Some (value, read) → 0 < read
some_read bytes value read is = let begins = found bytes value read is in some_text begins.text value begins.spells begins.long
  where
    some_text : (text : List ℕ) (value : ℕ) → IsVarint text value → read ≡ length text → 0 < read
    some_text [] value spells long = absurd spells
    some_text (byte ∷ text) value spells long = omega arith

-- how many bytes there may be makes no difference, where they are enough
first_same : (found : Option (ℕ × ℕ)) (f g : ℕ → Option (List ℕ)) → ((value read : ℕ) → found ≡ Some (value, read) → f read ≡ g read) → found_first found f ≡ found_first found g
first_same None f g same = refl
first_same (Some found) f g same = ap (option_map (λ types. found.0 ∷ types)) (same found.0 found.1 refl)

enough : (most more : ℕ) (bytes : List ℕ) → length bytes ≤ most → length bytes ≤ more → types_within most bytes ≡ types_within more bytes
unfolding types_within
enough zero zero bytes here there = refl
enough zero (suc more) [] here there = refl
enough zero (suc more) (byte ∷ bytes) here there = absurd (omega arith)
enough (suc most) zero [] here there = refl
enough (suc most) zero (byte ∷ bytes) here there = absurd (omega arith)
enough (suc most) (suc more) [] here there = refl
enough (suc most) (suc more) (byte ∷ bytes) here there =
    first_same (varint_at (byte ∷ bytes)) _ _
    (λ value read is.
    let some = some_read (byte ∷ bytes) value read is in
    let len = length-drop read (byte ∷ bytes) in
    enough most more (drop read (byte ∷ bytes)) (omega (arith, len)) (omega (arith, len)))

-- no type ends
pub no_type : (bytes : List ℕ) → varint_at bytes ≡ None → 0 < length bytes → types_in bytes ≡ None
unfolding types_in types_within
no_type [] none some = absurd (omega arith)
no_type (byte ∷ bytes) none some = ap (λ found. found_first found (λ len. types_within (length bytes) (drop len (byte ∷ bytes)))) none

-- nothing is left
pub no_bytes : (bytes : List ℕ) → length bytes ≡ 0 → types_in bytes ≡ Some []
unfolding types_in types_within
no_bytes [] none = refl
no_bytes (byte ∷ bytes) none = absurd (omega arith)

-- a type stands first
pub one_type : (bytes : List ℕ) (type len : ℕ) → varint_at bytes ≡ Some (type, len) → 0 < len → 0 < length bytes
    → types_in bytes ≡ option_map (λ types. type ∷ types) (types_in (drop len bytes))
unfolding types_in types_within
one_type [] type len found some there = absurd (omega arith)
one_type (byte ∷ bytes) type len found some there =
    let left = length-drop len (byte ∷ bytes) in
    ap (λ found. found_first found (λ len. types_within (length bytes) (drop len (byte ∷ bytes)))) found
    ∙ ap (option_map (λ types. type ∷ types)) (enough (length bytes) (length (drop len (byte ∷ bytes))) (drop len (byte ∷ bytes)) (omega (arith, left)) (omega arith))

-- the first of the columns, where a type stands first and all are filled
record IsFirst (type : ℕ) (types bodies : List ℕ) (behind : List ℕ) : Type 0 where
  pub there : body_len type ≤ length bodies
  pub column : columns_in types bodies ≡ content_in type (take (body_len type) bodies) ∷ columns_in behind (drop (body_len type) bodies)
  pub filled : IsFilled behind (drop (body_len type) bodies)

first_of_all : (type : ℕ) (types behind bodies : List ℕ) (all rest : Option (List ℕ)) → types_in types ≡ all → types_in behind ≡ rest
    → all ≡ option_map (λ types. type ∷ types) rest → is_some all ≡ true → bodies_len (types_or_none all) ≡ length bodies
    → IsFirst type types bodies behind
unfolding columns_in contents
first_of_all type types behind bodies all None read left is whole full = absurd (cc)
first_of_all type types behind bodies all (Some others) read left is whole full =
    let sum : body_len type + bodies_len others ≡ length bodies = rw is at full in
    record {
      there = omega arith;
      column = rw (read, is, left) refl;
      filled = record {
        whole = rw left refl;
        full = rw left (simp (length-drop) (omega arith));
      };
    }

first : (types bodies : List ℕ) (type len : ℕ) → varint_at types ≡ Some (type, len) → 0 < len → len ≤ length types → IsFilled types bodies
    → IsFirst type types bodies (drop len types)
first types bodies type len found some within filled =
    first_of_all type types (drop len types) bodies (types_in types) (types_in (drop len types)) refl refl
    (one_type types type len found some (omega arith)) filled.whole filled.full

-- no column is left
pub no_column : (types bodies : List ℕ) → varint_at types ≡ None → columns_in types bodies ≡ []
unfolding columns_in contents types_in types_within
no_column [] bodies none = refl
no_column (byte ∷ types) bodies none = ap (λ found. contents (types_or_none (found_first found (λ len. types_within (length types) (drop len (byte ∷ types))))) bodies) none

-- a column stands first
pub one_column : (types bodies : List ℕ) (type len : ℕ) → varint_at types ≡ Some (type, len) → 0 < len → len ≤ length types → IsFilled types bodies
    → columns_in types bodies ≡ content_in type (take (body_len type) bodies) ∷ columns_in (drop len types) (drop (body_len type) bodies)
one_column types bodies type len found some within filled = (first types bodies type len found some within filled).column

-- its body is there
pub body_there : (types bodies : List ℕ) (type len : ℕ) → varint_at types ≡ Some (type, len) → 0 < len → len ≤ length types → IsFilled types bodies
    → body_len type ≤ length bodies
body_there types bodies type len found some within filled = (first types bodies type len found some within filled).there

-- the columns behind it are filled
pub filled_behind : (types bodies : List ℕ) (type len : ℕ) → varint_at types ≡ Some (type, len) → 0 < len → len ≤ length types → IsFilled types bodies
    → IsFilled (drop len types) (drop (body_len type) bodies)
filled_behind types bodies type len found some within filled = (first types bodies type len found some within filled).filled
