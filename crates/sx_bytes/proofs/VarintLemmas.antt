-- Reading a variable-length integer and spelling one fit each other.
use Rattle.std.proofs.Common.{◌≡◌, ◌⊎◌, inl, inr, ℕ, ◌+◌, ◌*◌, ◌%◌, ◌^◌, ◌<◌, ◌≤◌, nat_lt, true, List, [], ◌∷◌, ◌++◌, length, take, slice_index, ◌↔◌, Option, Some, None, refl, sym, ap, ◌∙◌, arith}
use Rattle.std.specs.Prelude.{IsNone}
use Rattle.std.specs.List.{AllByRecursion}
use Rattle.std.proofs.Math.Nat.{pow-le-pow_right}
use Rattle.std.proofs.lemmas.Bool.{cases_lt, cases_eq}
use Rattle.std.proofs.lemmas.Bool.Decides.{nat_tests}
use Rattle.std.proofs.lemmas.List.{take_at}
use Rattle.std.proofs.lemmas.List.Elements.{All-from_recursion, recursion_from_All}
use Rattle.sx_bytes.specs.Varints.{IsRest, IsVarint, BeginsWith, EndsInside, varint_from, varint_at, shortest, short_at}

-- what so many bytes of seven bits give at most
pub at_most_eight : (read : ℕ) → read ≤ 8 → 128 ^ read ≤ 128 ^ 8
at_most_eight read few = pow-le-pow_right (omega arith) few

-- one byte more: the ninth, the last of fewer, one after which the number goes on
ninth : (read high b : ℕ) (bs : List ℕ) → read ≡ 8 → varint_from read high (b ∷ bs) ≡ Some (high * 256 + b, 9)
ninth read high b bs is = grind (arith, nat_tests)

last : (read high b : ℕ) (bs : List ℕ) → read < 8 → b < 128 → varint_from read high (b ∷ bs) ≡ Some (high * 128 + b, read + 1)
last read high b bs few ends = grind (arith, nat_tests)

more : (read high b : ℕ) (bs : List ℕ) → read < 8 → 128 ≤ b
    → varint_from read high (b ∷ bs) ≡ varint_from (read + 1) (high * 128 + b % 128) bs
more read high b bs few goes_on = grind (arith, nat_tests)

-- which of the three a byte is
abbrev Way : ℕ → ℕ → Type 0
Way read b = (read ≡ 8) ⊎ (((read < 8) × (b < 128)) ⊎ ((read < 8) × (128 ≤ b)))

way_of : (read b : ℕ) → read ≤ 8 → Way read b
way_of read b few =
    elim (cases_eq read 8) [
      | inl is ↦ inl is
      | inr other ↦ elim (cases_lt b 128) [
        | inl ends ↦ inr (inl (omega arith, ends))
        | inr goes_on ↦ inr (inr (omega arith, goes_on))
      ]
    ]

-- what was found, as one value
abbrev found_pair : ℕ → ℕ → Option (ℕ × ℕ)
found_pair value read = Some (value, read)

abbrev value_in : Option (ℕ × ℕ) → ℕ
value_in None = 0
value_in (Some found) = found.0

abbrev read_in : Option (ℕ × ℕ) → ℕ
read_in None = 0
read_in (Some found) = found.1

again_pair : (v w m n : ℕ) → v ≡ w → m ≡ n → found_pair v m ≡ found_pair w n
again_pair v w m n p q = cc

-- a number of one byte, and that it is in its shortest spelling
pub one_byte : (bytes : List ℕ) (byte : ℕ) → 0 < length bytes → slice_index bytes 0 ≡ byte → byte < 128 → varint_at bytes ≡ Some (byte, 1)
unfolding varint_at
one_byte [] byte some is small = absurd (omega arith)
one_byte (first ∷ bytes) byte some is small =
    let low : nat_lt first 128 ≡ true = grind (arith, nat_tests) in
    rw low (again_pair (0 * 128 + first) byte 1 1 (omega arith) refl)

pub short_byte : (bytes : List ℕ) (byte : ℕ) → 0 < length bytes → slice_index bytes 0 ≡ byte → byte < 128 → short_at bytes ≡ Some (byte, 1)
unfolding short_at shortest
short_byte bytes byte some is small =
    let below : nat_lt byte (2 ^ 7) ≡ true = grind (arith, nat_tests) in
    rw (one_byte bytes byte some is small, below) refl

same_value : (v w m n : ℕ) → found_pair v m ≡ found_pair w n → v ≡ w
same_value v w m n is = ap value_in is

same_read : (v w m n : ℕ) → found_pair v m ≡ found_pair w n → m ≡ n
same_read v w m n is = ap read_in is

again_from : (text rest : List ℕ) (read high value : ℕ) → IsRest read high text value
    → varint_from read high (text ++ rest) ≡ Some (value, read + length text)
again_from [] rest read high value is = absurd is
again_from (b ∷ []) rest read high value (inl is) =
    ninth read high b rest is.0 ∙ again_pair (high * 256 + b) value 9 (read + 1) (sym is.1) (omega arith)
again_from (b ∷ []) rest read high value (inr is) =
    last read high b rest is.0 is.1 ∙ again_pair (high * 128 + b) value (read + 1) (read + 1) (sym is.2) refl
again_from (b ∷ c ∷ bs) rest read high value is =
    more read high b ((c ∷ bs) ++ rest) is.0 is.1
    ∙ again_from (c ∷ bs) rest (read + 1) (high * 128 + b % 128) value is.2
    ∙ again_pair value value (read + 1 + length (c ∷ bs)) (read + length (b ∷ c ∷ bs)) refl (omega arith)

-- what is spelled is read, whatever follows
pub again : (text rest : List ℕ) (value : ℕ) → IsVarint text value → varint_at (text ++ rest) ≡ Some (value, length text)
unfolding varint_at
again text rest value is =
    again_from text rest 0 0 value is ∙ again_pair value value (0 + length text) (length text) refl (omega arith)

pub found_back : (bytes : List ℕ) (value read : ℕ) → BeginsWith bytes value read → varint_at bytes ≡ Some (value, read)
found_back bytes value read begins =
    ap varint_at begins.parts
    ∙ again begins.text begins.rest value begins.spells
    ∙ again_pair value value (length begins.text) read refl (sym begins.long)

-- the rest of a spelling stands at the front, and the whole has so many bytes
record BeginsRest (bytes : List ℕ) (read high value whole : ℕ) : Type 0 where
  text : List ℕ
  rest : List ℕ
  parts : bytes ≡ text ++ rest
  long : whole ≡ read + length text
  spells : IsRest read high text value

begins_more : (read high b value whole : ℕ) (bs text rest : List ℕ) → read < 8 → 128 ≤ b → bs ≡ text ++ rest
    → whole ≡ read + 1 + length text → IsRest (read + 1) (high * 128 + b % 128) text value
    → BeginsRest (b ∷ bs) read high value whole
begins_more read high b value whole bs [] rest few goes_on parts long spells = absurd spells
begins_more read high b value whole bs (c ∷ text) rest few goes_on parts long spells = record {
  text = b ∷ c ∷ text;
  rest = rest;
  parts = ap (λ tail. b ∷ tail) parts;
  long = omega arith;
  spells = (few, goes_on, spells);
}

found_step : (read high b value whole : ℕ) (bs : List ℕ)
    → ((next : ℕ) → read < 8 → varint_from (read + 1) next bs ≡ Some (value, whole) → BeginsRest bs (read + 1) next value whole)
    → Way read b → varint_from read high (b ∷ bs) ≡ Some (value, whole) → BeginsRest (b ∷ bs) read high value whole
found_step read high b value whole bs further (inl is) found =
    let both = sym (ninth read high b bs is) ∙ found in
    let value_is = same_value (high * 256 + b) value 9 whole both in
    let whole_is = same_read (high * 256 + b) value 9 whole both in
    record { text = b ∷ []; rest = bs; parts = refl; long = omega arith; spells = inl (is, sym value_is) }
found_step read high b value whole bs further (inr (inl is)) found =
    let both = sym (last read high b bs is.0 is.1) ∙ found in
    let value_is = same_value (high * 128 + b) value (read + 1) whole both in
    let whole_is = same_read (high * 128 + b) value (read + 1) whole both in
    record { text = b ∷ []; rest = bs; parts = refl; long = omega arith; spells = inr (is.0, is.1, sym value_is) }
found_step read high b value whole bs further (inr (inr is)) found =
    let tail = further (high * 128 + b % 128) is.0 (sym (more read high b bs is.0 is.1) ∙ found) in
    begins_more read high b value whole bs tail.text tail.rest is.0 is.1 tail.parts tail.long tail.spells

found_from : (bytes : List ℕ) (read high value whole : ℕ) → read ≤ 8 → varint_from read high bytes ≡ Some (value, whole)
    → BeginsRest bytes read high value whole
found_from [] read high value whole few found = absurd cc
found_from (b ∷ bs) read high value whole few found =
    found_step read high b value whole bs
    (λ next less tail. found_from bs (read + 1) next value whole (omega arith) tail)
    (way_of read b few) found

-- what is read is spelled at the front
pub found : (bytes : List ℕ) (value read : ℕ) → varint_at bytes ≡ Some (value, read) → BeginsWith bytes value read
unfolding varint_at
found bytes value read is =
    let begins = found_from bytes 0 0 value read (omega arith) is in
    record { text = begins.text; rest = begins.rest; parts = begins.parts; long = omega (arith, begins.long); spells = begins.spells }

-- the bytes end inside the number of which so many came before
abbrev EndsRest : ℕ → List ℕ → Type 0
EndsRest read bytes = (length bytes + read < 9) × AllByRecursion (λ b. 128 ≤ b) bytes

ends_step : (read high b : ℕ) (bs : List ℕ)
    → ((next : ℕ) → read < 8 → varint_from (read + 1) next bs ≡ None → EndsRest (read + 1) bs)
    → Way read b → varint_from read high (b ∷ bs) ≡ None → EndsRest read (b ∷ bs)
ends_step read high b bs further (inl is) none = absurd (let both = sym (ninth read high b bs is) ∙ none in cc)
ends_step read high b bs further (inr (inl is)) none = absurd (let both = sym (last read high b bs is.0 is.1) ∙ none in cc)
ends_step read high b bs further (inr (inr is)) none =
    let tail = further (high * 128 + b % 128) is.0 (sym (more read high b bs is.0 is.1) ∙ none) in
    (omega arith, (is.1, tail.1))

ends_from : (bytes : List ℕ) (read high : ℕ) → read ≤ 8 → varint_from read high bytes ≡ None → EndsRest read bytes
ends_from [] read high few none = (omega arith, tt)
ends_from (b ∷ bs) read high few none =
    ends_step read high b bs (λ next less tail. ends_from bs (read + 1) next (omega arith) tail) (way_of read b few) none

none_from : (bytes : List ℕ) (read high : ℕ) → EndsRest read bytes → varint_from read high bytes ≡ None
none_from [] read high ends = refl
none_from (b ∷ bs) read high ends =
    more read high b bs (omega arith) ends.1.0
    ∙ none_from bs (read + 1) (high * 128 + b % 128) (omega arith, ends.1.1)

is_none : (found : Option (ℕ × ℕ)) → IsNone found → found ≡ None
is_none None none = refl
is_none (Some found) none = absurd cc

-- nothing is read exactly where the bytes end inside the number
pub none_ends : (bytes : List ℕ) → IsNone (varint_at bytes) ↔ EndsInside bytes
unfolding varint_at
none_ends bytes = (
  λ none. let ends = ends_from bytes 0 0 (omega arith) (is_none (varint_from 0 0 bytes) none) in
      record { short = omega (arith, ends.0); goes_on = All-from_recursion (λ b. 128 ≤ b) bytes ends.1 },
  λ ends. rw (none_from bytes 0 0 (omega (arith, ends.short), recursion_from_All (λ b. 128 ≤ b) bytes ends.goes_on)) refl,
)

-- two spellings at one place
both_read : (a b x y : List ℕ) (v w : ℕ) → IsVarint a v → IsVarint b w → a ++ x ≡ b ++ y → found_pair v (length a) ≡ found_pair w (length b)
both_read a b x y v w p q same = sym (again a x v p) ∙ ap varint_at same ∙ again b y w q

pub one_value : (a b x y : List ℕ) (v w : ℕ) → IsVarint a v → IsVarint b w → a ++ x ≡ b ++ y → v ≡ w
one_value a b x y v w p q same = same_value v w (length a) (length b) (both_read a b x y v w p q same)

pub one_text : (a b x y : List ℕ) (v w : ℕ) → IsVarint a v → IsVarint b w → a ++ x ≡ b ++ y → a ≡ b
one_text a b x y v w p q same =
    let long = same_read v w (length a) (length b) (both_read a b x y v w p q same) in
    sym (take_at a x (length a) refl) ∙ ap (take (length a)) same ∙ take_at b y (length a) (sym long)
