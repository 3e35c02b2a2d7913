-- Things that stand one behind the other: which of them holds a byte.
use Rattle.std.proofs.Common.{◌≡◌, ℕ, zero, suc, ◌+◌, ◌-◌, ◌*◌, ◌<◌, ◌≤◌, Bool, true, false, ◌&&◌, nat_le, nat_lt, cond, List, [], ◌∷◌, ◌++◌, Option, None, Some, inl, inr, refl, ap, ◌∙◌, arith, append-nil, zero-add}
use Rattle.std.specs.List.{range_with_len, flat_map, count_by}
use Rattle.std.proofs.lemmas.List.Sums.{sum_by-cons}
use Rattle.std.proofs.lemmas.Bool.{cases_lt}
use Rattle.std.proofs.lemmas.Bool.Decides.{nat_tests}
use Rattle.std.proofs.Math.Nat.{mul-le-mul_right}
use Rattle.std.proofs.lemmas.Grind.{flat_map-append}
use Rattle.sx_base.proofs.Ranges.{range_append}
use Rattle.sx_images.specs.declared.physical.Physical.{Physical}
use Rattle.sx_images.specs.Places.{Thing, thing, holds, found, holders}
use Rattle.sx_images.specs.Search.{or_else}

count_by-cons : (p : Thing → Bool) (t : Thing) (things : List Thing) → count_by p (t ∷ things) ≡ cond (p t) 1 0 + count_by p things
count_by-cons p t things = sum_by-cons (λ x. cond (p x) 1 0) t things

-- the things stand one behind the other, from a place to another
abbrev pub Between : ℕ → ℕ → List Thing → Type 0
Between from to [] = from ≤ to
Between from to (thing ∷ things) = (from ≤ thing.start) × Between (thing.start + thing.len) to things

-- the same without an end
abbrev pub Rise : ℕ → List Thing → Type 0
Rise from [] = Unit {0}
Rise from (thing ∷ things) = (from ≤ thing.start) × Rise (thing.start + thing.len) things

pub or_none : (answer : Option Physical) → or_else answer None ≡ answer
or_none None = refl
or_none (Some physical) = refl

found_case : (t : Thing) (xs ys : List Thing) (offset : ℕ) (b : Bool) → found (xs ++ ys) offset ≡ or_else (found xs offset) (found ys offset)
    → cond b (Some (t.byte (offset - t.start))) (found (xs ++ ys) offset) ≡ or_else (cond b (Some (t.byte (offset - t.start))) (found xs offset)) (found ys offset)
found_case t xs ys offset true same = refl
found_case t xs ys offset false same = same

pub found-append : (xs ys : List Thing) (offset : ℕ) → found (xs ++ ys) offset ≡ or_else (found xs offset) (found ys offset)
found-append [] ys offset = refl
found-append (t ∷ xs) ys offset = found_case t xs ys offset (holds offset t) (found-append xs ys offset)

not_before : (start len offset : ℕ) → offset < start → (nat_le start offset && nat_lt offset (start + len)) ≡ false
not_before start len offset before = grind (arith, nat_tests)

not_behind : (start len offset : ℕ) → start + len ≤ offset → (nat_le start offset && nat_lt offset (start + len)) ≡ false
not_behind start len offset behind = grind (arith, nat_tests)

is_within : (start len offset : ℕ) → start ≤ offset → offset < start + len → (nat_le start offset && nat_lt offset (start + len)) ≡ true
is_within start len offset from below = grind (arith, nat_tests)

pub within_is : (start len offset : ℕ) → (nat_le start offset && nat_lt offset (start + len)) ≡ true → (start ≤ offset) × (offset < start + len)
within_is start len offset is = (grind (arith, nat_tests), grind (arith, nat_tests))

-- a thing that holds the byte is the first one
pub found_at : (start len : ℕ) (byte : ℕ → Physical) (things : List Thing) (b offset : ℕ) → offset ≡ start + b → b < len
    → found (thing start len byte ∷ things) offset ≡ Some (byte b)
found_at start len byte things b offset is within =
    let back : offset - start ≡ b = omega (arith, is) in
    rw (is_within start len offset (omega (arith, is)) (omega (arith, is))) (ap (λ n. Some (byte n)) back)

-- a thing that ends before the byte is passed over
pub found_past : (start len : ℕ) (byte : ℕ → Physical) (things : List Thing) (offset : ℕ) → start + len ≤ offset
    → found (thing start len byte ∷ things) offset ≡ found things offset
found_past start len byte things offset past = rw (not_behind start len offset past) refl

pub rise_before : (from : ℕ) (things : List Thing) (offset : ℕ) → Rise from things → offset < from → found things offset ≡ None
rise_before from [] offset rise before = refl
rise_before from (t ∷ things) offset rise before =
    let rest = rise_before (t.start + t.len) things offset rise.1 (omega (arith, rise.0)) in
    rw (not_before t.start t.len offset (omega (arith, rise.0))) rest

pub rises : (from to : ℕ) (things : List Thing) → Between from to things → Rise from things
rises from to [] between = tt
rises from to (t ∷ things) between = (between.0, rises (t.start + t.len) to things between.1)

pub found_before : (from to : ℕ) (things : List Thing) (offset : ℕ) → Between from to things → offset < from → found things offset ≡ None
found_before from to things offset between before = rise_before from things offset (rises from to things between) before

pub between_order : (from to : ℕ) (things : List Thing) → Between from to things → from ≤ to
between_order from to [] between = between
between_order from to (t ∷ things) between =
    let rest = between_order (t.start + t.len) to things between.1 in omega (arith, between.0, rest)

pub found_behind : (from to : ℕ) (things : List Thing) (offset : ℕ) → Between from to things → to ≤ offset → found things offset ≡ None
found_behind from to [] offset between behind = refl
found_behind from to (t ∷ things) offset between behind =
    let order = between_order (t.start + t.len) to things between.1 in
    found_past t.start t.len t.byte things offset (omega (arith, order)) ∙ found_behind (t.start + t.len) to things offset between.1 behind

pub between_widen : (from to least most : ℕ) (things : List Thing) → Between from to things → least ≤ from → to ≤ most → Between least most things
between_widen from to least most [] between lower higher = omega (arith, between)
between_widen from to least most (t ∷ things) between lower higher =
    (omega (arith, between.0), between_widen (t.start + t.len) to (t.start + t.len) most things between.1 (omega arith) higher)

pub between_append : (from middle to : ℕ) (xs ys : List Thing) → Between from middle xs → Between middle to ys → Between from to (xs ++ ys)
between_append from middle to [] ys front back = between_widen middle to from to ys back front (omega arith)
between_append from middle to (t ∷ xs) ys front back =
    (front.0, between_append (t.start + t.len) middle to xs ys front.1 back)

pub rise_lower : (from least : ℕ) (things : List Thing) → Rise from things → least ≤ from → Rise least things
rise_lower from least [] rise lower = tt
rise_lower from least (t ∷ things) rise lower = (omega (arith, rise.0), rise.1)

pub rise_append : (from middle : ℕ) (xs ys : List Thing) → Between from middle xs → Rise middle ys → Rise from (xs ++ ys)
rise_append from middle [] ys front back = rise_lower middle from ys back front
rise_append from middle (t ∷ xs) ys front back = (front.0, rise_append (t.start + t.len) middle xs ys front.1 back)

none_before : (from : ℕ) (things : List Thing) (offset : ℕ) → Rise from things → offset < from → count_by (holds offset) things ≡ 0
none_before from [] offset rise before = refl
none_before from (t ∷ things) offset rise before =
    let rest = none_before (t.start + t.len) things offset rise.1 (omega (arith, rise.0)) in
    count_by-cons (holds offset) t things ∙ rw (not_before t.start t.len offset (omega (arith, rise.0))) (zero-add _ ∙ rest)

once_case : (t : Thing) (things : List Thing) (offset : ℕ) (b : Bool) → holds offset t ≡ b → Rise (t.start + t.len) things
    → count_by (holds offset) things ≤ 1 → cond b 1 0 + count_by (holds offset) things ≤ 1
once_case t things offset true is rise rest =
    let below = within_is t.start t.len offset is in
    let none = none_before (t.start + t.len) things offset rise below.1 in
    omega (arith, none)
once_case t things offset false is rise rest = rw (zero-add (count_by (holds offset) things)) rest

-- no byte is held twice
pub once : (from : ℕ) (things : List Thing) (offset : ℕ) → Rise from things → holders things offset ≤ 1
unfolding holders
once from [] offset rise = omega arith
once from (t ∷ things) offset rise =
    let rest = once (t.start + t.len) things offset rise.1 in
    rw (count_by-cons (holds offset) t things) (once_case t things offset (holds offset t) refl rise.1 rest)

-- ---- things at regular places

pub flat_more : (f : ℕ → List Thing) (n : ℕ) → flat_map f (range_with_len 0 (suc n)) ≡ flat_map f (range_with_len 0 n) ++ f n
flat_more f n =
    let one : suc n ≡ n + 1 = omega arith in
    ap (λ k. flat_map f (range_with_len 0 k)) one
    ∙ ap (flat_map f) (range_append 0 n 1)
    ∙ flat_map-append f (range_with_len 0 n) (range_with_len (0 + n) 1)
    ∙ ap (λ last. flat_map f (range_with_len 0 n) ++ last) (append-nil (f (0 + n)))
    ∙ ap (λ k. flat_map f (range_with_len 0 n) ++ f k) (zero-add n)

-- so many rows of things stand at equal distances
pub regular_between : (f : ℕ → List Thing) (start size n : ℕ) → ((i : ℕ) → Between (start + i * size) (start + i * size + size) (f i))
    → Between start (start + n * size) (flat_map f (range_with_len 0 n))
regular_between f start size zero rows = omega arith
regular_between f start size (suc n) rows =
    let before = regular_between f start size n rows in
    let last : Between (start + n * size) (start + suc n * size) (f n) = between_widen (start + n * size) (start + n * size + size) _ _ (f n) (rows n) (omega arith) (omega arith) in
    rw (flat_more f n) (between_append start (start + n * size) (start + suc n * size) _ (f n) before last)

pub regular_past : (f : ℕ → List Thing) (start size n q offset : ℕ) → ((i : ℕ) → Between (start + i * size) (start + i * size + size) (f i))
    → start + q * size ≤ offset → n ≤ q → found (flat_map f (range_with_len 0 n)) offset ≡ None
regular_past f start size n q offset rows from past =
    let more : n * size ≤ q * size = mul-le-mul_right size past in
    found_behind start (start + n * size) _ offset (regular_between f start size n rows) (omega (arith, more))

-- the byte is in the row of its distance
pub regular_here : (f : ℕ → List Thing) (start size n q offset : ℕ) → ((i : ℕ) → Between (start + i * size) (start + i * size + size) (f i))
    → start + q * size ≤ offset → offset < start + q * size + size → q < n → found (flat_map f (range_with_len 0 n)) offset ≡ found (f q) offset
regular_here f start size zero q offset rows from below inside = absurd (omega arith)
regular_here f start size (suc n) q offset rows from below inside =
    rw (flat_more f n) (found-append (flat_map f (range_with_len 0 n)) (f n) offset
    ∙ elim (cases_lt q n) [
      | inl before ↦
          let here = regular_here f start size n q offset rows from below before in
          let more : suc q * size ≤ n * size = mul-le-mul_right size before in
          let none = found_before (start + n * size) (start + n * size + size) (f n) offset (rows n) (omega (arith, more)) in
          ap (or_else (found (flat_map f (range_with_len 0 n)) offset)) none ∙ or_none _ ∙ here
      | inr past ↦
          let none = regular_past f start size n q offset rows from past in
          let same : n ≡ q = omega arith in
          ap (λ answer. or_else answer (found (f n) offset)) none ∙ ap (λ k. found (f k) offset) same
    ])
