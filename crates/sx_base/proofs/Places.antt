-- Facts on the first and the last place below a bound that pass a test, and on whether one does.
use Rattle.std.proofs.Common.{◌≡◌, ℕ, zero, suc, ◌+◌, ◌<◌, ◌≤◌, Bool, true, false, cond, ◌||◌, nat_le, nat_lt, min, List, [], ◌∷◌, ◌++◌, Option, Some, None, filter, is_some, refl, sym, ap, ◌∙◌, arith, inl, inr, eq-or-lt_of_le, subst, zero-add, add-one, append-nil}
use Rattle.std.specs.List.{range_with_len, last_or, list_any}
use Rattle.std.proofs.lemmas.Bool.{ltb-true, lt-ltb, le-ltb, lt-leb, le-leb}
use Rattle.std.proofs.lemmas.List.Elements.{filter-append}
use Rattle.std.proofs.lemmas.List.Folds.{list_any-append}
use Rattle.sx_base.specs.Places.{first_of, first_place, last_place}
use Rattle.sx_base.proofs.Ranges.{range_append}

-- ---- the last place

range_one : (n : ℕ) → range_with_len 0 (n + 1) ≡ range_with_len 0 n ++ n ∷ []
range_one n = range_append 0 n 1 ∙ rw zero-add refl

last_or_kept : (before : Option ℕ) (xs : List ℕ) (x : ℕ) → last_or before (xs ++ x ∷ []) ≡ Some x
last_or_kept before [] x = refl
last_or_kept before (y ∷ xs) x = last_or_kept (Some y) xs x

last_or_filter : (test : ℕ → Bool) (xs : List ℕ) (x : ℕ) (b : Bool) → test x ≡ b
    → last_or None (filter test xs ++ filter test (x ∷ [])) ≡ cond b (Some x) (last_or None (filter test xs))
last_or_filter test xs x true is = rw is (last_or_kept None (filter test xs) x)
last_or_filter test xs x false is = rw is (rw append-nil refl)

-- no place is below 0
pub last_place-zero : (test : ℕ → Bool) → last_place test 0 ≡ None
unfolding last_place
last_place-zero test = refl

-- one more place
pub last_place-more : (test : ℕ → Bool) (n : ℕ) → last_place test (n + 1) ≡ cond (test n) (Some n) (last_place test n)
unfolding last_place
last_place-more test n =
    ap (λ places. last_or None (filter test places)) (range_one n)
    ∙ ap (last_or None) (filter-append test (range_with_len 0 n) (n ∷ []))
    ∙ last_or_filter test (range_with_len 0 n) n (test n) refl

last_place-more_as : (test : ℕ → Bool) (n : ℕ) (b : Bool) → test n ≡ b
    → last_place test (suc n) ≡ cond b (Some n) (last_place test n)
last_place-more_as test n b is = rw (← is, ← add-one) (last_place-more test n)

-- tests that agree below a bound have one answer there
pub last_place-same : (p q : ℕ → Bool) (n : ℕ) → ((k : ℕ) → k < n → p k ≡ q k) → last_place p n ≡ last_place q n
last_place-same p q zero same = last_place-zero p ∙ sym (last_place-zero q)
last_place-same p q (suc n) same =
    last_place-more_as p n (q n) (same n (omega arith))
    ∙ ap (λ rest. cond (q n) (Some n) rest) (last_place-same p q n (λ k below. same k (omega arith)))
    ∙ sym (last_place-more_as q n (q n) refl)

-- one past the place that was found, and 0 where none was
abbrev pub reach : Option ℕ → ℕ
reach None = 0
reach (Some place) = place + 1

last_place_case : (test : ℕ → Bool) (n place : ℕ) (b : Bool) → test n ≡ b
    → cond b (Some n) (last_place test n) ≡ Some place
    → (last_place test n ≡ Some place → (place < n) × (test place ≡ true))
    → (place < suc n) × (test place ≡ true)
last_place_case test n place true is found lower =
    let same : n ≡ place = cc in
    (omega arith, rw (← same) is)
last_place_case test n place false is found lower =
    let below = lower found in
    (omega (arith, below.0), below.1)

-- what is found lies below the bound and passes the test
pub last_place_passes : (test : ℕ → Bool) (n place : ℕ) → last_place test n ≡ Some place → (place < n) × (test place ≡ true)
last_place_passes test zero place found = let never : None ≡ Some place = sym (last_place-zero test) ∙ found in cc
last_place_passes test (suc n) place found =
    last_place_case test n place (test n) refl
    (sym (last_place-more_as test n (test n) refl) ∙ found)
    (last_place_passes test n place)

reach_case : (test : ℕ → Bool) (n : ℕ) (b : Bool) → reach (last_place test n) ≤ n
    → reach (cond b (Some n) (last_place test n)) ≤ suc n
reach_case test n true lower = omega arith
reach_case test n false lower = omega arith

pub reach_within : (test : ℕ → Bool) (n : ℕ) → reach (last_place test n) ≤ n
reach_within test zero = rw last_place-zero (omega arith)
reach_within test (suc n) =
    rw (last_place-more_as test n (test n) refl) (reach_case test n (test n) (reach_within test n))

cut_case : (test : ℕ → Bool) (n b : ℕ) (passes : Bool) → test n ≡ passes → b ≤ suc n
    → ((c : ℕ) → c ≤ n → last_place test c ≡ last_place test (min c (reach (last_place test n))))
    → last_place test b ≡ last_place test (min b (reach (cond passes (Some n) (last_place test n))))
cut_case test n b true is within lower = ap (last_place test) (omega arith)
cut_case test n b false is within lower =
    elim (eq-or-lt_of_le within) [
      | inl top ↦
          let small = reach_within test n in
          let cut : min n (reach (last_place test n)) ≡ min b (reach (last_place test n)) = omega arith in
          ap (last_place test) top ∙ last_place-more_as test n false is ∙ lower n (omega arith) ∙ ap (last_place test) cut
      | inr below ↦ lower b (omega arith)
    ]

-- between what was found below n and n itself nothing passes
pub last_place-cut : (test : ℕ → Bool) (n b : ℕ) → b ≤ n
    → last_place test b ≡ last_place test (min b (reach (last_place test n)))
last_place-cut test zero b within = ap (last_place test) (omega arith)
last_place-cut test (suc n) b within =
    rw (last_place-more_as test n (test n) refl) (cut_case test n b (test n) refl within (last_place-cut test n))

-- ---- the first place

one : (n : ℕ) → n + 1 ≡ suc n
one n = omega arith

-- a first place below a bound
abbrev pub is_below : ℕ → Option ℕ → Bool
is_below bound None = false
is_below bound (Some first) = nat_lt first bound

-- the first of two lists
abbrev pub or_first : Option ℕ → Option ℕ → Option ℕ
or_first (Some x) y = Some x
or_first None y = y

first_append : (xs ys : List ℕ) → first_of (xs ++ ys) ≡ or_first (first_of xs) (first_of ys)
first_append [] ys = refl
first_append (x ∷ xs) ys = refl

one_more : (test : ℕ → Bool) (n : ℕ) (b : Bool) → test n ≡ b → first_of (filter test (n ∷ [])) ≡ cond b (Some n) None
one_more test n true is = rw is refl
one_more test n false is = rw is refl

pub first_place-zero : (test : ℕ → Bool) → first_place test 0 ≡ None
unfolding first_place
first_place-zero test = refl

-- one more place
pub first_place-more : (test : ℕ → Bool) (n : ℕ) → first_place test (n + 1) ≡ or_first (first_place test n) (cond (test n) (Some n) None)
unfolding first_place
first_place-more test n =
    ap (λ places. first_of (filter test places)) (range_one n)
    ∙ ap first_of (filter-append test (range_with_len 0 n) (n ∷ []))
    ∙ first_append (filter test (range_with_len 0 n)) (filter test (n ∷ []))
    ∙ ap (or_first (first_of (filter test (range_with_len 0 n)))) (one_more test n (test n) refl)

-- some place below a bound passes
abbrev pub some_place : (ℕ → Bool) → ℕ → Bool
some_place test n = list_any test (range_with_len 0 n)

one_any : (test : ℕ → Bool) (n : ℕ) (b : Bool) → test n ≡ b → list_any test (n ∷ []) ≡ b
one_any test n true is = rw is refl
one_any test n false is = rw is refl

pub some_place-more : (test : ℕ → Bool) (n : ℕ) → some_place test (n + 1) ≡ (some_place test n || test n)
some_place-more test n =
    ap (list_any test) (range_one n) ∙ list_any-append test (range_with_len 0 n) (n ∷ []) ∙ ap (λ b. some_place test n || b) (one_any test n (test n) refl)

-- there is a first place where there is some
first_some_case : (o : Option ℕ) (n : ℕ) (b : Bool) → is_some (or_first o (cond b (Some n) None)) ≡ (is_some o || b)
first_some_case (Some x) n b = refl
first_some_case None n true = refl
first_some_case None n false = refl

pub first_some : (test : ℕ → Bool) (n : ℕ) → is_some (first_place test n) ≡ some_place test n
first_some test zero = ap is_some (first_place-zero test)
first_some test (suc n) =
    subst (λ m. is_some (first_place test m) ≡ some_place test m) (one n) (ap is_some (first_place-more test n) ∙ first_some_case (first_place test n) n (test n) ∙ ap (λ b. b || test n) (first_some test n) ∙ sym (some_place-more test n))

-- and a last one
last_some_case : (o : Option ℕ) (n : ℕ) (b : Bool) → is_some (cond b (Some n) o) ≡ (is_some o || b)
last_some_case (Some x) n true = refl
last_some_case (Some x) n false = refl
last_some_case None n true = refl
last_some_case None n false = refl

pub last_some : (test : ℕ → Bool) (n : ℕ) → is_some (last_place test n) ≡ some_place test n
last_some test zero = ap is_some (last_place-zero test)
last_some test (suc n) =
    subst (λ m. is_some (last_place test m) ≡ some_place test m) (one n) (ap is_some (last_place-more test n) ∙ last_some_case (last_place test n) n (test n) ∙ ap (λ b. b || test n) (last_some test n) ∙ sym (some_place-more test n))

-- the first place lies below its bound
within_case : (o : Option ℕ) (n bound : ℕ) (b : Bool) → n < bound → is_below n o ≡ is_some o → is_below bound (or_first o (cond b (Some n) None)) ≡ is_some (or_first o (cond b (Some n) None))
within_case (Some x) n bound b below lower =
    let less : x < n = ltb-true x n lower in
    lt-ltb x bound (omega arith)
within_case None n bound true below lower = lt-ltb n bound below
within_case None n bound false below lower = refl

pub first_within : (test : ℕ → Bool) (n : ℕ) → is_below n (first_place test n) ≡ is_some (first_place test n)
first_within test zero = ap (is_below 0) (first_place-zero test) ∙ ap is_some (sym (first_place-zero test))
first_within test (suc n) =
    subst (λ m. is_below m (first_place test m) ≡ is_some (first_place test m)) (one n) (
    ap (is_below (n + 1)) (first_place-more test n)
    ∙ within_case (first_place test n) n (n + 1) (test n) (omega arith) (first_within test n)
    ∙ ap is_some (sym (first_place-more test n)))

-- the first place is below a bound exactly where some place below the bound passes
below_case : (o : Option ℕ) (n bound : ℕ) (b : Bool) → bound ≤ n → is_below bound (or_first o (cond b (Some n) None)) ≡ is_below bound o
below_case (Some x) n bound b within = refl
below_case None n bound true within = le-ltb n bound within
below_case None n bound false within = refl

pub first_below : (test : ℕ → Bool) (n bound : ℕ) → bound ≤ n → is_below bound (first_place test n) ≡ some_place test bound
first_below test zero bound within =
    let none : bound ≡ 0 = omega arith in
    rw none (ap (is_below 0) (first_place-zero test))
first_below test (suc n) bound within =
    elim (eq-or-lt_of_le within) [
      | inl top ↦ rw top (first_within test (suc n) ∙ first_some test (suc n))
      | inr less ↦
          subst (λ m. is_below bound (first_place test m) ≡ some_place test bound) (one n) (ap (is_below bound) (first_place-more test n)
          ∙ below_case (first_place test n) n bound (test n) (omega arith)
          ∙ first_below test n bound (omega arith))
    ]

-- ---- a range that ends at the bound

any_suc : (test : ℕ → Bool) (from n : ℕ) → list_any test (range_with_len from (suc n)) ≡ (list_any test (range_with_len from n) || test (from + n))
any_suc test from n =
    ap (λ m. list_any test (range_with_len from m)) (sym (one n))
    ∙ ap (list_any test) (range_append from n 1)
    ∙ list_any-append test (range_with_len from n) ((from + n) ∷ [])
    ∙ ap (λ b. list_any test (range_with_len from n) || b) (one_any test (from + n) (test (from + n)) refl)

last_suc : (test : ℕ → Bool) (from n : ℕ) → last_place test (from + suc n) ≡ cond (test (from + n)) (Some (from + n)) (last_place test (from + n))
last_suc test from n =
    let last : from + suc n ≡ from + n + 1 = omega arith in
    ap (last_place test) last ∙ last_place-more test (from + n)

-- a place at or past another, if there is one
abbrev pub is_from : ℕ → Option ℕ → Bool
is_from from None = false
is_from from (Some place) = nat_le from place

none_from : (from : ℕ) (o : Option ℕ) → ((place : ℕ) → o ≡ Some place → place < from) → false ≡ is_from from o
none_from from None below = refl
none_from from (Some place) below = let less = below place refl in sym (lt-leb from place less)

or_false : (a b : Bool) → (a || b) ≡ false → (a ≡ false) × (b ≡ false)
or_false false false is = (refl, refl)
or_false false true is = absurd (let never : true ≡ false = is in cc)
or_false true b is = absurd (let never : true ≡ false = is in cc)

or_true : (a : Bool) → (a || true) ≡ true
or_true true = refl
or_true false = refl

or_none : (a : Bool) → (a || false) ≡ a
or_none true = refl
or_none false = refl

from_case : (test : ℕ → Bool) (from n : ℕ) (b : Bool) → test (from + n) ≡ b
    → list_any test (range_with_len from n) ≡ is_from from (last_place test (from + n))
    → (list_any test (range_with_len from n) || b) ≡ is_from from (cond b (Some (from + n)) (last_place test (from + n)))
from_case test from n true is lower = or_true (list_any test (range_with_len from n)) ∙ sym (le-leb from (from + n) (omega arith))
from_case test from n false is lower = or_none (list_any test (range_with_len from n)) ∙ lower

-- some place of a range passes exactly where the last place below its end that passes isn't before it
pub any_from : (test : ℕ → Bool) (from n : ℕ) → list_any test (range_with_len from n) ≡ is_from from (last_place test (from + n))
any_from test from zero =
    let none : from + 0 ≡ from = omega arith in
    none_from from (last_place test from) (λ place is. (last_place_passes test from place is).0) ∙ ap (λ m. is_from from (last_place test m)) (sym none)
any_from test from (suc n) =
    any_suc test from n
    ∙ from_case test from n (test (from + n)) refl (any_from test from n)
    ∙ ap (is_from from) (sym (last_suc test from n))

-- where none of it passes, the last place is that before the range
pub last_kept : (test : ℕ → Bool) (from n : ℕ) → list_any test (range_with_len from n) ≡ false → last_place test (from + n) ≡ last_place test from
last_kept test from zero none = let same : from + 0 ≡ from = omega arith in ap (last_place test) same
last_kept test from (suc n) none =
    let parts = or_false (list_any test (range_with_len from n)) (test (from + n)) (sym (any_suc test from n) ∙ none) in
    last_suc test from n
    ∙ ap (λ b. cond b (Some (from + n)) (last_place test (from + n))) parts.1
    ∙ last_kept test from n parts.0
