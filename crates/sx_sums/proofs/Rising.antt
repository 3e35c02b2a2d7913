-- Numbers that rise, and those of them that a test keeps.
use Rattle.std.proofs.Common.{◌≡◌, ◌≢◌, ℕ, zero, suc, ◌+◌, ◌<◌, ◌≤◌, ◌==◌, ◌||◌, Bool, true, false, cond, List, [], ◌∷◌, length, get_or, filter, refl, sym, ap, ◌∙◌, arith, inl, inr}
use Rattle.std.specs.Prelude.{sum_by}
use Rattle.std.specs.List.{Contains, range_with_len}
use Rattle.std.proofs.lemmas.Bool.{cases_eq, eq-eqb, false≢true}
use Rattle.std.proofs.lemmas.Bool.Decides.{nat_tests}
use Rattle.std.proofs.lemmas.List.{get_or_default}
use Rattle.std.proofs.lemmas.List.Kept.{IsStrictlyIncreasing-filter, AllPairs-from_increasing}
use Rattle.std.proofs.lemmas.List.Sums.{sum_by-cons}
use Rattle.sx_base.proofs.Ranges.{none_kept}
use Rattle.sx_closure.specs.Graph.{Rises}

-- ---- lists that rise

rises_rest : (x : ℕ) (xs : List ℕ) → Rises (x ∷ xs) → Rises xs
rises_rest x xs rise i j less below = rise (suc i) (suc j) (omega (arith, less)) (omega (arith, below))

later_above : (x : ℕ) (xs : List ℕ) (number : ℕ) → Rises (x ∷ xs) → Contains xs number → x < number
later_above x xs number rise (k, within, is) =
    let less = rise 0 (suc k) (omega arith) (omega (arith, within)) in
    let same : get_or xs k 0 ≡ get_or xs k number = get_or_default xs k 0 number within in
    omega (arith, less, same, is)

first_least : (x : ℕ) (xs : List ℕ) (number : ℕ) → Rises (x ∷ xs) → Contains (x ∷ xs) number → x ≤ number
first_least x xs number rise (zero, within, is) = omega (arith, is)
first_least x xs number rise (suc k, within, is) =
    let above = later_above x xs number rise (k, omega (arith, within), is) in
    omega (arith, above)

in_first : (x : ℕ) (xs : List ℕ) → Contains (x ∷ xs) x
in_first x xs = (zero, omega arith, refl)

in_rest : (x : ℕ) (xs : List ℕ) (number : ℕ) → Contains xs number → Contains (x ∷ xs) number
in_rest x xs number (k, within, is) = (suc k, omega (arith, within), is)

in_none : (number : ℕ) → Contains [] number → ⊥
in_none number (k, within, is) = omega (arith, within)

not_first : (x : ℕ) (xs : List ℕ) (number : ℕ) → x < number → Contains (x ∷ xs) number → Contains xs number
not_first x xs number above (zero, within, is) = absurd (omega (arith, above, is))
not_first x xs number above (suc k, within, is) = (k, omega (arith, within), is)

-- two lists that rise are equal where they have the same numbers
pub same_rising : (xs ys : List ℕ) → Rises xs → Rises ys → ((number : ℕ) → Contains xs number → Contains ys number)
    → ((number : ℕ) → Contains ys number → Contains xs number) → xs ≡ ys
same_rising [] [] rise other there back = refl
same_rising [] (y ∷ ys) rise other there back = absurd (in_none y (back y (in_first y ys)))
same_rising (x ∷ xs) [] rise other there back = absurd (in_none x (there x (in_first x xs)))
same_rising (x ∷ xs) (y ∷ ys) rise other there back =
    let low = first_least y ys x other (there x (in_first x xs)) in
    let high = first_least x xs y rise (back y (in_first y ys)) in
    let first : x ≡ y = omega (arith, low, high) in
    let rest : xs ≡ ys = same_rising xs ys (rises_rest x xs rise) (rises_rest y ys other)
    (λ number here.
    let above = later_above x xs number rise here in
    not_first y ys number (omega (arith, above, first)) (there number (in_rest x xs number here)))
    (λ number here.
    let above = later_above y ys number other here in
    not_first x xs number (omega (arith, above, first)) (back number (in_rest y ys number here))) in
    ap (λ n. n ∷ xs) first ∙ ap (λ ns. y ∷ ns) rest

-- ---- what a test keeps

pub filter_rises : (p : ℕ → Bool) (xs : List ℕ) → Rises xs → Rises (filter p xs)
filter_rises p xs rise =
    let steps = IsStrictlyIncreasing-filter p xs (λ k below. rise k (k + 1) (omega arith) below) in
    let pairs = AllPairs-from_increasing (filter p xs) steps in
    λ i j less below. pairs i j 0 less below

kept_case : (p : ℕ → Bool) (x : ℕ) (xs : List ℕ) (number : ℕ) (kept : Bool) → p x ≡ kept → Contains (cond kept (x ∷ filter p xs) (filter p xs)) number
    → (Contains (filter p xs) number → Contains xs number × (p number ≡ true)) → Contains (x ∷ xs) number × (p number ≡ true)
kept_case p x xs number true is (zero, within, same) later = ((zero, omega arith, same), ap p (sym same) ∙ is)
kept_case p x xs number true is (suc k, within, same) later =
    let rest = later (k, omega (arith, within), same) in (in_rest x xs number rest.0, rest.1)
kept_case p x xs number false is here later = let rest = later here in (in_rest x xs number rest.0, rest.1)

-- what is kept was there, and passes
pub kept_there : (p : ℕ → Bool) (xs : List ℕ) (number : ℕ) → Contains (filter p xs) number → Contains xs number × (p number ≡ true)
kept_there p [] number here = absurd (in_none number here)
kept_there p (x ∷ xs) number here = kept_case p x xs number (p x) refl here (kept_there p xs number)

keep_case : (p : ℕ → Bool) (x : ℕ) (xs : List ℕ) (number : ℕ) (kept : Bool) → p x ≡ kept → Contains (x ∷ xs) number → p number ≡ true
    → (Contains xs number → Contains (filter p xs) number) → Contains (cond kept (x ∷ filter p xs) (filter p xs)) number
keep_case p x xs number true is (zero, within, same) passes later = (zero, omega arith, same)
keep_case p x xs number true is (suc k, within, same) passes later = in_rest x (filter p xs) number (later (k, omega (arith, within), same))
keep_case p x xs number false is (zero, within, same) passes later = absurd (false≢true (sym is ∙ ap p same ∙ passes))
keep_case p x xs number false is (suc k, within, same) passes later = later (k, omega (arith, within), same)

-- what was there and passes is kept
pub there_kept : (p : ℕ → Bool) (xs : List ℕ) (number : ℕ) → Contains xs number → p number ≡ true → Contains (filter p xs) number
there_kept p [] number here passes = absurd (in_none number here)
there_kept p (x ∷ xs) number here passes = keep_case p x xs number (p x) refl here passes (λ rest. there_kept p xs number rest passes)

-- ---- sums over what two tests keep

either_case : (f : ℕ → ℕ) (x : ℕ) (all some others : List ℕ) (a b : Bool) → (a ≡ true → b ≡ false) → sum_by f all ≡ sum_by f some + sum_by f others
    → sum_by f (cond (a || b) (x ∷ all) all) ≡ sum_by f (cond a (x ∷ some) some) + sum_by f (cond b (x ∷ others) others)
either_case f x all some others true true apart is = absurd (false≢true (sym (apart refl)))
either_case f x all some others true false apart is =
    let more = sum_by-cons f x all in let one = sum_by-cons f x some in omega (arith, more, one, is)
either_case f x all some others false true apart is =
    let more = sum_by-cons f x all in let one = sum_by-cons f x others in omega (arith, more, one, is)
either_case f x all some others false false apart is = is

-- what one test or the other keeps, where none passes both
pub either_sum : (f : ℕ → ℕ) (p q : ℕ → Bool) (xs : List ℕ) → ((x : ℕ) → p x ≡ true → q x ≡ false)
    → sum_by f (filter (λ x. p x || q x) xs) ≡ sum_by f (filter p xs) + sum_by f (filter q xs)
either_sum f p q [] apart = refl
either_sum f p q (x ∷ xs) apart =
    either_case f x (filter (λ y. p y || q y) xs) (filter p xs) (filter q xs) (p x) (q x) (apart x) (either_sum f p q xs apart)

pub ones : (xs : List ℕ) → sum_by (λ x. 1) xs ≡ length xs
ones [] = refl
ones (x ∷ xs) = let more = sum_by-cons (λ y. 1) x xs in let rest = ones xs in omega (arith, more, rest)

-- ---- one number of a range

pub none_equal : (number first n : ℕ) → first + n ≤ number → filter (λ k. k == number) (range_with_len first n) ≡ []
none_equal number first n past = none_kept (λ k. k == number) first n (λ k low high. let differ : k ≢ number = λ same. omega (arith, past, high, same) in grind (arith, nat_tests))

pub one_equal : (number first n : ℕ) → first ≤ number → number < first + n → filter (λ k. k == number) (range_with_len first n) ≡ number ∷ []
one_equal number first zero low high = absurd (omega (arith, low, high))
one_equal number first (suc n) low high =
    elim (cases_eq first number) [
      | inl same ↦
          let here : (first == number) ≡ true = eq-eqb first number same in
          let none : filter (λ k. k == number) (range_with_len (first + 1) n) ≡ [] =
          none_kept (λ k. k == number) (first + 1) n (λ k above below. let differ : k ≢ number = λ equal. omega (arith, above, same, equal) in grind (arith, nat_tests)) in
          rw (here, none) (ap (λ k. k ∷ []) same)
      | inr apart ↦
          let here : (first == number) ≡ false = grind (arith, nat_tests) in
          rw here (one_equal number (first + 1) n (omega (arith, low, apart)) (omega (arith, high)))
    ]
