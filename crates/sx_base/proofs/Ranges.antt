-- The numbers of a range that pass a test, in rising order, whatever the test.
use Rattle.std.proofs.Common.{◌≡◌, ℕ, zero, suc, ◌+◌, ◌-◌, ◌<◌, ◌≤◌, Bool, true, false, cond, List, [], ◌∷◌, ◌++◌, Option, Some, None, length, slice_index, filter, find, nat_lt, refl, sym, ap, ◌∙◌, arith, inl, inr, eq-or-lt_of_le, add-zero, zero-add, append-nil, length-append}
use Rattle.std.specs.List.{range_with_len}
use Rattle.std.proofs.Math.Seq.{get_or-append_seam}
use Rattle.std.proofs.lemmas.Bool.{ltb-true, ltb-false}
use Rattle.std.proofs.lemmas.List.Elements.{filter_passes, filter-append, All-filter}
use Rattle.std.proofs.lemmas.List.FromFn.{length-range_with_len, get_or-range_with_len}
use Rattle.std.proofs.lemmas.List.Sums.{length-filter, count_by-le-length}

-- a range in two parts
pub range_append : (first m n : ℕ) → range_with_len first (m + n) ≡ range_with_len first m ++ range_with_len (first + m) n
range_append first zero n = rw (zero-add, add-zero) refl
range_append first (suc m) n =
    let moved : first + 1 + m ≡ first + suc m = omega arith in
    let more : suc m + n ≡ suc (m + n) = omega arith in
    rw (more, ← moved) (ap (λ rest. first ∷ rest) (range_append (first + 1) m n))

-- what a filter keeps passes its test
pub filter_meets : (p : ℕ → Bool) (xs : List ℕ) (i : ℕ) → i < length (filter p xs) → p (slice_index (filter p xs) i) ≡ true
filter_meets p xs i within = filter_passes p xs i 0 within

-- where every number passes all are kept
pub all_kept : (p : ℕ → Bool) (first n : ℕ) → ((k : ℕ) → first ≤ k → k < first + n → p k ≡ true)
    → filter p (range_with_len first n) ≡ range_with_len first n
all_kept p first zero each = refl
all_kept p first (suc n) each =
    rw (each first (omega arith) (omega arith))
    (ap (λ rest. first ∷ rest) (all_kept p (first + 1) n (λ k low high. each k (omega arith) (omega arith))))

-- where none passes none is kept
pub none_kept : (p : ℕ → Bool) (first n : ℕ) → ((k : ℕ) → first ≤ k → k < first + n → p k ≡ false)
    → filter p (range_with_len first n) ≡ []
none_kept p first zero each = refl
none_kept p first (suc n) each =
    rw (each first (omega arith) (omega arith))
    (none_kept p (first + 1) n (λ k low high. each k (omega arith) (omega arith)))

-- two tests that agree on the range keep the same
pub same_filter : (p q : ℕ → Bool) (first n : ℕ) → ((k : ℕ) → first ≤ k → k < first + n → p k ≡ q k)
    → filter p (range_with_len first n) ≡ filter q (range_with_len first n)
same_filter p q first zero same = refl
same_filter p q first (suc n) same =
    let rest = same_filter p q (first + 1) n (λ k low high. same k (omega arith) (omega arith)) in
    rw (same first (omega arith) (omega arith), rest) refl

-- no more are kept than there are
pub kept_few : (p : ℕ → Bool) (first n : ℕ) → length (filter p (range_with_len first n)) ≤ n
kept_few p first n =
    omega (arith, length-filter p (range_with_len first n), count_by-le-length p (range_with_len first n), length-range_with_len first n)

-- each lies in the range
pub kept_within : (p : ℕ → Bool) (first n i : ℕ) → i < length (filter p (range_with_len first n))
    → (first ≤ slice_index (filter p (range_with_len first n)) i) × (slice_index (filter p (range_with_len first n)) i < first + n)
kept_within p first n i within =
    All-filter p (λ k. (first ≤ k) × (k < first + n)) (range_with_len first n)
    (λ k d below.
    let long = length-range_with_len first n in
    rw (get_or-range_with_len first n k d (omega (arith, long))) (let few : k < n = omega (arith, long) in (omega arith, omega arith)))
    i 0 within

-- the range cut at a number
pub kept_split : (p : ℕ → Bool) (first m n : ℕ)
    → filter p (range_with_len first (m + n)) ≡ filter p (range_with_len first m) ++ filter p (range_with_len (first + m) n)
kept_split p first m n =
    ap (filter p) (range_append first m n) ∙ filter-append p (range_with_len first m) (range_with_len (first + m) n)

-- a number that passes is kept, behind as many as pass below it
pub kept_cut : (p : ℕ → Bool) (first m n : ℕ) → p (first + m) ≡ true
    → filter p (range_with_len first (m + suc n))
    ≡ filter p (range_with_len first m) ++ (first + m) ∷ filter p (range_with_len (first + m + 1) n)
kept_cut p first m n passes = rw (kept_split p first m (suc n), passes) refl

pub kept_at : (p : ℕ → Bool) (first n number : ℕ) → first ≤ number → number < first + n → p number ≡ true
    → slice_index (filter p (range_with_len first n)) (length (filter p (range_with_len first (number - first)))) ≡ number
kept_at p first n number low high passes =
    let m = number - first in
    let here : first + m ≡ number = omega arith in
    let whole : m + suc (n - m - 1) ≡ n = omega arith in
    let before = filter p (range_with_len first m) in
    ap (λ all. slice_index (filter p (range_with_len first all)) (length before)) (sym whole)
    ∙ ap (λ all. slice_index all (length before)) (kept_cut p first m (n - m - 1) (rw here passes))
    ∙ get_or-append_seam before (first + m) (filter p (range_with_len (first + m + 1) (n - m - 1))) 0
    ∙ here

pub kept_place : (p : ℕ → Bool) (first n number : ℕ) → first ≤ number → number < first + n → p number ≡ true
    → length (filter p (range_with_len first (number - first))) < length (filter p (range_with_len first n))
kept_place p first n number low high passes =
    let m = number - first in
    let here : first + m ≡ number = omega arith in
    let whole : m + suc (n - m - 1) ≡ n = omega arith in
    let cut = kept_cut p first m (n - m - 1) (rw here passes) in
    let long : length (filter p (range_with_len first n))
    ≡ length (filter p (range_with_len first m) ++ (first + m) ∷ filter p (range_with_len (first + m + 1) (n - m - 1)))
    = ap (λ all. length (filter p (range_with_len first all))) (sym whole) ∙ ap length cut in
    omega (arith, long, length-append (filter p (range_with_len first m)) ((first + m) ∷ filter p (range_with_len (first + m + 1) (n - m - 1))))

-- numbers at the end that don't pass add nothing
pub kept_gap : (p : ℕ → Bool) (first m n : ℕ) → ((k : ℕ) → first + m ≤ k → k < first + m + n → p k ≡ false)
    → filter p (range_with_len first (m + n)) ≡ filter p (range_with_len first m)
kept_gap p first m n none =
    kept_split p first m n
    ∙ ap (λ rest. filter p (range_with_len first m) ++ rest) (none_kept p (first + m) n none)
    ∙ append-nil (filter p (range_with_len first m))

-- a number is the least of the range above another that passes
pub record IsNext (p : ℕ → Bool) (first n after number : ℕ) : Type 0 where
  pub above : after < number
  pub low : first ≤ number
  pub high : number < first + n
  pub passes : p number ≡ true
  pub between : (k : ℕ) → first ≤ k → after < k → k < number → p k ≡ false

found_case : (p : ℕ → Bool) (first n after number : ℕ) (kept over : Bool) → p first ≡ kept → nat_lt after first ≡ over
    → cond kept (cond over (Some first) (find (nat_lt after) (filter p (range_with_len (first + 1) n)))) (find (nat_lt after) (filter p (range_with_len (first + 1) n))) ≡ Some number
    → (find (nat_lt after) (filter p (range_with_len (first + 1) n)) ≡ Some number → IsNext p (first + 1) n after number)
    → IsNext p first (suc n) after number
found_case p first n after number true true kept over found later =
    let here : first ≡ number = cc in
    record {
      above = rw (← here) (ltb-true after first over);
      low = omega arith;
      high = omega arith;
      passes = rw (← here) kept;
      between = λ k low above below. absurd (omega arith);
    }
found_case p first n after number true false kept over found later =
    let next = later found in
    let behind = ltb-false after first over in
    record {
      above = next.above;
      low = omega (arith, next.low);
      high = omega (arith, next.high);
      passes = next.passes;
      between = λ k low above below. next.between k (omega arith) above below;
    }
found_case p first n after number false over kept is_over found later =
    let next = later found in
    record {
      above = next.above;
      low = omega (arith, next.low);
      high = omega (arith, next.high);
      passes = next.passes;
      between = λ k low above below. elim (eq-or-lt_of_le low) [
        | inl same ↦ rw (← same) kept
        | inr past ↦ next.between k (omega arith) above below
      ];
    }

find_head : (p : ℕ → Bool) (first n after : ℕ) (kept : Bool) → p first ≡ kept
    → find (nat_lt after) (filter p (range_with_len first (suc n)))
    ≡ cond kept (cond (nat_lt after first) (Some first) (find (nat_lt after) (filter p (range_with_len (first + 1) n)))) (find (nat_lt after) (filter p (range_with_len (first + 1) n)))
find_head p first n after true kept = rw kept refl
find_head p first n after false kept = rw kept refl

-- what is found above a number is the next
pub next_found : (p : ℕ → Bool) (first n after number : ℕ)
    → find (nat_lt after) (filter p (range_with_len first n)) ≡ Some number → IsNext p first n after number
next_found p first zero after number found = let never : None ≡ Some number = found in cc
next_found p first (suc n) after number found =
    found_case p first n after number (p first) (nat_lt after first) refl refl
    (sym (find_head p first n after (p first) refl) ∙ found)
    (next_found p (first + 1) n after number)

empty_case : (p : ℕ → Bool) (first n after : ℕ) (kept over : Bool) → p first ≡ kept → nat_lt after first ≡ over
    → cond kept (cond over (Some first) (find (nat_lt after) (filter p (range_with_len (first + 1) n)))) (find (nat_lt after) (filter p (range_with_len (first + 1) n))) ≡ None
    → (find (nat_lt after) (filter p (range_with_len (first + 1) n)) ≡ None → (k : ℕ) → first + 1 ≤ k → k < first + 1 + n → after < k → p k ≡ false)
    → (k : ℕ) → first ≤ k → k < first + suc n → after < k → p k ≡ false
empty_case p first n after true true kept over found later k low high above = let never : Some first ≡ None = found in cc
empty_case p first n after true false kept over found later k low high above =
    let behind = ltb-false after first over in
    later found k (omega arith) (omega arith) above
empty_case p first n after false over kept is_over found later k low high above =
    elim (eq-or-lt_of_le low) [
      | inl same ↦ rw (← same) kept
      | inr past ↦ later found k (omega arith) (omega arith) above
    ]

-- where nothing is found none passes
pub none_found : (p : ℕ → Bool) (first n after : ℕ) → find (nat_lt after) (filter p (range_with_len first n)) ≡ None
    → (k : ℕ) → first ≤ k → k < first + n → after < k → p k ≡ false
none_found p first zero after found k low high above = absurd (omega arith)
none_found p first (suc n) after found k low high above =
    empty_case p first n after (p first) (nat_lt after first) refl refl
    (sym (find_head p first n after (p first) refl) ∙ found)
    (none_found p (first + 1) n after) k low high above

next_case : (p : ℕ → Bool) (first n after number : ℕ) (kept over : Bool) → p first ≡ kept → nat_lt after first ≡ over
    → IsNext p first (suc n) after number
    → (IsNext p (first + 1) n after number → find (nat_lt after) (filter p (range_with_len (first + 1) n)) ≡ Some number)
    → cond kept (cond over (Some first) (find (nat_lt after) (filter p (range_with_len (first + 1) n)))) (find (nat_lt after) (filter p (range_with_len (first + 1) n))) ≡ Some number
next_case p first n after number true true kept over next later =
    elim (eq-or-lt_of_le next.low) [
      | inl same ↦ ap Some same
      | inr past ↦
          let hidden = next.between first (omega arith) (ltb-true after first over) past in
          let never : true ≡ false = sym kept ∙ hidden in
          cc
    ]
next_case p first n after number true false kept over next later =
    let behind = ltb-false after first over in
    later (record {
      above = next.above;
      low = omega (arith, next.above);
      high = omega (arith, next.high);
      passes = next.passes;
      between = λ k low above below. next.between k (omega arith) above below;
    })
next_case p first n after number false over kept is_over next later =
    elim (eq-or-lt_of_le next.low) [
      | inl same ↦
          let never : false ≡ true = sym kept ∙ ap p same ∙ next.passes in
          cc
      | inr past ↦ later (record {
        above = next.above;
        low = omega arith;
        high = omega (arith, next.high);
        passes = next.passes;
        between = λ k low above below. next.between k (omega arith) above below;
      })
    ]

-- the next is what is found
pub find_next : (p : ℕ → Bool) (first n after number : ℕ) → IsNext p first n after number
    → find (nat_lt after) (filter p (range_with_len first n)) ≡ Some number
find_next p first zero after number next = absurd (omega (arith, next.low, next.high))
find_next p first (suc n) after number next =
    find_head p first n after (p first) refl
    ∙ next_case p first n after number (p first) (nat_lt after first) refl refl next (find_next p (first + 1) n after number)

none_case : (p : ℕ → Bool) (first after : ℕ) (kept over : Bool) → p first ≡ kept → nat_lt after first ≡ over
    → (after < first → p first ≡ false) → (rest : Option ℕ) → rest ≡ None → cond kept (cond over (Some first) rest) rest ≡ None
none_case p first after true true kept over none rest is =
    let never : true ≡ false = sym kept ∙ none (ltb-true after first over) in
    cc
none_case p first after true false kept over none rest is = is
none_case p first after false over kept is_over none rest is = is

-- where none passes nothing is found
pub find_none : (p : ℕ → Bool) (first n after : ℕ) → ((k : ℕ) → first ≤ k → k < first + n → after < k → p k ≡ false)
    → find (nat_lt after) (filter p (range_with_len first n)) ≡ None
find_none p first zero after none = refl
find_none p first (suc n) after none =
    find_head p first n after (p first) refl
    ∙ none_case p first after (p first) (nat_lt after first) refl refl
    (λ above. none first (omega arith) (omega arith) above)
    (find (nat_lt after) (filter p (range_with_len (first + 1) n)))
    (find_none p (first + 1) n after (λ k low high above. none k (omega arith) (omega arith) above))

-- what passes below the next is what passes up to the number that it is the next of
pub kept_before : (p : ℕ → Bool) (n after number : ℕ) → IsNext p 1 n after number
    → filter p (range_with_len 1 (number - 1)) ≡ filter p (range_with_len 1 after)
kept_before p n after number next =
    let above = next.above in
    let gap : after + (number - 1 - after) ≡ number - 1 = omega arith in
    ap (λ all. filter p (range_with_len 1 all)) (sym gap)
    ∙ kept_gap p 1 after (number - 1 - after) (λ k low high. next.between k (omega arith) (omega arith) (omega arith))

-- and with the next itself
pub kept_next : (p : ℕ → Bool) (n after number : ℕ) → IsNext p 1 n after number
    → filter p (range_with_len 1 number) ≡ filter p (range_with_len 1 after) ++ number ∷ []
kept_next p n after number next =
    let above = next.above in
    let one : number - 1 + suc 0 ≡ number = omega arith in
    let here : 1 + (number - 1) ≡ number = omega arith in
    ap (λ all. filter p (range_with_len 1 all)) (sym one)
    ∙ kept_cut p 1 (number - 1) 0 (rw here next.passes)
    ∙ ap (λ last. filter p (range_with_len 1 (number - 1)) ++ last ∷ []) here
    ∙ ap (λ rest. rest ++ number ∷ []) (kept_before p n after number next)
