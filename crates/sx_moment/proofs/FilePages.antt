-- The pages of the file, all but the lock-byte page.
use Rattle.std.proofs.Common.{◌≡◌, ℕ, suc, ◌+◌, ◌-◌, ◌<◌, ◌≤◌, Bool, false, not, ◌++◌, Some, None, length, get_or, slice_index, filter, find, nat_lt, ◌==◌, refl, sym, ap, ◌∙◌, arith, inl, inr, length-append}
use Rattle.std.specs.List.{range_with_len}
use Rattle.std.proofs.lemmas.Bool.Decides.{nat_tests}
use Rattle.std.proofs.lemmas.Bool.{cases_lt}
use Rattle.std.proofs.lemmas.List.{get_or_append_left}
use Rattle.std.proofs.Math.Seq.{get_or-append-add}
use Rattle.std.proofs.lemmas.List.FromFn.{length-range_with_len, get_or-range_with_len}
use Rattle.sx_base.proofs.Ranges.{all_kept, kept_few, kept_split, find_next, find_none}
use Rattle.sx_moment.specs.Firsts.{file_pages}

-- before the lock-byte page they are a range
below : (lock count : ℕ) → count < lock → file_pages lock count ≡ range_with_len 1 count
below lock count before = all_kept (λ k. not (k == lock)) 1 count (λ k low high. grind (arith, nat_tests))

behind : (p : ℕ → Bool) (lock n : ℕ) → p lock ≡ false → filter p (range_with_len lock (1 + n)) ≡ filter p (range_with_len (lock + 1) n)
behind p lock n out = rw (let one : 1 + n ≡ suc n = omega arith in one) (rw out refl)

-- behind it they are two
around : (lock count : ℕ) → 1 ≤ lock → lock ≤ count → file_pages lock count ≡ range_with_len 1 (lock - 1) ++ range_with_len (lock + 1) (count - lock)
around lock count first within =
    let p : ℕ → Bool = λ k. not (k == lock) in
    let whole : (lock - 1) + (1 + (count - lock)) ≡ count = omega arith in
    let here : 1 + (lock - 1) ≡ lock = omega arith in
    let out : p lock ≡ false = grind (arith, nat_tests) in
    ap (λ n. filter p (range_with_len 1 n)) (sym whole)
    ∙ kept_split p 1 (lock - 1) (1 + (count - lock))
    ∙ ap (λ l. l ++ filter p (range_with_len (1 + (lock - 1)) (1 + (count - lock)))) (all_kept p 1 (lock - 1) (λ k low high. grind (arith, nat_tests)))
    ∙ ap (λ n. range_with_len 1 (lock - 1) ++ filter p (range_with_len n (1 + (count - lock)))) here
    ∙ ap (λ l. range_with_len 1 (lock - 1) ++ l) (behind p lock (count - lock) out ∙ all_kept p (lock + 1) (count - lock) (λ k low high. grind (arith, nat_tests)))

pub count_below : (lock count : ℕ) → count < lock → length (file_pages lock count) ≡ count
count_below lock count before = ap length (below lock count before) ∙ length-range_with_len 1 count

pub count_around : (lock count : ℕ) → 1 ≤ lock → lock ≤ count → length (file_pages lock count) ≡ count - 1
count_around lock count first within =
    let parts = length-append (range_with_len 1 (lock - 1)) (range_with_len (lock + 1) (count - lock)) in
    let front = length-range_with_len 1 (lock - 1) in
    let back = length-range_with_len (lock + 1) (count - lock) in
    let whole = ap length (around lock count first within) in
    omega (arith, whole, parts, front, back)

at_around : (lock count place : ℕ) → 1 ≤ lock → lock ≤ count → place < length (file_pages lock count) → lock ≤ place + 1 → slice_index (file_pages lock count) place ≡ place + 2
at_around lock count place first within below past =
    let front = length-range_with_len 1 (lock - 1) in
    let long = count_around lock count first within in
    let left = place - (lock - 1) in
    let split : place ≡ length (range_with_len 1 (lock - 1)) + left = omega (arith, front) in
    let value = get_or-range_with_len (lock + 1) (count - lock) left 0 (omega (arith, long, below)) in
    let moved : lock + 1 + left ≡ place + 2 = omega arith in
    ap (λ l. get_or l place 0) (around lock count first within)
    ∙ ap (λ n. get_or (range_with_len 1 (lock - 1) ++ range_with_len (lock + 1) (count - lock)) n 0) split
    ∙ get_or-append-add (range_with_len 1 (lock - 1)) (range_with_len (lock + 1) (count - lock)) left 0
    ∙ value
    ∙ moved

at_front : (lock count place : ℕ) → 1 ≤ lock → lock ≤ count → place + 1 < lock → slice_index (file_pages lock count) place ≡ place + 1
at_front lock count place first within before =
    let front = length-range_with_len 1 (lock - 1) in
    let moved : 1 + place ≡ place + 1 = omega arith in
    ap (λ l. get_or l place 0) (around lock count first within)
    ∙ get_or_append_left (range_with_len 1 (lock - 1)) (range_with_len (lock + 1) (count - lock)) 0 place (omega (arith, front))
    ∙ get_or-range_with_len 1 (lock - 1) place 0 (omega arith)
    ∙ moved

at_below : (lock count place : ℕ) → count < lock → place < length (file_pages lock count) → slice_index (file_pages lock count) place ≡ place + 1
at_below lock count place before within =
    let long = count_below lock count before in
    let moved : 1 + place ≡ place + 1 = omega arith in
    ap (λ l. get_or l place 0) (below lock count before) ∙ get_or-range_with_len 1 count place 0 (omega (arith, long)) ∙ moved

-- the page at a place
pub page_before : (lock count place : ℕ) → 1 ≤ lock → place < length (file_pages lock count) → place + 1 < lock → slice_index (file_pages lock count) place ≡ place + 1
page_before lock count place first within before =
    elim (cases_lt count lock) [
      | inl less ↦ at_below lock count place less within
      | inr more ↦ at_front lock count place first more before
    ]

pub page_behind : (lock count place : ℕ) → 1 ≤ lock → place < length (file_pages lock count) → lock ≤ place + 1 → slice_index (file_pages lock count) place ≡ place + 2
page_behind lock count place first within past =
    elim (cases_lt count lock) [
      | inl less ↦ let long = count_below lock count less in absurd (omega (arith, long))
      | inr more ↦ at_around lock count place first more within past
    ]

-- the next page
pub next_is : (lock count after next : ℕ) → after < next → next ≤ count → (next ≡ lock → ⊥) → ((k : ℕ) → after < k → k < next → k ≡ lock) → find (nat_lt after) (file_pages lock count) ≡ Some next
next_is lock count after next above within apart between = find_next (λ k. not (k == lock)) 1 count after next (record {
  above = above;
  low = omega arith;
  high = omega arith;
  passes = grind (arith, nat_tests);
  between = λ k low more less. let same = between k more less in grind (arith, nat_tests);
})

pub next_none : (lock count after : ℕ) → ((k : ℕ) → after < k → k ≤ count → k ≡ lock) → find (nat_lt after) (file_pages lock count) ≡ None
next_none lock count after only = find_none (λ k. not (k == lock)) 1 count after (λ k low high above. let same = only k above (omega arith) in grind (arith, nat_tests))

-- the next is the number after the lock-byte page
pub next_second : (lock count after : ℕ) → after + 1 ≡ lock → after + 2 ≤ count → find (nat_lt after) (file_pages lock count) ≡ Some (after + 2)
next_second lock count after here within = next_is lock count after (after + 2) (omega arith) within (λ same. omega arith) (λ k more less. omega arith)

-- no more than the first pages
pub few_pages : (lock count place : ℕ) → place < length (file_pages lock count) → place < count
few_pages lock count place within = let few = kept_few (λ k. not (k == lock)) 1 count in omega (arith, few)
