-- Sums of runs of items, and of the runs of the sums of their pairs.
use Rattle.std.proofs.Common.{◌≡◌, ℕ, zero, suc, ◌+◌, ◌-◌, ◌*◌, ◌/◌, ◌%◌, ◌<◌, ◌≤◌, ◌==◌, ◌^◌, Bool, true, false, cond, List, ◌∷◌, length, take, drop, sum, slice_index, slice_set, nat_eq, nat_le, ◌≢◌, add-zero, mul-zero, eqb-true, eq-eqb, refl, sym, ap, ◌∙◌, arith, replicate}
use Rattle.std.proofs.Math.Seq.{drop-cons}
use Rattle.std.proofs.lemmas.Bool.Decides.{nat_tests}
use Rattle.std.proofs.lemmas.List.Sums.{sum_by-cons, sum_by-set, sum_by-take-le}
use Rattle.std.proofs.lemmas.List.{drop-set-add, drop-replicate, get_or-drop, get_or-replicate, get_or-set_same, get_or-set_other, length-set, length-replicate, length-drop}
use Rattle.std.proofs.lemmas.List.Folds.{sum_by-replicate}
use Rattle.std.proofs.Math.Nat.{div-add-mod}
use Rattle.sx_tally.specs.Tallied.{IsTallied, IsRaising}

-- the sum of n items from a place on
abbrev pub span : List ℕ → ℕ → ℕ → ℕ
span items low zero = 0
span items low (suc n) = slice_index items low + span items (low + 1) n

pub span_more : (items : List ℕ) (low n : ℕ) → span items low (suc n) ≡ span items low n + slice_index items (low + n)
span_more items low zero = let here : low + 0 ≡ low = omega arith in rw here (omega arith)
span_more items low (suc n) =
    let later = span_more items (low + 1) n in
    let here : low + 1 + n ≡ low + suc n = omega arith in
    let moved : span items (low + 1) (suc n) ≡ span items (low + 1) n + slice_index items (low + suc n) = rw (← here) later in
    omega (arith, moved)

-- a run of pairs has the sum of the run of their sums
pub span_double : (items : List ℕ) (low n : ℕ) → ((i : ℕ) → low ≤ i → i < low + n → slice_index items i ≡ slice_index items (2 * i) + slice_index items (2 * i + 1))
    → span items (2 * low) (2 * n) ≡ span items low n
span_double items low zero pairs = refl
span_double items low (suc n) pairs =
    let two : 2 * suc n ≡ suc (suc (2 * n)) = omega arith in
    let next : 2 * low + 1 + 1 ≡ 2 * (low + 1) = omega arith in
    let here = pairs low (omega arith) (omega arith) in
    let later = span_double items (low + 1) n (λ i from below. pairs i (omega arith) (omega arith)) in
    rw (two, next, later) (omega (arith, here))

fold_from : (xs : List ℕ) (x : ℕ) → sum (x ∷ xs) ≡ x + sum xs
fold_from xs x = sum_by-cons (λ n. n) x xs

-- the sum of a front of what stands behind a place
pub span_sum : (items : List ℕ) (low n : ℕ) → low + n ≤ length items → span items low n ≡ sum (take n (drop low items))
span_sum items low zero within = refl
span_sum items low (suc n) within =
    let cut = drop-cons items low 0 (omega arith) in
    let one : suc low ≡ low + 1 = omega arith in
    let later = span_sum items (low + 1) n (omega arith) in
    rw cut (ap (λ s. slice_index items low + s) later ∙ ap (λ k. slice_index items low + sum (take n (drop k items))) (sym one) ∙ sym (fold_from (take n (drop (suc low) items)) (slice_index items low)))

-- ---- a front

right_case : (items : List ℕ) (len a b high : ℕ) (odd : Bool) → IsTallied len items → 1 ≤ a → 2 * a ≤ high → high ≤ 2 * len → high ≡ 2 * b + cond odd 1 0
    → span items (2 * a) (high - 2 * a) ≡ cond odd (slice_index items (high - 1)) 0 + span items a (b - a)
right_case items len a b high true tallied first order top is =
    let more : high - 2 * a ≡ suc (2 * (b - a)) = omega (arith, is, order) in
    let last : 2 * a + 2 * (b - a) ≡ high - 1 = omega (arith, is, order) in
    let kept = span_double items a (b - a) (λ i from below. tallied.pairs i (omega arith) (omega (arith, is))) in
    let cut = span_more items (2 * a) (2 * (b - a)) in
    let cut_at : span items (2 * a) (suc (2 * (b - a))) ≡ span items (2 * a) (2 * (b - a)) + slice_index items (high - 1) = rw (← last) cut in
    rw more (omega (arith, cut_at, kept))
right_case items len a b high false tallied first order top is =
    let more : high - 2 * a ≡ 2 * (b - a) = omega (arith, is, order) in
    let kept = span_double items a (b - a) (λ i from below. tallied.pairs i (omega arith) (omega (arith, is))) in
    rw more (omega (arith, kept))

left_case : (items : List ℕ) (low high a : ℕ) (odd : Bool) → low < high → low + cond odd 1 0 ≡ 2 * a
    → span items low (high - low) ≡ cond odd (slice_index items low) 0 + span items (2 * a) (high - 2 * a)
left_case items low high a true below is =
    let more : high - low ≡ suc (high - 2 * a) = omega (arith, is) in
    let next : low + 1 ≡ 2 * a = omega (arith, is) in
    rw (more, next) refl
left_case items low high a false below is =
    let same : low ≡ 2 * a = omega (arith, is) in
    rw same (omega arith)

odd_is : (n : ℕ) (odd : Bool) → (n % 2 == 1) ≡ odd → n ≡ 2 * (n / 2) + cond odd 1 0
odd_is n true is = let whole = div-add-mod n 2 in grind (arith, nat_tests)
odd_is n false is = let whole = div-add-mod n 2 in grind (arith, nat_tests)

up_is : (n : ℕ) (odd : Bool) → (n % 2 == 1) ≡ odd → n + cond odd 1 0 ≡ 2 * ((n + 1) / 2)
up_is n true is = let whole = odd_is n true is in omega (arith, whole)
up_is n false is = let whole = odd_is n false is in omega (arith, whole)

pub front_split : (items : List ℕ) (len low high : ℕ) → IsTallied len items → 1 ≤ low → low < high → high ≤ 2 * len
    → span items low (high - low)
    ≡ cond (low % 2 == 1) (slice_index items low) 0 + cond (high % 2 == 1) (slice_index items (high - 1)) 0 + span items ((low + 1) / 2) (high / 2 - (low + 1) / 2)
front_split items len low high tallied first below top =
    let up = up_is low (low % 2 == 1) refl in
    let down = odd_is high (high % 2 == 1) refl in
    let left = left_case items low high ((low + 1) / 2) (low % 2 == 1) below up in
    let right = right_case items len ((low + 1) / 2) (high / 2) high (high % 2 == 1) tallied (omega arith) (omega arith) top down in
    omega (arith, left, right)

front_most : (items : List ℕ) (len end : ℕ) → IsTallied len items → end ≤ len → span items len end < 2 ^ 32
front_most items len end tallied within =
    let is = span_sum items len end (omega (arith, tallied.long)) in
    let less = sum_by-take-le (λ n. n) (drop len items) end in
    omega (arith, is, less, tallied.fits)

-- one step of the sum of a front
pub front_step : (items : List ℕ) (len end total low high left right : ℕ) → IsTallied len items → end ≤ len → low < high → 1 ≤ low → high ≤ 2 * len
    → total + span items low (high - low) ≡ span items len end
    → left ≡ cond (low % 2 == 1) (slice_index items low) 0 → right ≡ cond (high % 2 == 1) (slice_index items (high - 1)) 0
    → (total + (left + right) < 2 ^ 32) × (total + (left + right) + span items ((low + 1) / 2) (high / 2 - (low + 1) / 2) ≡ span items len end)
front_step items len end total low high left right tallied within below first top so_far left_is right_is =
    let split = front_split items len low high tallied first below top in
    let most = front_most items len end tallied within in
    let whole : span items low (high - low) ≡ left + right + span items ((low + 1) / 2) (high / 2 - (low + 1) / 2) = rw (left_is, right_is) split in
    (omega (arith, whole, so_far, most), omega (arith, whole, so_far))

pub front_start : (items : List ℕ) (len end : ℕ) → 0 + span items len (len + end - len) ≡ span items len end
front_start items len end = let same : len + end - len ≡ end = omega arith in rw same (omega arith)

pub front_end : (items : List ℕ) (len end total low high : ℕ) → IsTallied len items → end ≤ len → low ≤ high → high ≤ low
    → total + span items low (high - low) ≡ span items len end → total ≡ sum (take end (drop len items))
front_end items len end total low high tallied within order past so_far =
    let none : high - low ≡ 0 = omega arith in
    let left : span items low (high - low) ≡ 0 = rw none refl in
    let is = span_sum items len end (omega (arith, tallied.long)) in
    omega (arith, left, so_far, is)

-- ---- a count raised

set_case : (items : List ℕ) (k j : ℕ) (same : Bool) → nat_eq j k ≡ same → k < length items
    → slice_index (slice_set items k (slice_index items k + 1)) j ≡ slice_index items j + cond same 1 0
set_case items k j true is within = let here : j ≡ k = eqb-true j k is in rw here (get_or-set_same items k (slice_index items k + 1) 0 within)
set_case items k j false is within =
    let apart : j ≢ k = λ same. let never : false ≡ true = sym is ∙ eq-eqb j k same in cc in
    get_or-set_other items k j (slice_index items k + 1) 0 apart ∙ sym (add-zero (slice_index items j))

halves_case : (i k q : ℕ) (odd : Bool) → k ≡ 2 * q + cond odd 1 0 → cond (nat_eq i q) 1 0 ≡ cond (nat_eq (2 * i) k) 1 0 + cond (nat_eq (2 * i + 1) k) 1 0
halves_case i k q true is = grind (arith, nat_tests)
halves_case i k q false is = grind (arith, nat_tests)

set_at : (items : List ℕ) (k j : ℕ) → k < length items → slice_index (slice_set items k (slice_index items k + 1)) j ≡ slice_index items j + cond (nat_eq j k) 1 0
set_at items k j within = set_case items k j (nat_eq j k) refl within

raised_sum : (counts : List ℕ) (place : ℕ) → place < length counts → sum (slice_set counts place (slice_index counts place + 1)) ≡ sum counts + 1
raised_sum counts place within =
    let both = sum_by-set (λ n. n) counts place (slice_index counts place + 1) 0 within in
    omega (arith, both)

halves : (i k : ℕ) → cond (nat_eq i (k / 2)) 1 0 ≡ cond (nat_eq (2 * i) k) 1 0 + cond (nat_eq (2 * i + 1) k) 1 0
halves i k =
    let whole = odd_is k (k % 2 == 1) refl in
    halves_case i k (k / 2) (k % 2 == 1) whole

small_case : (i k q : ℕ) → 1 ≤ i → 2 * q ≤ k → cond (nat_eq i k) 1 0 + cond (nat_le i q) 1 0 ≤ 1
small_case i k q first half = grind (arith, nat_tests)

-- an item isn't both raised and still to be raised
small : (i k : ℕ) → 1 ≤ i → cond (nat_eq i k) 1 0 + cond (nat_le i (k / 2)) 1 0 ≤ 1
small i k first =
    let whole = odd_is k (k % 2 == 1) refl in
    small_case i k (k / 2) first (omega (arith, whole))

apart : (i k : ℕ) → i < k → cond (nat_eq i k) 1 0 ≤ 0
apart i k below = grind (arith, nat_tests)

-- a count raised leaves the sums above it one too small
pub raised : (items : List ℕ) (len place : ℕ) (now : List ℕ) → IsTallied len items → place < len → sum (drop len items) < 2 ^ 32 - 1
    → now ≡ slice_set items (len + place) (slice_index items (len + place) + 1)
    → IsRaising len ((len + place) / 2) now × (drop len now ≡ slice_set (drop len items) place (slice_index (drop len items) place + 1))
raised items len place now tallied within few is =
    let k = len + place in
    let there : k < length items = omega (arith, tallied.long) in
    let at : slice_index (drop len items) place ≡ slice_index items k = get_or-drop len items place 0 in
    let moved : drop len now ≡ slice_set (drop len items) place (slice_index (drop len items) place + 1) =
    ap (drop len) is ∙ drop-set-add len items place (slice_index items k + 1) ∙ ap (λ n. slice_set (drop len items) place (n + 1)) (sym at) in
    let more : sum (drop len now) ≡ sum (drop len items) + 1 = ap sum moved ∙ raised_sum (drop len items) place (omega (arith, length-drop len items, tallied.long)) in
    let now_at : (j : ℕ) → slice_index now j ≡ slice_index items j + cond (nat_eq j k) 1 0 = λ j. ap (λ l. slice_index l j) is ∙ set_at items k j there in (
      record {
        long = ap length is ∙ length-set items k (slice_index items k + 1) ∙ tallied.long;
        below = omega arith;
        pairs = λ i first below. omega (arith, now_at i, now_at (2 * i), now_at (2 * i + 1), halves i k, apart i k (omega arith), tallied.pairs i first below);
        bounded = λ i first below. omega (arith, now_at i, small i k first, tallied.bounded i first below, more);
        fits = omega (arith, more);
      },
      moved,
    )

-- ---- none yet

pub zeros_are : (len : ℕ) (items : List ℕ) → items ≡ replicate (2 * len) 0 → drop len items ≡ replicate len 0
zeros_are len items is =
    let half : 2 * len - len ≡ len = omega arith in
    ap (drop len) is ∙ drop-replicate len (2 * len) 0 ∙ ap (λ n. replicate n 0) half

pub zeros_tallied : (len : ℕ) (items : List ℕ) → items ≡ replicate (2 * len) 0 → IsTallied len items
zeros_tallied len items is =
    let zero_at : (j : ℕ) → j < 2 * len → slice_index items j ≡ 0 = λ j below. ap (λ l. slice_index l j) is ∙ get_or-replicate (2 * len) j 0 0 below in
    let counts = zeros_are len items is in
    let none : sum (drop len items) ≡ 0 = ap sum counts ∙ sum_by-replicate (λ n. n) len 0 ∙ mul-zero len in
    record {
      long = ap length is ∙ length-replicate (2 * len) 0;
      pairs = λ i first below. omega (arith, zero_at i (omega arith), zero_at (2 * i) (omega arith), zero_at (2 * i + 1) (omega arith));
      bounded = λ i first below. omega (arith, zero_at i below);
      fits = omega (arith, none);
    }
