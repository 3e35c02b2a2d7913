-- The frames of a commit: what stays where none holds a page, and their pages in rising order.
use Rattle.std.proofs.Common.{◌≡◌, ℕ, ◌+◌, ◌-◌, ◌<◌, ◌≤◌, Bool, true, false, cond, not, ◌&&◌, ◌||◌, ◌==◌, nat_lt, nat_eq, List, [], ◌∷◌, ◌++◌, None, length, map, slice_index, refl, sym, ap, ◌∙◌, arith}
use Rattle.std.specs.Option.{option_map, option_or}
use Rattle.std.specs.List.{range_with_len, list_any, dedup, dedup_from}
use Rattle.std.specs.List.Retain.{IsFiltered, DiffersFromLast}
use Rattle.std.specs.List.Sorted.{IsPermutation, IsSorted}
use Rattle.std.specs.Ordering.{nat_cmp}
use Rattle.std.proofs.lemmas.Bool.{eqb-true, le-leb}
use Rattle.std.proofs.lemmas.Bool.Decides.{nat_tests}
use Rattle.std.proofs.lemmas.List.FromFn.{map-range_with_len_more}
use Rattle.std.proofs.lemmas.List.Sorted.{list_any-IsPermutation}
use Rattle.std.proofs.lemmas.List.Filters.{dedup_is}
use Rattle.std.proofs.lemmas.Map.Keys.{IsStrictlyIncreasing-dedup}
use Rattle.sx_base.specs.Places.{last_place}
use Rattle.sx_base.specs.declared.moment.Moment.TheVariants.{File, Commit}
use Rattle.sx_base.proofs.Places.{last_kept, last_place-zero}
use Rattle.sx_chain.specs.Newest.{has_number}
use Rattle.sx_moment.specs.Gathered.{Gathered, slot_at, size_at, limit_at}
use Rattle.sx_moment.specs.Views.{slot_pages, image_at, can_be_viewed, file_page, lock_in, origin_of}
use Rattle.sx_moment.specs.Turns.{moment_before, slots_of, frame_pages, is_among, AreTurned}
use Rattle.sx_moment.specs.Reading.{IsGathered}
use Rattle.sx_moment.specs.declared.origin.Origin.TheVariants as origins
use Rattle.sx_moment.proofs.Noted.{page_of_slot}

-- ---- what stays

-- no slot of a list holds a page that isn't among their pages
among_slots : (case : Gathered) (number : ℕ) (slots : List ℕ)
    → list_any (has_number (slot_pages case) number) slots ≡ is_among (map (λ i. (slot_at case i).page) slots) number
among_slots case number [] = refl
among_slots case number (i ∷ slots) = rw (page_of_slot case i, among_slots case number slots) refl

stay_case : (case : Gathered) (k number low high : ℕ) (first : Bool) → (k == 1) ≡ first → low ≤ high
    → limit_at case (cond first File (Commit (k - 1))) ≡ low → limit_at case (Commit k) ≡ high
    → list_any (has_number (slot_pages case) number) (range_with_len low (high - low)) ≡ false
    → image_at case (Commit k) number ≡ image_at case (cond first File (Commit (k - 1))) number
stay_case case k number low high true is order before now none =
    let p = has_number (slot_pages case) number in
    let whole : low + (high - low) ≡ high = omega arith in
    ap (λ m. option_map origins.Slot (last_place p m)) (now ∙ sym whole)
    ∙ ap (option_map origins.Slot) (last_kept p low (high - low) none ∙ ap (last_place p) (sym before) ∙ last_place-zero p)
stay_case case k number low high false is order before now none =
    let p = has_number (slot_pages case) number in
    let whole : low + (high - low) ≡ high = omega arith in
    ap (λ m. option_map origins.Slot (last_place p m)) (now ∙ sym whole)
    ∙ ap (option_map origins.Slot) (last_kept p low (high - low) none ∙ ap (last_place p) (sym before))

pub order_case : (case : Gathered) (k : ℕ) (first : Bool) → IsGathered case → 1 ≤ k → k ≤ length case.wal.commits → (k == 1) ≡ first
    → limit_at case (cond first File (Commit (k - 1))) ≤ limit_at case (Commit k)
order_case case k true gathered positive within is = omega arith
order_case case k false gathered positive within is =
    let more : 1 < k = grind (arith, nat_tests) in
    let less = gathered.rising (k - 1 - 1) (omega arith) in
    let at : k - 1 - 1 + 1 ≡ k - 1 = omega arith in
    let lower : slice_index case.wal.commits (k - 1 - 1) < slice_index case.wal.commits (k - 1) = rw at at less in
    omega (arith, lower)

-- a commit sees no fewer slots than the moment before it
pub limits_rise : (case : Gathered) (k : ℕ) → IsGathered case → 1 ≤ k → k ≤ length case.wal.commits
    → limit_at case (moment_before k) ≤ limit_at case (Commit k)
limits_rise case k gathered positive within = order_case case k (k == 1) gathered positive within refl

viewed : (lock size number : ℕ) → number ≤ size → can_be_viewed lock size number ≡ (nat_lt 0 number && true && not (number == lock))
viewed lock size number within = ap (λ b. nat_lt 0 number && b && not (number == lock)) (le-leb number size within)

pub stays : (case : Gathered) (k number : ℕ) → IsGathered case → 1 ≤ k → k ≤ length case.wal.commits
    → is_among (frame_pages case k) number ≡ false → number ≤ size_at case (moment_before k) → number ≤ size_at case (Commit k)
    → origin_of case (Commit k) number ≡ origin_of case (moment_before k) number
unfolding origin_of
stays case k number gathered positive within none before now =
    let order = limits_rise case k gathered positive within in
    let image = stay_case case k number (limit_at case (moment_before k)) (limit_at case (Commit k)) (k == 1) refl order refl refl (among_slots case number (slots_of case k) ∙ none) in
    ap (λ b. cond b (option_or (image_at case (Commit k) number) (file_page case number)) None) (viewed (lock_in case) (size_at case (Commit k)) number now ∙ sym (viewed (lock_in case) (size_at case (moment_before k)) number before))
    ∙ ap (λ o. cond (can_be_viewed (lock_in case) (size_at case (moment_before k)) number) (option_or o (file_page case number)) None) image

-- ---- a run of slots

pub run_none : (f : ℕ → ℕ) (from : ℕ) (pages : List ℕ) → pages ≡ [] → pages ≡ map f (range_with_len from (from - from))
run_none f from pages is =
    let none : from - from ≡ 0 = omega arith in
    rw none is

pub run_more : (f : ℕ → ℕ) (from i page : ℕ) (pages now : List ℕ) → from ≤ i → pages ≡ map f (range_with_len from (i - from)) → page ≡ f i
    → now ≡ pages ++ page ∷ [] → now ≡ map f (range_with_len from (i + 1 - from))
run_more f from i page pages now order same is pushed =
    let one : i + 1 - from ≡ i - from + 1 = omega arith in
    rw one (pushed
    ∙ ap (λ l. l ++ page ∷ []) same
    ∙ ap (λ n. map f (range_with_len from (i - from)) ++ n ∷ []) is
    ∙ sym (map-range_with_len_more f from (i - from) i (omega arith)))

pub run_end : (f : ℕ → ℕ) (from end i : ℕ) (pages : List ℕ) → i ≡ end → pages ≡ map f (range_with_len from (i - from)) → pages ≡ map f (range_with_len from (end - from))
run_end f from end i pages is same = same ∙ ap (λ n. map f (range_with_len from (n - from))) is

-- ---- the pages in rising order

absorbed : (a b : Bool) → (a || b) ≡ (a || (a || b))
absorbed true b = refl
absorbed false b = refl

from_case : (p : ℕ → Bool) (x y : ℕ) (xs : List ℕ) (same : Bool) → nat_eq y x ≡ same → list_any p (dedup_from nat_eq x xs) ≡ (p x || list_any p xs)
    → list_any p (dedup_from nat_eq y xs) ≡ (p y || list_any p xs)
    → list_any p (cond same (dedup_from nat_eq x xs) (x ∷ dedup_from nat_eq y xs)) ≡ (p x || (p y || list_any p xs))
from_case p x y xs true is kept later = kept ∙ absorbed (p x) (list_any p xs) ∙ ap (λ n. p x || (p n || list_any p xs)) (sym (eqb-true y x is))
from_case p x y xs false is kept later = ap (λ b. p x || b) later

-- what dedup keeps from a number on passes a test where the list does
pub any_dedup_from : (p : ℕ → Bool) (x : ℕ) (xs : List ℕ) → list_any p (dedup_from nat_eq x xs) ≡ (p x || list_any p xs)
any_dedup_from p x [] = refl
any_dedup_from p x (y ∷ xs) = from_case p x y xs (nat_eq y x) refl (any_dedup_from p x xs) (any_dedup_from p y xs)

pub any_dedup : (p : ℕ → Bool) (xs : List ℕ) → list_any p (dedup nat_eq xs) ≡ list_any p xs
any_dedup p [] = refl
any_dedup p (x ∷ xs) = any_dedup_from p x xs

-- pages sorted, and each kept once
pub turned_is : (case : Gathered) (k : ℕ) (pages sorted kept : List ℕ) → pages ≡ frame_pages case k → IsPermutation pages sorted → IsSorted nat_cmp sorted
    → IsFiltered (DiffersFromLast nat_eq) [] sorted kept → AreTurned case k kept
turned_is case k pages sorted kept are moved order filtered =
    let kept_is : kept ≡ dedup nat_eq sorted = dedup_is nat_eq sorted kept filtered in
    record {
      rising = rw kept_is (IsStrictlyIncreasing-dedup sorted order);
      held = λ number.
          ap (λ l. is_among l number) kept_is
          ∙ any_dedup (λ page. page == number) sorted
          ∙ sym (list_any-IsPermutation (λ page. page == number) pages sorted moved)
          ∙ ap (λ l. is_among l number) are;
    }
