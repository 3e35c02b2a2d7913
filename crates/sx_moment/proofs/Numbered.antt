-- The pages by rank: that they rise, which they are, and what a page without a rank is.
use Rattle.std.proofs.Common.{◌≡◌, ◌≢◌, ℕ, zero, suc, ◌+◌, ◌-◌, ◌^◌, ◌<◌, ◌≤◌, Bool, true, false, cond, not, ◌&&◌, ◌||◌, ◌==◌, nat_lt, nat_le, nat_eq, Contains, List, [], ◌∷◌, ◌++◌, Option, Some, None, is_some, length, get_or, slice_index, take, map, refl, sym, ap, ◌∙◌, arith, inl, inr, eq-or-lt_of_le}
use Rattle.std.specs.List.{dedup}
use Rattle.std.specs.List.Retain.{IsFiltered, DiffersFromLast}
use Rattle.std.specs.List.Sorted.{IsStrictlyIncreasing, IsPermutation, IsSorted, IsNonDecreasingBy, IsPartitionPoint}
use Rattle.std.specs.Ordering.{nat_cmp}
use Rattle.std.proofs.lemmas.Bool.{eqb-true, ltb-false, cases_lt, lt-ltb, le-ltb}
use Rattle.std.proofs.lemmas.Bool.Decides.{nat_tests}
use Rattle.std.specs.Prelude.{slice_get}
use Rattle.std.proofs.lemmas.List.{get_or_default, take_more, map-append}
use Rattle.std.proofs.lemmas.List.Folds.{list_any-append}
use Rattle.std.proofs.lemmas.Option.{get_or_from_slice_get}
use Rattle.std.proofs.lemmas.List.Sorted.{list_any-IsPermutation}
use Rattle.std.proofs.lemmas.List.Filters.{dedup_is}
use Rattle.std.proofs.lemmas.Map.Keys.{IsStrictlyIncreasing-dedup}
use Rattle.sx_base.specs.declared.moment.Moment.{Moment}
use Rattle.sx_chain.proofs.Linked.{rise_upto}
use Rattle.sx_moment.specs.Gathered.{Gathered, page_count, size_at}
use Rattle.sx_moment.specs.Views.{lock_in, can_be_viewed, origin_of}
use Rattle.sx_moment.specs.Images.{is_in_file, is_past, past_only, first_slot, first_record}
use Rattle.sx_moment.specs.Turns.{is_among}
use Rattle.sx_moment.specs.Ranks.{RiseFromOne, is_ranked, AreRanked}
use Rattle.sx_moment.specs.Turning.{base_of}
use Rattle.sx_moment.specs.Firsts.{first_in}
use Rattle.sx_moment.specs.declared.first_image.FirstImage.{FirstImage}
use Rattle.sx_moment.proofs.Firsts.{any_page, past_zero}
use Rattle.sx_moment.proofs.Turned.{any_dedup}

-- ---- numbers that rise

pub rises_after : (xs : List ℕ) (i j : ℕ) → IsStrictlyIncreasing xs → i < j → j < length xs → slice_index xs i < slice_index xs j
rises_after xs i j rising before below =
    let next = rising i (omega arith) in
    let later = rise_upto xs rising (i + 1) j (omega arith) below in
    omega (arith, next, later)

-- each number has one place
pub rank_only : (xs : List ℕ) (i j : ℕ) → IsStrictlyIncreasing xs → i < length xs → j < length xs → slice_index xs i ≡ slice_index xs j → i ≡ j
rank_only xs i j rising low high same =
    elim (cases_lt i j) [
      | inl before ↦ let less = rises_after xs i j rising before high in absurd (omega (arith, less, same))
      | inr upto ↦ elim (eq-or-lt_of_le upto) [
        | inl here ↦ sym here
        | inr behind ↦ let less = rises_after xs j i rising behind low in absurd (omega (arith, less, same))
      ]
    ]

pub rises_ordered : (xs : List ℕ) → IsStrictlyIncreasing xs → IsNonDecreasingBy (λ x. x) xs
rises_ordered xs rising i j d upto below =
    let first = get_or_default xs i d 0 (omega arith) in
    let second = get_or_default xs j d 0 below in
    let order = rise_upto xs rising i j upto below in
    omega (arith, first, second, order)

-- a search by a size tells the ranks of the pages within it
pub searched_within : (xs : List ℕ) (size place rank : ℕ) → IsPartitionPoint (λ x. nat_le x size ≡ true) (λ x. nat_le x size ≡ false) xs place → rank < length xs
    → nat_lt rank place ≡ nat_le (slice_index xs rank) size
searched_within xs size place rank searched below =
    elim (cases_lt rank place) [
      | inl before ↦ lt-ltb rank place before ∙ sym (searched.0 rank 0 (omega arith) before)
      | inr from ↦ le-ltb rank place from ∙ sym (searched.1 rank 0 from below)
    ]

or_true : (b : Bool) → (b || true) ≡ true
or_true true = refl
or_true false = refl

-- ---- what is among them

among_case : (x number : ℕ) (xs : List ℕ) (same : Bool) → (x == number) ≡ same → is_among (x ∷ xs) number ≡ true → (is_among xs number ≡ true → Contains xs number) → Contains (x ∷ xs) number
among_case x number xs true is there rest = (0, omega arith, eqb-true _ _ is)
among_case x number xs false is there rest =
    let later : is_among xs number ≡ true = rw is at there in
    let found = rest later in
    (suc found.0, omega (arith, found.1), found.2)

pub among_contains : (xs : List ℕ) (number : ℕ) → is_among xs number ≡ true → Contains xs number
among_contains [] number there = absurd (let never : false ≡ true = there in cc)
among_contains (x ∷ xs) number there = among_case x number xs (x == number) refl there (among_contains xs number)

not_case : (xs : List ℕ) (number : ℕ) (b : Bool) → is_among xs number ≡ b → (Contains xs number → ⊥) → b ≡ false
not_case xs number true is never = absurd (never (among_contains xs number is))
not_case xs number false is never = refl

pub not_among : (xs : List ℕ) (number : ℕ) → (Contains xs number → ⊥) → is_among xs number ≡ false
not_among xs number never = not_case xs number (is_among xs number) refl never

-- a number at a place is among them
pub among_at : (xs : List ℕ) (rank : ℕ) → rank < length xs → is_among xs (slice_index xs rank) ≡ true
among_at [] rank below = absurd (omega arith)
among_at (x ∷ xs) zero below = let here : (x == x) ≡ true = grind (arith, nat_tests) in rw here refl
among_at (x ∷ xs) (suc rank) below = rw (among_at xs rank (omega arith)) (or_true (x == slice_index xs rank))

-- ---- how many there are

pub ranks_from_one : (xs : List ℕ) (rank : ℕ) → IsStrictlyIncreasing xs → is_among xs 0 ≡ false → rank < length xs → rank + 1 ≤ slice_index xs rank
ranks_from_one xs zero rising none below =
    let positive : slice_index xs 0 ≢ 0 = λ here. let never : true ≡ false = sym (among_at xs 0 below) ∙ ap (is_among xs) here ∙ none in cc in
    omega arith
ranks_from_one xs (suc rank) rising none below =
    let lower = ranks_from_one xs rank rising none (omega arith) in
    let next = rises_after xs rank (suc rank) rising (omega arith) below in
    omega (arith, lower, next)

pub ranks_few : (xs : List ℕ) → IsStrictlyIncreasing xs → is_among xs 0 ≡ false → ((k : ℕ) → k < length xs → slice_index xs k < 2 ^ 32) → length xs < 2 ^ 32
ranks_few xs rising none small =
    elim (cases_lt 0 (length xs)) [
      | inl some ↦
          let last = ranks_from_one xs (length xs - 1) rising none (omega arith) in
          let fits = small (length xs - 1) (omega arith) in
          omega (arith, last, fits)
      | inr nothing ↦ omega arith
    ]

-- ---- how they are gathered

-- one page of the file more
pub file_more : (lock place number : ℕ) → (is_in_file lock place number || (place + 1 == number && not (number == lock))) ≡ is_in_file lock (place + 1) number
file_more lock place number = grind (arith, nat_tests)

pub file_none : (lock number : ℕ) → false ≡ is_in_file lock 0 number
file_none lock number = grind (arith, nat_tests)

or_nothing : (b : Bool) → (b || false) ≡ b
or_nothing true = refl
or_nothing false = refl

pub pages_more : (images : List FirstImage) (i : ℕ) (image : FirstImage) → i < length images → slice_get images i ≡ Some image
    → map (λ image. image.page) (take (i + 1) images) ≡ map (λ image. image.page) (take i images) ++ image.page ∷ []
pages_more images i image below is =
    ap (map (λ image. image.page)) (take_more images i image below)
    ∙ map-append (λ image. image.page) (take i images) (get_or images i image ∷ [])
    ∙ ap (λ (one : FirstImage). map (λ image. image.page) (take i images) ++ one.page ∷ []) (get_or_from_slice_get images i image image is)

-- the pages of a list put behind others
pub pages_among : (before now : List ℕ) (images : List FirstImage) (number : ℕ) → now ≡ before ++ map (λ image. image.page) images
    → is_among now number ≡ (is_among before number || is_some (first_in images number))
pages_among before now images number is =
    ap (λ l. is_among l number) is
    ∙ list_any-append (λ page. page == number) before (map (λ image. image.page) images)
    ∙ ap (λ b. is_among before number || b) (any_page images number)

-- the first moment's pages past the file, and those of the journal's
pub all_ranked : (case : Gathered) (files some all : List ℕ) (past records : List FirstImage)
    → ((number : ℕ) → is_among files number ≡ is_in_file (lock_in case) (page_count case) number)
    → ((number : ℕ) → is_among some number ≡ (is_among files number || is_some (first_in past number)))
    → ((number : ℕ) → is_among all number ≡ (is_among some number || is_some (first_in records number)))
    → ((number : ℕ) → first_in past number ≡ past_only case (first_slot case) number)
    → ((number : ℕ) → first_in records number ≡ past_only case (first_record case) number)
    → (number : ℕ) → is_among all number ≡ is_ranked case number
all_ranked case files some all past records files_are some_are all_are past_are records_are number =
    all_are number
    ∙ ap (λ b. b || is_some (first_in records number)) (some_are number)
    ∙ ap (λ b. b || is_some (first_in past number) || is_some (first_in records number)) (files_are number)
    ∙ ap (λ (o : Option ℕ). is_in_file (lock_in case) (page_count case) number || is_some o || is_some (first_in records number)) (past_are number)
    ∙ ap (λ (o : Option ℕ). is_in_file (lock_in case) (page_count case) number || is_some (past_only case (first_slot case) number) || is_some o) (records_are number)

-- pages sorted, and each kept once
pub ranked_is : (case : Gathered) (all sorted kept : List ℕ) → ((number : ℕ) → is_among all number ≡ is_ranked case number) → IsPermutation all sorted → IsSorted nat_cmp sorted
    → IsFiltered (DiffersFromLast nat_eq) [] sorted kept → AreRanked case kept
ranked_is case all sorted kept are moved order filtered =
    let kept_is : kept ≡ dedup nat_eq sorted = dedup_is nat_eq sorted kept filtered in
    record {
      rising = rw kept_is (IsStrictlyIncreasing-dedup sorted order);
      are = λ number.
          ap (λ l. is_among l number) kept_is
          ∙ any_dedup (λ page. page == number) sorted
          ∙ sym (list_any-IsPermutation (λ page. page == number) all sorted moved)
          ∙ are number;
    }

-- no page is numbered 0
pub zero_unranked : (case : Gathered) → is_ranked case 0 ≡ false
zero_unranked case = rw (past_zero case (first_slot case), past_zero case (first_record case)) refl

pub ranks_start : (case : Gathered) (numbers : List ℕ) → AreRanked case numbers → RiseFromOne numbers
ranks_start case numbers ranked = record {
  rising = ranked.rising;
  none = ranked.are 0 ∙ zero_unranked case;
}

and_nothing : (b : Bool) → (b && false) ≡ false
and_nothing true = refl
and_nothing false = refl

and_yes : (b : Bool) → (true && b && true) ≡ b
and_yes true = refl
and_yes false = refl

-- ---- what a rank says of a page, and the want of one

not_locked : (lock count number : ℕ) (a b : Option ℕ) → (number == lock) ≡ true
    → (is_in_file lock count number || is_some (cond (is_past lock count number) a None) || is_some (cond (is_past lock count number) b None)) ≡ false
not_locked lock count number a b is = rw (is, and_nothing (nat_lt 0 number && nat_le number count), and_nothing (nat_lt count number)) refl

ranked_case : (case : Gathered) (number size : ℕ) (first locked : Bool) → nat_lt 0 number ≡ first → (number == lock_in case) ≡ locked → is_ranked case number ≡ true
    → can_be_viewed (lock_in case) size number ≡ nat_le number size
ranked_case case number size first true from is ranked =
    let never : false ≡ true = sym (not_locked (lock_in case) (page_count case) number (first_slot case number) (first_record case number) is) ∙ ranked in
    absurd (cc)
ranked_case case number size true false from is ranked = rw (from, is) (and_yes (nat_le number size))
ranked_case case number size false false from is ranked =
    let none : number ≡ 0 = omega (arith, ltb-false 0 number from) in
    let never : false ≡ true = sym (zero_unranked case) ∙ ap (is_ranked case) (sym none) ∙ ranked in
    absurd (cc)

-- a page with a rank may be viewed exactly within the size
pub ranked_views : (case : Gathered) (number size : ℕ) → is_ranked case number ≡ true → can_be_viewed (lock_in case) size number ≡ nat_le number size
ranked_views case number size ranked = ranked_case case number size (nat_lt 0 number) (number == lock_in case) refl refl ranked

pub ranked_origin : (case : Gathered) (moment : Moment) (number : ℕ) → is_ranked case number ≡ true
    → origin_of case moment number ≡ cond (nat_le number (size_at case moment)) (base_of case moment number) None
unfolding origin_of
ranked_origin case moment number ranked = ap (λ b. cond b (base_of case moment number) None) (ranked_views case number (size_at case moment) ranked)
