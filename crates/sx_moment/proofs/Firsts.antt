-- Lists of pages, each with its first image: what is found in them, and that they rise.
use Rattle.std.specs.Bool.{⊤}
use Rattle.std.proofs.Common.{◌≡◌, ◌≢◌, ℕ, zero, suc, ◌+◌, ◌<◌, ◌≤◌, ◌==◌, Bool, true, false, cond, List, [], ◌∷◌, ◌++◌, Option, Some, None, length, take, map, is_some, not, nat_lt, slice_index, slice_get, refl, sym, ap, ◌∙◌, arith, append_assoc, append-nil}
use Rattle.std.specs.List.{Contains, AllByRecursion, list_any}
use Rattle.std.specs.List.Sorted.{IsStrictlyIncreasing, IsStrictlySortedBy}
use Rattle.std.specs.Ordering.{nat_cmp}
use Rattle.std.proofs.lemmas.Map.Keys.{sorted_head, sorted_tail, sorted_from_strictly_increasing}
use Rattle.std.proofs.lemmas.Bool.Decides.{nat_tests}
use Rattle.sx_base.specs.Places.{first_place}
use Rattle.sx_chain.specs.Newest.{has_number}
use Rattle.sx_chain.specs.Heads.{AreDistinct}
use Rattle.sx_chain.proofs.Linked.{head_none}
use Rattle.sx_chain.proofs.Oldest.{first_none}
use Rattle.sx_moment.proofs.Images.{above}
use Rattle.std.proofs.lemmas.Bool.{and_left, eqb-true}
use Rattle.std.proofs.lemmas.List.{take_more, length-map, get_or-map}
use Rattle.std.proofs.lemmas.Option.{get_or_from_slice_get}
use Rattle.sx_wal.specs.declared.slot.Slot.{Slot as LogSlot}
use Rattle.sx_moment.specs.Gathered.{Gathered, page_count}
use Rattle.sx_moment.specs.Views.{lock_in, slot_pages}
use Rattle.sx_moment.specs.Images.{is_past, first_slot, past_only}
use Rattle.sx_moment.specs.Firsts.{Rises, first_in}
use Rattle.sx_moment.specs.Gathering.{image_with, firsts_of}
use Rattle.sx_moment.specs.declared.first_image.FirstImage.{FirstImage}

-- ---- one page more

firsts_append : (first : ℕ → Option ℕ) (before behind : List ℕ) → firsts_of first (before ++ behind) ≡ firsts_of first before ++ firsts_of first behind
firsts_append first [] behind = refl
firsts_append first (page ∷ before) behind =
    ap (λ l. image_with page (first page) ++ l) (firsts_append first before behind)
    ∙ sym (append_assoc (image_with page (first page)) (firsts_of first before) (firsts_of first behind))

pub firsts_more : (first : ℕ → Option ℕ) (pages : List ℕ) (i : ℕ) → i < length pages
    → firsts_of first (take i pages) ++ image_with (slice_index pages i) (first (slice_index pages i)) ≡ firsts_of first (take (i + 1) pages)
firsts_more first pages i below =
    ap (λ l. firsts_of first (take i pages) ++ l) (sym (append-nil (image_with (slice_index pages i) (first (slice_index pages i)))))
    ∙ sym (firsts_append first (take i pages) (slice_index pages i ∷ []))
    ∙ ap (firsts_of first) (sym (take_more pages i 0 below))

-- ---- look-ups

head_case : (page number : ℕ) (o : Option ℕ) (rest : List FirstImage) (same : Bool) → (page == number) ≡ same
    → first_in (image_with page o ++ rest) number ≡ cond same (cond (is_some o) o (first_in rest number)) (first_in rest number)
head_case page number None rest true is = refl
head_case page number None rest false is = refl
head_case page number (Some x) rest true is = rw is refl
head_case page number (Some x) rest false is = rw is refl

nothing : (b : Bool) (o : Option ℕ) → o ≡ None → o ≡ cond b o None
nothing true o none = refl
nothing false o none = none

here_case : (o rest : Option ℕ) (b : Bool) → rest ≡ cond b o None → cond (is_some o) o rest ≡ o
here_case (Some x) rest b is = refl
here_case None rest true is = is
here_case None rest false is = is

found_case : (first : ℕ → Option ℕ) (page number : ℕ) (pages : List ℕ) (same : Bool) → (page == number) ≡ same
    → first_in (firsts_of first pages) number ≡ cond (list_any (λ p. p == number) pages) (first number) None
    → first_in (firsts_of first (page ∷ pages)) number ≡ cond (list_any (λ p. p == number) (page ∷ pages)) (first number) None
found_case first page number pages true is rest =
    let here : page ≡ number = eqb-true _ _ is in
    let head = head_case page number (first page) (firsts_of first pages) true is in
    let value = here_case (first number) (first_in (firsts_of first pages) number) (list_any (λ p. p == number) pages) rest in
    head ∙ ap (λ o. cond (is_some o) o (first_in (firsts_of first pages) number)) (ap first here) ∙ value ∙ rw is refl
found_case first page number pages false is rest =
    head_case page number (first page) (firsts_of first pages) false is ∙ rest ∙ rw is refl

-- a page of the list is found with its first image, and no other page
pub firsts_found : (first : ℕ → Option ℕ) (pages : List ℕ) (number : ℕ)
    → first_in (firsts_of first pages) number ≡ cond (list_any (λ page. page == number) pages) (first number) None
firsts_found first [] number = refl
firsts_found first (page ∷ pages) number = found_case first page number pages (page == number) refl (firsts_found first pages number)

-- ---- the order

-- the pages rise, from a least one on
abbrev pub Climb : ℕ → List ℕ → Type 0
Climb least [] = ⊤
Climb least (page ∷ pages) = (least ≤ page) × Climb (page + 1) pages

lower : (below least : ℕ) (images : List FirstImage) → below ≤ least → Rises least images → Rises below images
lower below least [] low rises = tt
lower below least (image ∷ images) low rises = (omega (arith, rises.0), rises.1)

rises_with : (least page : ℕ) (o : Option ℕ) (rest : List FirstImage) → least ≤ page → Rises (page + 1) rest → Rises least (image_with page o ++ rest)
rises_with least page None rest from rises = lower least (page + 1) rest (omega arith) rises
rises_with least page (Some x) rest from rises = (from, rises)

pub firsts_climb : (first : ℕ → Option ℕ) (least : ℕ) (pages : List ℕ) → Climb least pages → Rises least (firsts_of first pages)
firsts_climb first least [] climb = tt
firsts_climb first least (page ∷ pages) climb =
    rises_with least page (first page) (firsts_of first pages) climb.0 (firsts_climb first (page + 1) pages climb.1)

climb_sorted : (least : ℕ) (pages : List ℕ) → IsStrictlySortedBy nat_cmp pages → AllByRecursion (λ page. least ≤ page) pages → Climb least pages
climb_sorted least [] sorted from = tt
climb_sorted least (page ∷ pages) sorted from =
    (from.0, climb_sorted (page + 1) pages (sorted_tail nat_cmp page pages sorted) (above page pages (sorted_head nat_cmp page pages sorted)))

all_from : (pages : List ℕ) → AllByRecursion (λ page. 0 ≤ page) pages
all_from [] = tt
all_from (page ∷ pages) = (omega arith, all_from pages)

numbered_case : (first : ℕ → Option ℕ) (page : ℕ) (pages : List ℕ) (zero_page : Bool) → (page == 0) ≡ zero_page → first 0 ≡ None → Climb 0 (page ∷ pages) → Rises 1 (firsts_of first (page ∷ pages))
numbered_case first page pages true is none climb =
    let here : page ≡ 0 = eqb-true _ _ is in
    let nothing_first : first page ≡ None = ap first here ∙ none in
    rw nothing_first (lower 1 (page + 1) (firsts_of first pages) (omega arith) (firsts_climb first (page + 1) pages climb.1))
numbered_case first page pages false is none climb =
    let more : 1 ≤ page = grind (arith, nat_tests, is) in
    firsts_climb first 1 (page ∷ pages) (more, climb.1)

rise_case : (first : ℕ → Option ℕ) (pages : List ℕ) → first 0 ≡ None → Climb 0 pages → Rises 1 (firsts_of first pages)
rise_case first [] none climb = tt
rise_case first (page ∷ pages) none climb = numbered_case first page pages (page == 0) refl none climb

-- numbers that rise give pages that rise, from 1 on where 0 has no image
pub firsts_rise : (first : ℕ → Option ℕ) (pages : List ℕ) → IsStrictlyIncreasing pages → first 0 ≡ None → Rises 1 (firsts_of first pages)
firsts_rise first pages rising none = rise_case first pages none (climb_sorted 0 pages (sorted_from_strictly_increasing pages rising) (all_from pages))

-- ---- the slots of a log

other_head : (x number : ℕ) (xs : List ℕ) (same : Bool) → (x == number) ≡ same → list_any (λ page. page == number) (x ∷ xs) ≡ false
    → (x ≢ number) × (list_any (λ page. page == number) xs ≡ false)
other_head x number xs true is none = cc
other_head x number xs false is none = ((λ here. let never : (x == number) ≡ true = grind (arith, nat_tests, here) in cc), rw is at none)

not_any : (xs : List ℕ) (number : ℕ) → list_any (λ page. page == number) xs ≡ false → Contains xs number → ⊥
not_any [] number none (k, below, is) = absurd (omega arith)
not_any (x ∷ xs) number none (zero, below, is) = (other_head x number xs (x == number) refl none).0 is
not_any (x ∷ xs) number none (suc k, below, is) =
    not_any xs number (other_head x number xs (x == number) refl none).1 (k, omega arith, is)

listed_case : (numbers distinct : List ℕ) (first : ℕ → Option ℕ) (number : ℕ) (there : Bool) → list_any (λ page. page == number) distinct ≡ there
    → ((Contains distinct number → ⊥) → first number ≡ None) → cond there (first number) None ≡ first number
listed_case numbers distinct first number true is none = refl
listed_case numbers distinct first number false is none = sym (none (not_any distinct number is))

-- the list that a log's distinct numbers give
pub firsts_of_slots : (numbers distinct : List ℕ) (first : ℕ → Option ℕ) (number : ℕ) → AreDistinct numbers distinct
    → (first_place (has_number numbers number) (length numbers) ≡ None → first number ≡ None)
    → first_in (firsts_of first distinct) number ≡ first number
firsts_of_slots numbers distinct first number are none =
    firsts_found first distinct number
    ∙ listed_case numbers distinct first number (list_any (λ page. page == number) distinct) refl
    (λ never. none (first_none (has_number numbers number) (length numbers) (sym (head_none numbers distinct number are never))))

-- ---- the pages of another list

pages_climb : (least : ℕ) (images : List FirstImage) → Rises least images → Climb least (map (λ image. image.page) images)
pages_climb least [] rises = tt
pages_climb least (image ∷ images) rises = (rises.0, pages_climb (image.page + 1) images rises.1)

pub firsts_of_images : (first : ℕ → Option ℕ) (images : List FirstImage) → Rises 1 images → Rises 1 (firsts_of first (map (λ image. image.page) images))
firsts_of_images first images rises = firsts_climb first 1 (map (λ image. image.page) images) (pages_climb 1 images rises)

any_case : (image : FirstImage) (images : List FirstImage) (number : ℕ) (same : Bool) → (image.page == number) ≡ same
    → list_any (λ page. page == number) (map (λ image. image.page) images) ≡ is_some (first_in images number)
    → list_any (λ page. page == number) (map (λ image. image.page) (image ∷ images)) ≡ is_some (first_in (image ∷ images) number)
any_case image images number true is rest = rw is refl
any_case image images number false is rest = rw is rest

pub any_page : (images : List FirstImage) (number : ℕ) → list_any (λ page. page == number) (map (λ image. image.page) images) ≡ is_some (first_in images number)
any_page [] number = refl
any_page (image ∷ images) number = any_case image images number (image.page == number) refl (any_page images number)

pub images_found_in : (first : ℕ → Option ℕ) (images : List FirstImage) (number : ℕ)
    → first_in (firsts_of first (map (λ image. image.page) images)) number ≡ cond (is_some (first_in images number)) (first number) None
images_found_in first images number =
    firsts_found first (map (λ image. image.page) images) number ∙ ap (λ b. cond b (first number) None) (any_page images number)

pub page_read : (images : List FirstImage) (i : ℕ) (image : FirstImage) → i < length images → slice_get images i ≡ Some image
    → image.page ≡ slice_index (map (λ image. image.page) images) i
page_read images i image below is =
    ap (λ (found : FirstImage). found.page) (sym (get_or_from_slice_get images i image image is))
    ∙ sym (get_or-map (λ (image : FirstImage). image.page) images i image 0 below)

-- ---- pages past the file

none_below : (case : Gathered) (first : ℕ → Option ℕ) (past : Bool) → past ≡ false → cond past (first 0) None ≡ None
none_below case first past is = rw is refl

-- no page is numbered 0
pub past_zero : (case : Gathered) (first : ℕ → Option ℕ) → past_only case first 0 ≡ None
past_zero case first =
    let below : nat_lt (page_count case) 0 ≡ false = grind (arith, nat_tests) in
    none_below case first (is_past (lock_in case) (page_count case) 0) (and_left (nat_lt (page_count case) 0) (not (0 == lock_in case)) below)

nothing_past : (b : Bool) (o : Option ℕ) → o ≡ None → cond b o None ≡ None
nothing_past true o none = none
nothing_past false o none = refl

-- and one that no slot holds has no first slot
pub past_none : (case : Gathered) (numbers distinct : List ℕ) (number : ℕ) → numbers ≡ slot_pages case → AreDistinct numbers distinct
    → first_in (firsts_of (past_only case (first_slot case)) distinct) number ≡ past_only case (first_slot case) number
past_none case numbers distinct number are_pages are =
    let long : length (slot_pages case) ≡ length case.wal.slots = length-map case.wal.slots (λ (slot : LogSlot). slot.page) in
    firsts_of_slots numbers distinct (past_only case (first_slot case)) number are
    (λ none. nothing_past (is_past (lock_in case) (page_count case) number) (first_slot case number)
    (ap (first_place (has_number (slot_pages case) number)) (sym long) ∙ ap (λ l. first_place (has_number l number) (length l)) (sym are_pages) ∙ none))

-- the first item of a number in a list
abbrev pub first_of : List ℕ → ℕ → Option ℕ
first_of numbers number = first_place (has_number numbers number) (length numbers)

-- it is the first slot, where the list is that of the slots' pages
pub slot_first : (case : Gathered) (numbers : List ℕ) (number : ℕ) → numbers ≡ slot_pages case → first_of numbers number ≡ first_slot case number
slot_first case numbers number are_pages =
    let long : length (slot_pages case) ≡ length case.wal.slots = length-map case.wal.slots (λ (slot : LogSlot). slot.page) in
    ap (λ l. first_of l number) are_pages ∙ ap (first_place (has_number (slot_pages case) number)) long
