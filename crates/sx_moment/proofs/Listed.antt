-- Pages in rising order, and those of them that a test keeps.
use Rattle.std.proofs.Common.{◌≡◌, ◌≢◌, ℕ, zero, suc, ◌+◌, ◌<◌, ◌≤◌, Bool, true, false, cond, List, [], ◌∷◌, Some, None, drop, length, get_or, max, find, nat_lt, nat_le, ◌==◌, refl, sym, ap, ◌∙◌, arith, inl, inr, eq-or-lt_of_le}
use Rattle.std.specs.List.Sorted.{IsNonDecreasingBy}
use Rattle.std.proofs.lemmas.Bool.Decides.{nat_tests}
use Rattle.std.proofs.lemmas.Bool.{ltb-true, ltb-false, leb-true, leb-false, lt-ltb, le-ltb, and_parts, cases_lt}
use Rattle.std.proofs.lemmas.List.{drop_more, get_or_default, get_or-drop, length-drop}
use Rattle.sx_moment.specs.Firsts.{Rises, first_in, is_taken, taken, IsSearched, IsSearchedAbove}
use Rattle.sx_base.specs.Places.{first_of}
use Rattle.sx_moment.specs.declared.first_image.FirstImage.{FirstImage}

-- ---- by places

-- each page is at or above the least
pub rises_from : (least : ℕ) (images : List FirstImage) (k : ℕ) (d : FirstImage) → Rises least images → k < length images → least ≤ (get_or images k d).page
rises_from least [] k d rises below = absurd (omega arith)
rises_from least (image ∷ images) zero d rises below = rises.0
rises_from least (image ∷ images) (suc k) d rises below =
    let later = rises_from (image.page + 1) images k d rises.1 (omega arith) in
    omega (arith, rises.0, later)

-- a page is below each later one
pub rises_strictly : (least : ℕ) (images : List FirstImage) (i j : ℕ) (d : FirstImage) → Rises least images → i < j → j < length images
    → (get_or images i d).page < (get_or images j d).page
rises_strictly least [] i j d rises before below = absurd (omega arith)
rises_strictly least (image ∷ images) i zero d rises before below = absurd (omega arith)
rises_strictly least (image ∷ images) zero (suc j) d rises before below =
    let later = rises_from (image.page + 1) images j d rises.1 (omega arith) in
    omega (arith, later)
rises_strictly least (image ∷ images) (suc i) (suc j) d rises before below = rises_strictly (image.page + 1) images i j d rises.1 (omega arith) (omega arith)

pub rises_ordered : (least : ℕ) (images : List FirstImage) → Rises least images → IsNonDecreasingBy (λ image. image.page) images
rises_ordered least images rises i j d upto below =
    elim (eq-or-lt_of_le upto) [
      | inl same ↦ let level : (get_or images i d).page ≡ (get_or images j d).page = ap (λ n. (get_or images n d).page) same in omega (arith, level)
      | inr before ↦ let less = rises_strictly least images i j d rises before below in omega (arith, less)
    ]

-- ---- look-ups

pub first_at_case : (image : FirstImage) (images : List FirstImage) (number : ℕ) (b : Bool) → (image.page == number) ≡ b → first_in (image ∷ images) number ≡ cond b (Some image.first) (first_in images number)
first_at_case image images number true is = rw is refl
first_at_case image images number false is = rw is refl

-- the page at a place is found
pub first_in_at : (least : ℕ) (images : List FirstImage) (k : ℕ) (d : FirstImage) → Rises least images → k < length images
    → first_in images (get_or images k d).page ≡ Some (get_or images k d).first
first_in_at least [] k d rises below = absurd (omega arith)
first_in_at least (image ∷ images) zero d rises below =
    let same : (image.page == image.page) ≡ true = grind (arith, nat_tests) in
    first_at_case image images image.page true same
first_in_at least (image ∷ images) (suc k) d rises below =
    let later = rises_from (image.page + 1) images k d rises.1 (omega arith) in
    let differs : (image.page == (get_or images k d).page) ≡ false = grind (arith, nat_tests) in
    first_at_case image images (get_or images k d).page false differs ∙ first_in_at (image.page + 1) images k d rises.1 (omega arith)

-- a page that stands nowhere isn't
pub first_in_none : (images : List FirstImage) (number : ℕ) → ((k : ℕ) (d : FirstImage) → k < length images → (get_or images k d).page ≡ number → ⊥) → first_in images number ≡ None
first_in_none [] number nowhere = refl
first_in_none (image ∷ images) number nowhere =
    let apart : image.page ≢ number = λ same. nowhere 0 image (omega arith) same in
    let differs : (image.page == number) ≡ false = grind (arith, nat_tests) in
    first_at_case image images number false differs
    ∙ first_in_none images number (λ k d below same. nowhere (suc k) d (omega arith) same)

-- a page below all isn't either
pub first_in_below : (least : ℕ) (images : List FirstImage) (number : ℕ) → Rises least images → number < least → first_in images number ≡ None
first_in_below least images number rises below =
    first_in_none images number (λ k d within same. let from = rises_from least images k d rises within in absurd (omega arith))

pub searched_some : (images : List FirstImage) (number place : ℕ) (image : FirstImage) → Rises 1 images → place < length images → image ≡ get_or images place image → image.page ≡ number
    → first_in images number ≡ Some image.first
searched_some images number place image rises within at is =
    let found : first_in images (get_or images place image).page ≡ Some (get_or images place image).first = first_in_at 1 images place image rises within in
    ap (first_in images) (sym is) ∙ ap (λ (i : FirstImage). first_in images i.page) at ∙ found ∙ ap (λ (i : FirstImage). Some i.first) (sym at)

-- where the page at the place is another, no place has it
other_place : (images : List FirstImage) (number place k : ℕ) (d image : FirstImage) → Rises 1 images → IsSearched number images place → place < length images
    → number < (get_or images place image).page → k < length images → (get_or images k d).page ≡ number → ⊥
other_place images number place k d image rises searched within past below same =
    elim (cases_lt k place) [
      | inl before ↦ let less = ltb-true _ _ (searched.0 k d (omega arith) before) in omega arith
      | inr behind ↦
          let up = rises_ordered 1 images rises place k d behind below in
          let level : (get_or images place d).page ≡ (get_or images place image).page = ap (λ (i : FirstImage). i.page) (get_or_default images place d image within) in
          omega arith
    ]

pub searched_other : (images : List FirstImage) (number place : ℕ) (image : FirstImage) → Rises 1 images → IsSearched number images place → place < length images → image ≡ get_or images place image → image.page ≢ number
    → first_in images number ≡ None
searched_other images number place image rises searched within at differs =
    let level : image.page ≡ (get_or images place image).page = ap (λ (i : FirstImage). i.page) at in
    let from : number ≤ (get_or images place image).page = ltb-false _ _ (searched.1 place image (omega arith) within) in
    first_in_none images number (λ k d below same. other_place images number place k d image rises searched within (omega (arith, level, from, differs)) below same)

-- where the place is past the end, no place has it
pub searched_none : (images : List FirstImage) (number place : ℕ) → IsSearched number images place → length images ≤ place → first_in images number ≡ None
searched_none images number place searched past =
    first_in_none images number (λ k d below same. let less = ltb-true _ _ (searched.0 k d (omega arith) (omega arith)) in omega arith)

-- ---- what is taken

pub taken_case : (test : FirstImage → Bool) (size : ℕ) (image : FirstImage) (images : List FirstImage) (b : Bool) → is_taken test size image ≡ b → taken test size (image ∷ images) ≡ cond b (image.page ∷ taken test size images) (taken test size images)
taken_case test size image images true is = rw is refl
taken_case test size image images false is = rw is refl

pub taken_yes : (test : FirstImage → Bool) (size : ℕ) (images : List FirstImage) (i : ℕ) (image : FirstImage) → i < length images → image ≡ get_or images i image → is_taken test size image ≡ true
    → taken test size (drop i images) ≡ image.page ∷ taken test size (drop (i + 1) images)
taken_yes test size images i image below is takes =
    ap (taken test size) (drop_more images i image below ∙ ap (λ x. x ∷ drop (i + 1) images) (sym is))
    ∙ taken_case test size image (drop (i + 1) images) true takes

pub taken_no : (test : FirstImage → Bool) (size : ℕ) (images : List FirstImage) (i : ℕ) (image : FirstImage) → i < length images → image ≡ get_or images i image → is_taken test size image ≡ false
    → taken test size (drop i images) ≡ taken test size (drop (i + 1) images)
taken_no test size images i image below is leaves =
    ap (taken test size) (drop_more images i image below ∙ ap (λ x. x ∷ drop (i + 1) images) (sym is))
    ∙ taken_case test size image (drop (i + 1) images) false leaves

-- no more are taken than the size says
few_case : (least : ℕ) (test : FirstImage → Bool) (size : ℕ) (image : FirstImage) (images : List FirstImage) (b : Bool) → is_taken test size image ≡ b → least ≤ image.page
    → length (taken test size images) + (image.page + 1) ≤ max (size + 1) (image.page + 1)
    → length (taken test size (image ∷ images)) + least ≤ max (size + 1) least
few_case least test size image images true is from rest =
    let within : image.page ≤ size = leb-true image.page size (and_parts (test image) (nat_le image.page size) is).1 in
    let more : length (taken test size (image ∷ images)) ≡ suc (length (taken test size images)) = ap length (taken_case test size image images true is) in
    omega arith
few_case least test size image images false is from rest =
    let same : length (taken test size (image ∷ images)) ≡ length (taken test size images) = ap length (taken_case test size image images false is) in
    omega arith

few_from : (least : ℕ) (test : FirstImage → Bool) (size : ℕ) (images : List FirstImage) → Rises least images → length (taken test size images) + least ≤ max (size + 1) least
few_from least test size [] rises = omega arith
few_from least test size (image ∷ images) rises =
    few_case least test size image images (is_taken test size image) refl rises.0 (few_from (image.page + 1) test size images rises.1)

pub taken_few : (test : FirstImage → Bool) (size : ℕ) (images : List FirstImage) → Rises 1 images → length (taken test size images) ≤ size
taken_few test size images rises = let few = few_from 1 test size images rises in omega arith

-- ---- the first above a number

find_case : (after : ℕ) (test : FirstImage → Bool) (size : ℕ) (image : FirstImage) (images : List FirstImage) (b : Bool) → is_taken test size image ≡ b → nat_lt after image.page ≡ false
    → find (nat_lt after) (taken test size (image ∷ images)) ≡ find (nat_lt after) (taken test size images)
find_case after test size image images true is below = ap (find (nat_lt after)) (taken_case test size image images true is) ∙ rw below refl
find_case after test size image images false is below = ap (find (nat_lt after)) (taken_case test size image images false is)

-- pages at or below the number are passed over
find_past : (after : ℕ) (test : FirstImage → Bool) (size place : ℕ) (images : List FirstImage) → place ≤ length images → ((k : ℕ) (d : FirstImage) → k < place → (get_or images k d).page ≤ after)
    → find (nat_lt after) (taken test size images) ≡ find (nat_lt after) (taken test size (drop place images))
find_past after test size zero images within low = refl
find_past after test size (suc place) [] within low = refl
find_past after test size (suc place) (image ∷ images) within low =
    let below : nat_lt after image.page ≡ false = le-ltb after image.page (low 0 image (omega arith)) in
    find_case after test size image images (is_taken test size image) refl below
    ∙ find_past after test size place images (omega arith) (λ k d less. low (suc k) d (omega arith))

first_case : (after : ℕ) (test : FirstImage → Bool) (size : ℕ) (image : FirstImage) (images : List FirstImage) (b : Bool) → is_taken test size image ≡ b → nat_lt after image.page ≡ true
    → find (nat_lt after) (taken test size images) ≡ first_of (taken test size images)
    → find (nat_lt after) (taken test size (image ∷ images)) ≡ first_of (taken test size (image ∷ images))
first_case after test size image images true is above rest = rw (taken_case test size image images true is) (rw above refl)
first_case after test size image images false is above rest = rw (taken_case test size image images false is) rest

-- among pages above it the first is found
find_first : (after : ℕ) (test : FirstImage → Bool) (size : ℕ) (images : List FirstImage) → ((k : ℕ) (d : FirstImage) → k < length images → after < (get_or images k d).page)
    → find (nat_lt after) (taken test size images) ≡ first_of (taken test size images)
find_first after test size [] high = refl
find_first after test size (image ∷ images) high =
    first_case after test size image images (is_taken test size image) refl (lt-ltb after image.page (high 0 image (omega arith)))
    (find_first after test size images (λ k d below. high (suc k) d (omega arith)))

-- so a search leaves the first of those from its place on
pub found_above : (after : ℕ) (test : FirstImage → Bool) (size place : ℕ) (images : List FirstImage) → place ≤ length images → IsSearchedAbove after images place
    → find (nat_lt after) (taken test size images) ≡ first_of (taken test size (drop place images))
found_above after test size place images within searched =
    find_past after test size place images within (λ k d less. leb-true _ _ (searched.0 k d (omega arith) less))
    ∙ find_first after test size (drop place images) (λ k d below.
    let long = length-drop place images in
    let here = get_or-drop place images k d in
    let above = leb-false _ _ (searched.1 (place + k) d (omega arith) (omega arith)) in
    let level : (get_or (drop place images) k d).page ≡ (get_or images (place + k) d).page = ap (λ (i : FirstImage). i.page) here in
    omega arith)
