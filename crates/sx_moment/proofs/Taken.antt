-- The pages that a list takes are those of a range that it has below a test; and so the pages held at a moment are those
-- of the file and those taken past it.
use Rattle.std.proofs.Common.{◌≡◌, ℕ, zero, suc, ◌+◌, ◌-◌, ◌<◌, ◌≤◌, Bool, true, false, not, List, [], ◌∷◌, ◌++◌, Some, None, min, filter, nat_le, ◌==◌, refl, sym, ap, ◌∙◌, arith, inl, inr, eq-or-lt_of_le}
use Rattle.std.specs.List.{range_with_len}
use Rattle.std.proofs.lemmas.Bool.{and_right, le-leb, lt-leb}
use Rattle.std.proofs.lemmas.Bool.Decides.{nat_tests}
use Rattle.sx_base.proofs.Ranges.{kept_split, none_kept, same_filter}
use Rattle.sx_moment.specs.Firsts.{Rises, first_in, is_taken, taken, passes, file_pages}
use Rattle.sx_moment.specs.declared.first_image.FirstImage.{FirstImage}
use Rattle.sx_moment.proofs.Listed.{first_in_below, first_at_case, taken_case}

-- nothing past the size is taken
past_case : (test : FirstImage → Bool) (size : ℕ) (image : FirstImage) (images : List FirstImage) (b : Bool) → is_taken test size image ≡ b → size < image.page → taken test size images ≡ []
    → taken test size (image ∷ images) ≡ []
past_case test size image images true is past rest =
    let never : is_taken test size image ≡ false = and_right (test image) (nat_le image.page size) (lt-leb image.page size past) in
    absurd (let same : true ≡ false = sym is ∙ never in cc)
past_case test size image images false is past rest = taken_case test size image images false is ∙ rest

taken_past : (test : FirstImage → Bool) (size least : ℕ) (images : List FirstImage) → size < least → Rises least images → taken test size images ≡ []
taken_past test size least [] past rises = refl
taken_past test size least (image ∷ images) past rises =
    past_case test size image images (is_taken test size image) refl (omega (arith, rises.0))
    (taken_past test size (image.page + 1) images (omega (arith, rises.0)) rises.1)

here_kept : (test : FirstImage → Bool) (size a n : ℕ) (image : FirstImage) (images : List FirstImage) (b : Bool) → a ≡ image.page → passes test a (first_in (image ∷ images) a) ≡ b → is_taken test size image ≡ b
    → filter (λ k. passes test k (first_in (image ∷ images) k)) (range_with_len (a + 1) n) ≡ taken test size images
    → filter (λ k. passes test k (first_in (image ∷ images) k)) (range_with_len a (suc n)) ≡ taken test size (image ∷ images)
here_kept test size a n image images true same kept takes rest = rw kept (ap (λ l. a ∷ l) rest ∙ ap (λ l. l ∷ taken test size images) same ∙ sym (taken_case test size image images true takes))
here_kept test size a n image images false same kept takes rest = rw kept (rest ∙ sym (taken_case test size image images false takes))

taken_within : (test : FirstImage → Bool) (size : ℕ) (image : FirstImage) (b : Bool) → test image ≡ b → image.page ≤ size → is_taken test size image ≡ b
taken_within test size image true below within = rw below (le-leb image.page size within)
taken_within test size image false below within = rw below refl

-- the first of a range is the page of the first image
here_case : (test : FirstImage → Bool) (size a n : ℕ) (image : FirstImage) (images : List FirstImage) (b : Bool) → test image ≡ b → a + suc n ≡ size + 1 → a ≡ image.page
    → filter (λ k. passes test k (first_in images k)) (range_with_len (a + 1) n) ≡ taken test size images
    → filter (λ k. passes test k (first_in (image ∷ images) k)) (range_with_len a (suc n)) ≡ taken test size (image ∷ images)
here_case test size a n image images b below ends same rest =
    let found : first_in (image ∷ images) a ≡ Some image.first = first_at_case image images a true (grind (arith, nat_tests)) in
    let kept : passes test a (first_in (image ∷ images) a) ≡ b = ap (passes test a) found ∙ ap (λ n. test (record { page = n; first = image.first })) same ∙ below in
    let takes : is_taken test size image ≡ b = taken_within test size image b below (omega arith) in
    let later : filter (λ k. passes test k (first_in (image ∷ images) k)) (range_with_len (a + 1) n) ≡ filter (λ k. passes test k (first_in images k)) (range_with_len (a + 1) n) =
    same_filter _ _ (a + 1) n (λ k low high. ap (passes test k) (first_at_case image images k false (grind (arith, nat_tests)))) in
    here_kept test size a n image images b same kept takes (later ∙ rest)

-- a number below the first image's page isn't listed
skip_case : (test : FirstImage → Bool) (size a n : ℕ) (image : FirstImage) (images : List FirstImage) → a < image.page → Rises image.page (image ∷ images)
    → filter (λ k. passes test k (first_in (image ∷ images) k)) (range_with_len (a + 1) n) ≡ taken test size (image ∷ images)
    → filter (λ k. passes test k (first_in (image ∷ images) k)) (range_with_len a (suc n)) ≡ taken test size (image ∷ images)
skip_case test size a n image images below rises rest =
    let left : passes test a (first_in (image ∷ images) a) ≡ false = ap (passes test a) (first_in_below image.page (image ∷ images) a rises below) in
    rw left rest

rises_at : (a : ℕ) (image : FirstImage) (images : List FirstImage) → a ≡ image.page → Rises (image.page + 1) images → Rises (a + 1) images
rises_at a image images same rises = rw same rises

pub taken_is : (test : FirstImage → Bool) (size a n : ℕ) (images : List FirstImage) → a + n ≡ size + 1 → Rises a images
    → filter (λ k. passes test k (first_in images k)) (range_with_len a n) ≡ taken test size images
taken_is test size a zero images ends rises = sym (taken_past test size a images (omega arith) rises)
taken_is test size a (suc n) [] ends rises = none_kept (λ k. passes test k (first_in [] k)) a (suc n) (λ k low high. refl)
taken_is test size a (suc n) (image ∷ images) ends rises =
    elim (eq-or-lt_of_le rises.0) [
      | inl same ↦
          let up : Rises (a + 1) images = rises_at a image images same rises.1 in
          here_case test size a n image images (test image) refl ends same (taken_is test size (a + 1) n images (omega arith) up)
      | inr past ↦ skip_case test size a n image images past (omega arith, rises.1) (taken_is test size (a + 1) n (image ∷ images) (omega arith) (omega arith, rises.1))
    ]

-- ---- the pages held

-- all pages held: those of the file that can be viewed, and behind them those past it that have an image
pub held_split : (p : ℕ → Bool) (lock count size : ℕ) (test : FirstImage → Bool) (past : List FirstImage) → Rises 1 past
    → ((k : ℕ) → 1 ≤ k → k ≤ count → k ≤ size → p k ≡ not (k == lock))
    → ((k : ℕ) → k ≤ count → first_in past k ≡ None)
    → ((k : ℕ) → count < k → k ≤ size → p k ≡ passes test k (first_in past k))
    → filter p (range_with_len 1 size) ≡ file_pages lock (min size count) ++ taken test size past
held_split p lock count size test past rises file absent above =
    let m = min size count in
    let r = size - m in
    let q : ℕ → Bool = λ k. passes test k (first_in past k) in
    let whole : m + r ≡ size = omega arith in
    let cut : filter p (range_with_len 1 size) ≡ filter p (range_with_len 1 m) ++ filter p (range_with_len (1 + m) r) = ap (λ n. filter p (range_with_len 1 n)) (sym whole) ∙ kept_split p 1 m r in
    let front : filter p (range_with_len 1 m) ≡ file_pages lock m = same_filter p (λ k. not (k == lock)) 1 m (λ k low high. file k low (omega arith) (omega arith)) in
    let back : filter p (range_with_len (1 + m) r) ≡ filter q (range_with_len (1 + m) r) = same_filter p q (1 + m) r (λ k low high. above k (omega arith) (omega arith)) in
    let none : filter q (range_with_len 1 m) ≡ [] = none_kept q 1 m (λ k low high. ap (passes test k) (absent k (omega arith))) in
    let all : filter q (range_with_len 1 size) ≡ filter q (range_with_len (1 + m) r) =
    ap (λ n. filter q (range_with_len 1 n)) (sym whole) ∙ kept_split q 1 m r ∙ ap (λ l. l ++ filter q (range_with_len (1 + m) r)) none in
    cut
    ∙ ap (λ l. l ++ filter p (range_with_len (1 + m) r)) front
    ∙ ap (λ l. file_pages lock m ++ l) (back ∙ sym all ∙ taken_is test size 1 size past (omega arith) rises)
