-- The flags of the pages of a list, raised one by one, and their sums over the pages within a size.
use Rattle.std.proofs.Common.{◌≡◌, ◌≢◌, ℕ, zero, suc, ◌+◌, ◌-◌, ◌<◌, ◌≤◌, Bool, true, false, cond, ◌&&◌, ◌==◌, nat_lt, nat_le, List, [], ◌∷◌, ◌++◌, Option, Some, None, length, take, sum, get_or, slice_index, slice_set, replicate, eqb-true, eq-eqb, mul-zero, length-append, refl, sym, ap, ◌∙◌, arith, inl, inr}
use Rattle.std.specs.Prelude.{slice_get}
use Rattle.std.proofs.lemmas.Bool.{ltb-true, ltb-false, leb-true, cases_lt}
use Rattle.std.proofs.lemmas.Bool.Decides.{nat_tests}
use Rattle.std.proofs.lemmas.Option.{get_or_from_slice_get, slice_get-get_or, slice_get_within}
use Rattle.std.proofs.lemmas.List.Sums.{sum_by-cons, sum_by-set}
use Rattle.sx_moment.specs.Firsts.{Rises, below, is_taken, taken, IsSearched, IsSearchedAbove}
use Rattle.sx_base.specs.Places.{first_place}
use Rattle.sx_base.specs.declared.moment.Moment.TheVariants.{Commit}
use Rattle.sx_base.proofs.Places.{or_first, first_place-zero, first_place-more}
use Rattle.sx_chain.specs.Newest.{has_number}
use Rattle.sx_moment.specs.Gathered.{Gathered, slot_at, size_at, limit_at}
use Rattle.sx_moment.specs.Views.{slot_pages}
use Rattle.sx_moment.specs.Turns.{moment_before}
use Rattle.sx_moment.specs.Counts.{flag, seen_below, AreFirst, AreCounts}
use Rattle.sx_moment.specs.declared.first_image.FirstImage.{FirstImage}
use Rattle.sx_moment.proofs.Noted.{page_of_slot}
use Rattle.sx_moment.proofs.Listed.{rises_strictly, taken_case}
use Rattle.std.proofs.Math.Seq.{get_or-append_seam}
use Rattle.std.proofs.lemmas.List.{get_or_append_left}
use Rattle.std.proofs.lemmas.List.Folds.{sum_by-replicate}

-- ---- equal images

pub same_image : (a b : FirstImage) → a ≡ b → ((a.page == b.page) && (a.first == b.first)) ≡ true
same_image a b same = rw same (rw (eq-eqb b.page b.page refl, eq-eqb b.first b.first refl) refl)

image_is : (image : FirstImage) (page first : ℕ) → image.page ≡ page → image.first ≡ first → image ≡ record { page = page; first = first }
image_is image page first page_is first_is = rw (← page_is, ← first_is) refl

passes_case : (test : ℕ → Bool) (n place : ℕ) (before : Option ℕ) (b : Bool) → test n ≡ b → or_first before (cond b (Some n) None) ≡ Some place
    → (before ≡ Some place → test place ≡ true) → test place ≡ true
passes_case test n place (Some found) b is at lower = lower at
passes_case test n place None true is at lower = let same : n ≡ place = cc in ap test (sym same) ∙ is
passes_case test n place None false is at lower = absurd (let never : None ≡ Some place = at in cc)

-- the first place that passes a test passes it
first_place_passes : (test : ℕ → Bool) (n place : ℕ) → first_place test n ≡ Some place → test place ≡ true
first_place_passes test zero place at = absurd (let never : None ≡ Some place = sym (first_place-zero test) ∙ at in cc)
first_place_passes test (suc n) place at =
    let one : n + 1 ≡ suc n = omega arith in
    passes_case test n place (first_place test n) (test n) refl (sym (first_place-more test n) ∙ ap (first_place test) one ∙ at) (first_place_passes test n place)

-- of the pages that stand with their first slots, slot i is that of its own page alone
pub only_slot : (case : Gathered) (images : List FirstImage) (i page : ℕ) → AreFirst case images → page ≡ (slot_at case i).page
    → (place : ℕ) (other : FirstImage) → slice_get images place ≡ Some other → other.first ≡ i → other ≡ record { page = page; first = i }
only_slot case images i page first page_is place other at same =
    let holds : has_number (slot_pages case) other.page i ≡ true =
    first_place_passes (has_number (slot_pages case) other.page) (length case.wal.slots) i (first place other at ∙ ap Some same) in
    let number : slice_index (slot_pages case) i ≡ other.page = eqb-true _ _ holds in
    image_is other page i (sym number ∙ page_of_slot case i ∙ sym page_is) same

-- ---- where a page stands

-- where the search ends behind the list, no place has the image
pub nowhere_behind : (images : List FirstImage) (image : FirstImage) (place : ℕ) → IsSearched image.page images place → length images ≤ place
    → (k : ℕ) (d : FirstImage) → k < length images → get_or images k d ≢ image
nowhere_behind images image place searched past k d within same =
    let less = ltb-true _ _ (searched.0 k d (omega arith) (omega arith)) in
    let level : (get_or images k d).page ≡ image.page = ap (λ (i : FirstImage). i.page) same in
    omega (arith, less, level)

-- where another image stands at its end, neither
pub nowhere_else : (images : List FirstImage) (image : FirstImage) (place : ℕ) → Rises 1 images → IsSearched image.page images place → place < length images
    → ((d : FirstImage) → get_or images place d ≢ image)
    → (k : ℕ) (d : FirstImage) → k < length images → get_or images k d ≢ image
nowhere_else images image place rises searched inside other k d within same =
    let level : (get_or images k d).page ≡ image.page = ap (λ (i : FirstImage). i.page) same in
    elim (cases_lt k place) [
      | inl before ↦ let less = ltb-true _ _ (searched.0 k d (omega arith) before) in omega (arith, less, level)
      | inr behind ↦ elim (cases_lt place k) [
        | inl after ↦
            let up = rises_strictly 1 images place k d rises after within in
            let from = ltb-false _ _ (searched.1 place d (omega arith) inside) in
            omega (arith, up, from, level)
        | inr upto ↦
            let here : k ≡ place = omega arith in
            other d (ap (λ n. get_or images n d) (sym here) ∙ same)
      ]
    ]

rises_by : (least : ℕ) (images : List FirstImage) (k : ℕ) (d : FirstImage) → Rises least images → k < length images → least + k ≤ (get_or images k d).page
rises_by least [] k d rises below = absurd (omega arith)
rises_by least (image ∷ images) zero d rises below = omega (arith, rises.0)
rises_by least (image ∷ images) (suc k) d rises below =
    let later = rises_by (image.page + 1) images k d rises.1 (omega arith) in
    omega (arith, rises.0, later)

-- the pages within a size are no more than it
pub within_few : (size place : ℕ) (images : List FirstImage) → Rises 1 images → place ≤ length images → IsSearchedAbove size images place → place ≤ size
within_few size zero images rises bound searched = omega arith
within_few size (suc last) images rises bound searched =
    let d : FirstImage = record { page = 0; first = 0 } in
    let up = rises_by 1 images last d rises (omega arith) in
    let upto = leb-true _ _ (searched.0 last d (omega arith) (omega arith)) in
    omega (arith, up, upto)

-- ---- one image more

flag_other : (first bound : ℕ) → first ≢ bound → flag (nat_lt first (bound + 1)) ≡ flag (nat_lt first bound)
flag_other first bound other = ap flag (let same : nat_lt first (bound + 1) ≡ nat_lt first bound = grind (arith, nat_tests) in same)

flag_here : (first bound : ℕ) → first ≡ bound → flag (nat_lt first (bound + 1)) ≡ flag (nat_lt first bound) + 1
flag_here first bound same =
    let now : nat_lt first (bound + 1) ≡ true = grind (arith, nat_tests) in
    let before : nat_lt first bound ≡ false = grind (arith, nat_tests) in
    rw (now, before) refl

-- where no page has its first image there, nothing is raised
pub seen_none : (bound : ℕ) (images : List FirstImage) → ((k : ℕ) (d : FirstImage) → k < length images → (get_or images k d).first ≢ bound)
    → seen_below (bound + 1) images ≡ seen_below bound images
seen_none bound [] none = refl
seen_none bound (image ∷ images) none =
    let here = flag_other image.first bound (none 0 image (omega arith)) in
    let later = seen_none bound images (λ k d within. none (suc k) d (omega arith)) in
    ap (λ n. n ∷ seen_below (bound + 1) images) here ∙ ap (λ l. flag (nat_lt image.first bound) ∷ l) later

-- where one has, its flag is
pub seen_one : (bound : ℕ) (images : List FirstImage) (place : ℕ) → place < length images
    → ((d : FirstImage) → (get_or images place d).first ≡ bound)
    → ((k : ℕ) (d : FirstImage) → k < length images → (get_or images k d).first ≡ bound → k ≡ place)
    → seen_below (bound + 1) images ≡ slice_set (seen_below bound images) place (slice_index (seen_below bound images) place + 1)
seen_one bound [] place within here only = absurd (omega arith)
seen_one bound (image ∷ images) zero within here only =
    let raised = flag_here image.first bound (here image) in
    let later = seen_none bound images (λ k d inside same. let at : suc k ≡ 0 = only (suc k) d (omega arith) same in omega (arith, at)) in
    ap (λ n. n ∷ seen_below (bound + 1) images) raised ∙ ap (λ l. (flag (nat_lt image.first bound) + 1) ∷ l) later
seen_one bound (image ∷ images) (suc place) within here only =
    let kept = flag_other image.first bound (λ same. let at : 0 ≡ suc place = only 0 image (omega arith) same in omega (arith, at)) in
    let later = seen_one bound images place (omega arith) here (λ k d inside same. let at : suc k ≡ suc place = only (suc k) d (omega arith) same in omega (arith, at)) in
    ap (λ n. n ∷ seen_below (bound + 1) images) kept ∙ ap (λ l. flag (nat_lt image.first bound) ∷ l) later

-- the place of the one image that is first there
pub only_place : (images : List FirstImage) (image : FirstImage) (place : ℕ) → Rises 1 images → slice_get images place ≡ Some image
    → ((k : ℕ) (other : FirstImage) → slice_get images k ≡ Some other → other.first ≡ image.first → other ≡ image)
    → (k : ℕ) (d : FirstImage) → k < length images → (get_or images k d).first ≡ image.first → k ≡ place
only_place images image place rises at only k d within same =
    let inside = slice_get_within images place image at in
    let there : get_or images k d ≡ image = only k (get_or images k d) (slice_get-get_or images k d within) same in
    let here : get_or images place d ≡ image = get_or_from_slice_get images place image d at in
    let level : (get_or images k d).page ≡ (get_or images place d).page = ap (λ (i : FirstImage). i.page) (there ∙ sym here) in
    elim (cases_lt k place) [
      | inl before ↦ let up = rises_strictly 1 images k place d rises before inside in omega (arith, up, level)
      | inr behind ↦ elim (cases_lt place k) [
        | inl after ↦ let up = rises_strictly 1 images place k d rises after within in omega (arith, up, level)
        | inr upto ↦ omega arith
      ]
    ]

-- none is flagged before the first slot
pub seen_zero : (images : List FirstImage) → replicate (length images) 0 ≡ seen_below 0 images
seen_zero [] = refl
seen_zero (image ∷ images) =
    let none : nat_lt image.first 0 ≡ false = grind (arith, nat_tests) in
    rw none (ap (λ l. 0 ∷ l) (seen_zero images))

pub sum_more : (counts : List ℕ) (place : ℕ) → place < length counts → sum (slice_set counts place (slice_index counts place + 1)) ≡ sum counts + 1
sum_more counts place within =
    let both = sum_by-set (λ n. n) counts place (slice_index counts place + 1) 0 within in
    omega (arith, both)

-- ---- the sum over a size

pub taken_long : (test : FirstImage → Bool) (size : ℕ) (image : FirstImage) (images : List FirstImage) (b : Bool) → is_taken test size image ≡ b
    → length (taken test size (image ∷ images)) ≡ flag b + length (taken test size images)
taken_long test size image images true is = let more = ap length (taken_case test size image images true is) in omega (arith, more)
taken_long test size image images false is = let same = ap length (taken_case test size image images false is) in omega (arith, same)

pub and_true : (b : Bool) → (b && true) ≡ b
and_true true = refl
and_true false = refl

pub and_false : (b : Bool) → (b && false) ≡ false
and_false true = refl
and_false false = refl

-- the flags of the pages within a size are as many as are taken
pub front_taken : (bound size : ℕ) (images : List FirstImage) (n : ℕ) → n ≤ length images
    → ((k : ℕ) (d : FirstImage) → 0 ≤ k → k < n → nat_le (get_or images k d).page size ≡ true)
    → ((k : ℕ) (d : FirstImage) → n ≤ k → k < length images → nat_le (get_or images k d).page size ≡ false)
    → sum (take n (seen_below bound images)) ≡ length (taken (below bound) size images)
front_taken bound size [] zero within inside outside = refl
front_taken bound size [] (suc n) within inside outside = absurd (omega arith)
front_taken bound size (image ∷ images) zero within inside outside =
    let leaves : is_taken (below bound) size image ≡ false = ap (λ b. below bound image && b) (outside 0 image (omega arith) (omega arith)) ∙ and_false (below bound image) in
    let later = front_taken bound size images zero (omega arith) (λ k d from less. absurd (omega arith)) (λ k d from less. outside (suc k) d (omega arith) (omega arith)) in
    let long = taken_long (below bound) size image images false leaves in
    omega (arith, long, later)
front_taken bound size (image ∷ images) (suc n) within inside outside =
    let takes : is_taken (below bound) size image ≡ below bound image = ap (λ b. below bound image && b) (inside 0 image (omega arith) (omega arith)) ∙ and_true (below bound image) in
    let later = front_taken bound size images n (omega arith) (λ k d from less. inside (suc k) d (omega arith) (omega arith)) (λ k d from less. outside (suc k) d (omega arith) (omega arith)) in
    let long = taken_long (below bound) size image images (below bound image) takes in
    let cons = sum_by-cons (λ m. m) (flag (below bound image)) (take n (seen_below bound images)) in
    omega (arith, long, later, cons)

-- ---- the sweep

before_next : (case : Gathered) (k : ℕ) → limit_at case (moment_before (k + 1 + 1)) ≡ limit_at case (Commit (k + 1))
before_next case k =
    let later : (k + 1 + 1 == 1) ≡ false = grind (arith, nat_tests) in
    let same : k + 1 + 1 - 1 ≡ k + 1 = omega arith in
    rw later (ap (λ n. limit_at case (Commit n)) same)

-- what the sweep keeps: so many commits are counted, and the pages whose first slot they see are flagged
pub record IsCounted (case : Gathered) (images : List FirstImage) (k : ℕ) (seen counts : List ℕ) : Type 0 where
  pub seen_is : seen ≡ seen_below (limit_at case (moment_before (k + 1))) images
  pub few : sum seen ≤ limit_at case (moment_before (k + 1))
  pub long : length counts ≡ k
  pub each : (j : ℕ) → j < k → slice_index counts j ≡ length (taken (below (limit_at case (Commit (j + 1)))) (size_at case (Commit (j + 1))) images)

pub counted_start : (case : Gathered) (images : List FirstImage) (n : ℕ) (seen counts : List ℕ) → n ≡ length images → seen ≡ replicate n 0 → counts ≡ []
    → IsCounted case images 0 seen counts
counted_start case images n seen counts n_is seen_is counts_are =
    let flags : seen ≡ seen_below 0 images = seen_is ∙ ap (λ m. replicate m 0) n_is ∙ seen_zero images in
    let none : sum seen ≡ 0 = ap sum seen_is ∙ sum_by-replicate (λ m. m) n 0 ∙ mul-zero n in
    record {
      seen_is = flags;
      few = omega (arith, none);
      long = ap length counts_are;
      each = λ j below. absurd (omega arith);
    }

pub counted_more : (case : Gathered) (images : List FirstImage) (k within size count : ℕ) (seen counts later more : List ℕ) → IsCounted case images k seen counts
    → later ≡ seen_below (limit_at case (Commit (k + 1))) images → sum later ≤ limit_at case (Commit (k + 1))
    → within ≤ length images → IsSearchedAbove size images within → size ≡ size_at case (Commit (k + 1))
    → count ≡ sum (take within later) → more ≡ counts ++ count ∷ []
    → IsCounted case images (k + 1) later more
counted_more case images k within size count seen counts later more counted later_is few bound searched size_is count_is more_is =
    let next = before_next case k in
    let last : count ≡ length (taken (below (limit_at case (Commit (k + 1)))) (size_at case (Commit (k + 1))) images) =
    count_is ∙ ap (λ l. sum (take within l)) later_is
    ∙ front_taken (limit_at case (Commit (k + 1))) size images within bound searched.0 searched.1
    ∙ ap (λ n. length (taken (below (limit_at case (Commit (k + 1)))) n images)) size_is in
    record {
      seen_is = later_is ∙ ap (λ n. seen_below n images) (sym next);
      few = omega (arith, few, next);
      long = ap length more_is ∙ length-append counts (count ∷ []) ∙ ap (λ n. n + 1) counted.long;
      each = λ j under. elim (cases_lt j k) [
        | inl less ↦ ap (λ l. slice_index l j) more_is ∙ get_or_append_left counts (count ∷ []) 0 j (omega (arith, counted.long)) ∙ counted.each j less
        | inr upto ↦
            let here : j ≡ length counts = omega (arith, under, upto, counted.long) in
            let at : j ≡ k = omega (arith, under, upto) in
            ap (λ l. slice_index l j) more_is
            ∙ ap (λ n. slice_index (counts ++ count ∷ []) n) here
            ∙ get_or-append_seam counts count [] 0
            ∙ last
            ∙ ap (λ n. length (taken (below (limit_at case (Commit (n + 1)))) (size_at case (Commit (n + 1))) images)) (sym at)
      ];
    }

pub counted_all : (case : Gathered) (images : List FirstImage) (k : ℕ) (seen counts : List ℕ) → IsCounted case images k seen counts → k ≡ length case.wal.commits
    → AreCounts case images counts
counted_all case images k seen counts counted all = record {
  long = counted.long ∙ all;
  each = λ n first last.
      let there = counted.each (n - 1) (omega (arith, first, last, all)) in
      let same : n - 1 + 1 ≡ n = omega (arith, first) in
      rw same at there;
}
