-- The counts that a case keeps for each commit are those of its views and marks.
use Rattle.std.proofs.Common.{◌≡◌, ℕ, zero, suc, ◌+◌, ◌-◌, ◌<◌, ◌≤◌, Bool, true, false, not, ◌&&◌, nat_lt, nat_le, IsTrue, List, [], ◌∷◌, Option, Some, None, cond, length, get_or, slice_index, refl, sym, ap, ◌∙◌, arith}
use Rattle.std.proofs.lemmas.Bool.{leb-true, and_parts}
use Rattle.std.proofs.lemmas.Bool.Decides.{nat_tests}
use Rattle.std.proofs.lemmas.Option.{get_or_from_slice_get, slice_get-get_or, slice_get_within}
use Rattle.sx_base.specs.Held.{held_pages}
use Rattle.sx_base.specs.declared.moment.Moment.TheVariants.{File, Commit}
use Rattle.sx_moment.specs.Gathered.{Gathered, size_at, limit_at, is_moment}
use Rattle.sx_moment.specs.Views.{view_of, lock_in}
use Rattle.sx_moment.specs.Gathered.{page_count}
use Rattle.sx_moment.specs.Marks.{uncertain_pages}
use Rattle.sx_moment.specs.Firsts.{Rises, first_in, below, is_taken, taken, IsSearchedAbove}
use Rattle.sx_moment.specs.Reading.{IsGathered}
use Rattle.sx_moment.specs.Images.{first_slot, past_only, marked_only, is_past, is_bare, file_pages_at}
use Rattle.sx_moment.specs.Counts.{flag, AreFirst, AreCounts}
use Rattle.sx_moment.specs.declared.first_image.FirstImage.{FirstImage}
use Rattle.sx_moment.proofs.Listed.{first_in_at, taken_case}
use Rattle.sx_moment.proofs.Moments.{limit_within}
use Rattle.sx_moment.proofs.HeldAt.{held_count}
use Rattle.sx_moment.proofs.Uncertain.{uncertain_taken, mark_first, bare_first}
use Rattle.sx_moment.proofs.Seen.{taken_long, and_true, and_false}

-- ---- the pages of the lists stand with their first slots

only_case : (b : Bool) (o : Option ℕ) (first : ℕ) → cond b o None ≡ Some first → o ≡ Some first
only_case true o first at = at
only_case false o first at = absurd (let never : None ≡ Some first = at in cc)

pub past_first : (case : Gathered) (past : List FirstImage) → Rises 1 past → ((number : ℕ) → first_in past number ≡ past_only case (first_slot case) number)
    → AreFirst case past
past_first case past rises are place image at =
    let within = slice_get_within past place image at in
    let here : get_or past place image ≡ image = get_or_from_slice_get past place image image at in
    let found : first_in past image.page ≡ Some image.first =
    ap (λ (i : FirstImage). first_in past i.page) (sym here) ∙ first_in_at 1 past place image rises within ∙ ap (λ (i : FirstImage). Some i.first) here in
    only_case (is_past (lock_in case) (page_count case) image.page) (first_slot case image.page) image.first (sym (are image.page) ∙ found)

pub marks_first : (case : Gathered) (marks : List FirstImage) → Rises 1 marks → ((number : ℕ) → first_in marks number ≡ marked_only case number)
    → AreFirst case marks
marks_first case marks rises are place image at = mark_first case marks place image rises are at

-- ---- held pages

-- none has its first slot before the first
none_below : (size : ℕ) (images : List FirstImage) → taken (below 0) size images ≡ []
none_below size [] = refl
none_below size (image ∷ images) =
    let none : nat_lt image.first 0 ≡ false = grind (arith, nat_tests) in
    taken_case (below 0) size image images false (ap (λ b. b && nat_le image.page size) none) ∙ none_below size images

pub held_file : (case : Gathered) (past : List FirstImage) → Rises 1 past → ((number : ℕ) → first_in past number ≡ past_only case (first_slot case) number)
    → length (file_pages_at case File) + 0 ≡ length (held_pages (size_at case File) (view_of case File))
held_file case past rises are =
    held_count case File past 0 (size_at case File) (length (file_pages_at case File)) 0
    (record { within = omega arith; rise = rises; are = are; bound_is = refl; size_is = refl }) refl (ap length (sym (none_below (size_at case File) past)))

commit_in : (n k : ℕ) → IsTrue (nat_le 1 k && nat_le k n) → (1 ≤ k) × (k ≤ n)
commit_in n k is =
    let parts = and_parts (nat_le 1 k) (nat_le k n) is in
    (leb-true 1 k parts.0, leb-true k n parts.1)

pub held_commit : (case : Gathered) (past : List FirstImage) (counts : List ℕ) (k : ℕ) → IsGathered case → IsTrue (is_moment case (Commit k))
    → Rises 1 past → ((number : ℕ) → first_in past number ≡ past_only case (first_slot case) number) → AreCounts case past counts
    → length (file_pages_at case (Commit k)) + slice_index counts (k - 1) ≡ length (held_pages (size_at case (Commit k)) (view_of case (Commit k)))
held_commit case past counts k gathered is rises are counted =
    let within = commit_in (length case.wal.commits) k is in
    held_count case (Commit k) past (limit_at case (Commit k)) (size_at case (Commit k)) (length (file_pages_at case (Commit k))) (slice_index counts (k - 1))
    (record { within = limit_within case (Commit k) gathered is; rise = rises; are = are; bound_is = refl; size_is = refl }) refl (counted.each k within.0 within.1)

-- the count of a commit is there
pub count_there : (case : Gathered) (images : List FirstImage) (counts : List ℕ) (k : ℕ) → IsTrue (is_moment case (Commit k)) → AreCounts case images counts
    → (1 ≤ k) × (k - 1 < length counts)
count_there case images counts k is counted =
    let within = commit_in (length case.wal.commits) k is in
    (within.0, omega (arith, within.0, within.1, counted.long))

-- ---- uncertain pages

not_flag : (b c : Bool) → b ≡ not c → flag b + flag c ≡ 1
not_flag b true is = rw is refl
not_flag b false is = rw is refl

-- the pages within a size pass one of two tests that exclude each other
taken_both : (p q : FirstImage → Bool) (size : ℕ) (images : List FirstImage) (n : ℕ) → n ≤ length images
    → ((k : ℕ) (d : FirstImage) → 0 ≤ k → k < n → nat_le (get_or images k d).page size ≡ true)
    → ((k : ℕ) (d : FirstImage) → n ≤ k → k < length images → nat_le (get_or images k d).page size ≡ false)
    → ((k : ℕ) (d : FirstImage) → k < length images → p (get_or images k d) ≡ not (q (get_or images k d)))
    → length (taken p size images) + length (taken q size images) ≡ n
taken_both p q size [] zero within inside outside apart = refl
taken_both p q size [] (suc n) within inside outside apart = absurd (omega arith)
taken_both p q size (image ∷ images) zero within inside outside apart =
    let past = outside 0 image (omega arith) (omega arith) in
    let p_not : is_taken p size image ≡ false = ap (λ b. p image && b) past ∙ and_false (p image) in
    let q_not : is_taken q size image ≡ false = ap (λ b. q image && b) past ∙ and_false (q image) in
    let later = taken_both p q size images zero (omega arith) (λ k d from less. absurd (omega arith)) (λ k d from less. outside (suc k) d (omega arith) (omega arith)) (λ k d less. apart (suc k) d (omega arith)) in
    omega (arith, taken_long p size image images false p_not, taken_long q size image images false q_not, later)
taken_both p q size (image ∷ images) (suc n) within inside outside apart =
    let there = inside 0 image (omega arith) (omega arith) in
    let p_is : is_taken p size image ≡ p image = ap (λ b. p image && b) there ∙ and_true (p image) in
    let q_is : is_taken q size image ≡ q image = ap (λ b. q image && b) there ∙ and_true (q image) in
    let one = not_flag (p image) (q image) (apart 0 image (omega arith)) in
    let later = taken_both p q size images n (omega arith) (λ k d from less. inside (suc k) d (omega arith) (omega arith)) (λ k d from less. outside (suc k) d (omega arith) (omega arith)) (λ k d less. apart (suc k) d (omega arith)) in
    omega (arith, taken_long p size image images (p image) p_is, taken_long q size image images (q image) q_is, later, one)

pub uncertain_file : (case : Gathered) (marks : List FirstImage) (size n : ℕ) → Rises 1 marks → ((number : ℕ) → first_in marks number ≡ marked_only case number)
    → size ≡ size_at case File → n ≤ length marks → IsSearchedAbove size marks n → n ≡ length (uncertain_pages case File)
uncertain_file case marks size n rises are size_is bound searched =
    let both = taken_both (is_bare case File) (below 0) size marks n bound searched.0 searched.1 (λ k d less.
    bare_first case File (get_or marks k d).page (get_or marks k d).first (omega arith)
    (marks_first case marks rises are k (get_or marks k d) (slice_get-get_or marks k d less))) in
    let none = ap length (none_below size marks) in
    let all : n ≡ length (taken (is_bare case File) size marks) = omega (arith, both, none) in
    all ∙ ap (λ m. length (taken (is_bare case File) m marks)) size_is ∙ ap length (sym (uncertain_taken case File marks rises are))

pub uncertain_commit : (case : Gathered) (marks : List FirstImage) (counts : List ℕ) (k size n count : ℕ) → IsGathered case → IsTrue (is_moment case (Commit k))
    → Rises 1 marks → ((number : ℕ) → first_in marks number ≡ marked_only case number) → AreCounts case marks counts
    → size ≡ size_at case (Commit k) → n ≤ length marks → IsSearchedAbove size marks n → count ≡ slice_index counts (k - 1)
    → (count ≤ n) × (n - count ≡ length (uncertain_pages case (Commit k)))
uncertain_commit case marks counts k size n count gathered is rises are counted size_is bound searched count_is =
    let within = commit_in (length case.wal.commits) k is in
    let both = taken_both (is_bare case (Commit k)) (below (limit_at case (Commit k))) size marks n bound searched.0 searched.1 (λ j d less.
    bare_first case (Commit k) (get_or marks j d).page (get_or marks j d).first (limit_within case (Commit k) gathered is)
    (marks_first case marks rises are j (get_or marks j d) (slice_get-get_or marks j d less))) in
    let seen : count ≡ length (taken (below (limit_at case (Commit k))) size marks) =
    count_is ∙ counted.each k within.0 within.1 ∙ ap (λ m. length (taken (below (limit_at case (Commit k))) m marks)) (sym size_is) in
    let bare : n - count ≡ length (taken (is_bare case (Commit k)) size marks) = omega (arith, both, seen) in
    (omega (arith, both, seen), bare ∙ ap (λ m. length (taken (is_bare case (Commit k)) m marks)) size_is ∙ ap length (sym (uncertain_taken case (Commit k) marks rises are)))
