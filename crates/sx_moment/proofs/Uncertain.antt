-- The uncertain pages of a moment are the marked ones without an image.
use Rattle.std.proofs.Common.{◌≡◌, ℕ, zero, suc, ◌+◌, ◌<◌, ◌≤◌, Bool, true, false, cond, not, ◌&&◌, ◌||◌, ◌==◌, nat_lt, nat_le, List, Option, Some, None, length, get_or, drop, is_some, is_none, refl, sym, ap, ◌∙◌, subst, arith, inl, inr}
use Rattle.std.specs.Option.{option_map, option_or}
use Rattle.std.proofs.lemmas.Bool.{le-leb, lt-leb, cases_lt, and_parts}
use Rattle.std.proofs.lemmas.Bool.Decides.{nat_tests}
use Rattle.sx_base.proofs.Ranges.{same_filter}
use Rattle.sx_base.specs.declared.moment.Moment.{Moment}
use Rattle.sx_base.specs.declared.moment.Moment.TheVariants.{Journal, File, Commit}
use Rattle.sx_base.specs.Places.{last_place}
use Rattle.sx_chain.specs.Newest.{has_number}
use Rattle.sx_moment.specs.Gathered.{Gathered, page_count, size_at, limit_at}
use Rattle.sx_moment.specs.Views.{slot_pages, image_at, can_be_viewed, lock_in, file_page, origin_of}
use Rattle.sx_moment.specs.Marks.{is_same, is_database, is_uncertain, uncertain_pages}
use Rattle.sx_moment.specs.Firsts.{Rises, first_in, is_taken, taken, passes}
use Rattle.sx_moment.specs.Images.{first_at, bound_at, is_in_file, is_marked, marked_only, first_slot, has_no_image, is_bare}
use Rattle.sx_moment.specs.declared.first_image.FirstImage.{FirstImage}
use Rattle.sx_moment.specs.declared.origin.Origin.{Origin}
use Rattle.sx_moment.specs.declared.origin.Origin.TheVariants as origins
use Rattle.sx_base.proofs.Places.{some_place, is_below, some_place-more, first_some, last_some}
use Rattle.std.specs.Prelude.{slice_get}
use Rattle.std.proofs.Math.ListN.{drop_of_length-le}
use Rattle.std.proofs.lemmas.Option.{get_or_from_slice_get, slice_get_within}
use Rattle.sx_moment.proofs.Listed.{first_in_at, taken_yes, taken_no}
use Rattle.sx_moment.proofs.HeldAt.{image_there}
use Rattle.sx_moment.proofs.Taken.{taken_is}

-- an image outside the file isn't the page of the file
abbrev IsOutside : Option Origin → Type 0
IsOutside o = is_database o ≡ false

mapped_outside : (f : ℕ → Origin) → ((i : ℕ) → is_database (Some (f i)) ≡ false) → (o : Option ℕ) → is_database (option_map f o) ≡ false
mapped_outside f each None = refl
mapped_outside f each (Some i) = each i

image_outside : (case : Gathered) (moment : Moment) (number : ℕ) → is_database (image_at case moment number) ≡ false
image_outside case Journal number = mapped_outside origins.Record (λ i. refl) _
image_outside case File number = refl
image_outside case (Commit k) number = mapped_outside origins.Slot (λ i. refl) _

-- ---- the view is the page of the file

or_database : (o file : Option Origin) → is_database o ≡ false → is_database (option_or o file) ≡ (is_none o && is_database file)
or_database None file outside = refl
or_database (Some origin) file outside = outside

if_database : (b : Bool) (o : Option Origin) → is_database (cond b o None) ≡ (b && is_database o)
if_database true o = refl
if_database false o = refl

file_database : (b : Bool) → is_database (cond b (Some origins.Database) None) ≡ b
file_database true = refl
file_database false = refl

from_file : (case : Gathered) (moment : Moment) (number : ℕ)
    → is_database (origin_of case moment number) ≡ (can_be_viewed (lock_in case) (size_at case moment) number && (has_no_image case moment number && nat_le number (page_count case)))
unfolding origin_of
from_file case moment number =
    if_database (can_be_viewed (lock_in case) (size_at case moment) number) (option_or (image_at case moment number) (file_page case number))
    ∙ ap (λ b. can_be_viewed (lock_in case) (size_at case moment) number && b) (or_database (image_at case moment number) (file_page case number) (image_outside case moment number))
    ∙ ap (λ b. can_be_viewed (lock_in case) (size_at case moment) number && (has_no_image case moment number && b)) (file_database (nat_le number (page_count case)))

-- ---- the slots that a moment doesn't see

any_case : (p q : ℕ → Bool) (n : ℕ) → some_place p n ≡ some_place q n → p n ≡ q n → some_place p (suc n) ≡ some_place q (suc n)
any_case p q n front last =
    subst (λ m. some_place p m ≡ some_place q m) (let one : n + 1 ≡ suc n = omega arith in one)
    (some_place-more p n ∙ ap (λ b. b || p n) front ∙ ap (λ b. some_place q n || b) last ∙ sym (some_place-more q n))

same_any : (p q : ℕ → Bool) (n : ℕ) → ((i : ℕ) → i < n → p i ≡ q i) → some_place p n ≡ some_place q n
same_any p q zero same = refl
same_any p q (suc n) same = any_case p q n (same_any p q n (λ i below. same i (omega arith))) (same n (omega arith))

neither : (a b : Bool) → (a || b) ≡ false → (a ≡ false) × (b ≡ false)
neither true b none = absurd (let never : true ≡ false = none in cc)
neither false b none = (refl, none)

middle_false : (a c : Bool) → (a && false && c) ≡ false
middle_false true c = refl
middle_false false c = refl

-- below a bound below which none passes, no place passes
none_passes : (test : ℕ → Bool) (n i : ℕ) (b : Bool) → some_place test n ≡ false → i < n → test i ≡ b → b ≡ false
none_passes test zero i b none below is = absurd (omega arith)
none_passes test (suc n) i b none below is =
    let more : (some_place test n || test n) ≡ false = sym (some_place-more test n) ∙ ap (some_place test) (let one : n + 1 ≡ suc n = omega arith in one) ∙ none in
    let parts = neither (some_place test n) (test n) more in
    elim (cases_lt i n) [
      | inl less ↦ none_passes test n i b parts.0 less is
      | inr past ↦ let last : i ≡ n = omega arith in sym is ∙ ap test last ∙ parts.1
    ]

same_held : (case : Gathered) (number i : ℕ) → has_number (slot_pages case) number i ≡ false → is_same case number i ≡ false
unfolding is_same
same_held case number i other = rw other (middle_false _ _)

not_mapped : (f : ℕ → Origin) (o : Option ℕ) → is_none (option_map f o) ≡ true → is_some o ≡ false
not_mapped f None none = refl
not_mapped f (Some i) none = sym none

shuffled : (positive sized unlocked whole same : Bool) → ((((positive && sized) && unlocked) && (true && whole)) && same) ≡ (sized && ((((positive && whole) && unlocked) && same) && true))
shuffled true true true true true = refl
shuffled true true true true false = refl
shuffled true true true false same = refl
shuffled true true false true same = refl
shuffled true true false false same = refl
shuffled true false unlocked whole same = refl
shuffled false true unlocked true same = refl
shuffled false true unlocked false same = refl
shuffled false false unlocked whole same = refl

withheld : (viewed same sized marked : Bool) → ((viewed && false) && same) ≡ (sized && (marked && false))
withheld true same true true = refl
withheld true same true false = refl
withheld true same false marked = refl
withheld false same true true = refl
withheld false same true false = refl
withheld false same false marked = refl

-- where no slot up to a limit holds the page, the limit leaves no equal slot out
unseen : (case : Gathered) (limit number : ℕ) → some_place (has_number (slot_pages case) number) limit ≡ false
    → some_place (λ i. nat_le limit i && is_same case number i) (length case.wal.slots) ≡ some_place (is_same case number) (length case.wal.slots)
unseen case limit number none = same_any _ _ (length case.wal.slots) (λ i below.
    elim (cases_lt i limit) [
      | inl less ↦
          let other : has_number (slot_pages case) number i ≡ false = none_passes (has_number (slot_pages case) number) limit i _ none less refl in
          rw (lt-leb limit i less) (sym (same_held case number i other))
      | inr past ↦ rw (le-leb limit i past) refl
    ])

-- a moment without an image of the page sees no slot of it
no_slot_seen : (case : Gathered) (moment : Moment) (number : ℕ) → has_no_image case moment number ≡ true → some_place (has_number (slot_pages case) number) (limit_at case moment) ≡ false
no_slot_seen case Journal number none = refl
no_slot_seen case File number none = refl
no_slot_seen case (Commit k) number none =
    sym (last_some (has_number (slot_pages case) number) (limit_at case (Commit k))) ∙ not_mapped origins.Slot (last_place (has_number (slot_pages case) number) (limit_at case (Commit k))) none

-- ---- joined

join_case : (case : Gathered) (moment : Moment) (number : ℕ) (bare : Bool) → has_no_image case moment number ≡ bare
    → ((can_be_viewed (lock_in case) (size_at case moment) number && (bare && nat_le number (page_count case)))
    && some_place (λ i. nat_le (limit_at case moment) i && is_same case number i) (length case.wal.slots))
    ≡ (nat_le number (size_at case moment) && (is_marked case number && bare))
join_case case moment number true is =
    ap (λ b. (can_be_viewed (lock_in case) (size_at case moment) number && (true && nat_le number (page_count case))) && b) (unseen case (limit_at case moment) number (no_slot_seen case moment number is))
    ∙ shuffled (nat_lt 0 number) (nat_le number (size_at case moment)) (not (number == lock_in case)) (nat_le number (page_count case)) (some_place (is_same case number) (length case.wal.slots))
join_case case moment number false is = withheld (can_be_viewed (lock_in case) (size_at case moment) number) _ (nat_le number (size_at case moment)) (is_marked case number)

pub uncertain_is : (case : Gathered) (moment : Moment) (number : ℕ) → is_uncertain case moment number ≡ (nat_le number (size_at case moment) && (is_marked case number && has_no_image case moment number))
unfolding is_uncertain
uncertain_is case moment number =
    ap (λ b. b && some_place (λ i. nat_le (limit_at case moment) i && is_same case number i) (length case.wal.slots)) (from_file case moment number)
    ∙ join_case case moment number (has_no_image case moment number) refl

-- ---- the list

held_case : (case : Gathered) (number n : ℕ) (held : Bool) → has_number (slot_pages case) number n ≡ held → is_same case number n ≡ true → held ≡ true
held_case case number n true is same = refl
held_case case number n false is same = sym (same_held case number n is) ∙ same

or_right : (a : Bool) → (a || true) ≡ true
or_right true = refl
or_right false = refl

either_held : (case : Gathered) (number n : ℕ) (front : Bool) → some_place (is_same case number) n ≡ front → (front || is_same case number n) ≡ true
    → (some_place (is_same case number) n ≡ true → some_place (has_number (slot_pages case) number) n ≡ true)
    → (some_place (has_number (slot_pages case) number) n || has_number (slot_pages case) number n) ≡ true
either_held case number n true is more lower = ap (λ b. b || has_number (slot_pages case) number n) (lower is)
either_held case number n false is more lower =
    ap (λ b. some_place (has_number (slot_pages case) number) n || b) (held_case case number n (has_number (slot_pages case) number n) refl more)
    ∙ or_right (some_place (has_number (slot_pages case) number) n)

-- an equal slot of a page is a slot of it
same_held_some : (case : Gathered) (number n : ℕ) → some_place (is_same case number) n ≡ true → some_place (has_number (slot_pages case) number) n ≡ true
same_held_some case number zero same = same
same_held_some case number (suc n) same =
    let more : (some_place (is_same case number) n || is_same case number n) ≡ true =
    sym (some_place-more (is_same case number) n) ∙ ap (some_place (is_same case number)) (let one : n + 1 ≡ suc n = omega arith in one) ∙ same in
    ap (some_place (has_number (slot_pages case) number)) (let one : suc n ≡ n + 1 = omega arith in one)
    ∙ some_place-more (has_number (slot_pages case) number) n
    ∙ either_held case number n (some_place (is_same case number) n) refl more (same_held_some case number n)

some_case : (case : Gathered) (number : ℕ) (b : Bool) → is_marked case number ≡ b → is_some (cond b (first_slot case number) None) ≡ b
some_case case number false is = refl
some_case case number true is =
    let same = (and_parts (is_in_file (lock_in case) (page_count case) number) (some_place (is_same case number) (length case.wal.slots)) is).1 in
    first_some (has_number (slot_pages case) number) (length case.wal.slots) ∙ same_held_some case number (length case.wal.slots) same

marked_some : (case : Gathered) (number : ℕ) → is_some (marked_only case number) ≡ is_marked case number
marked_some case number = some_case case number (is_marked case number) refl

passes_bare : (case : Gathered) (moment : Moment) (number : ℕ) (o : Option ℕ) → passes (is_bare case moment) number o ≡ (is_some o && has_no_image case moment number)
passes_bare case moment number None = refl
passes_bare case moment number (Some first) = refl

pub uncertain_taken : (case : Gathered) (moment : Moment) (marks : List FirstImage) → Rises 1 marks → ((number : ℕ) → first_in marks number ≡ marked_only case number)
    → uncertain_pages case moment ≡ taken (is_bare case moment) (size_at case moment) marks
unfolding uncertain_pages
uncertain_taken case moment marks rises listed =
    same_filter (is_uncertain case moment) (λ k. passes (is_bare case moment) k (first_in marks k)) 1 (size_at case moment) (λ k low high.
    uncertain_is case moment k
    ∙ ap (λ b. b && (is_marked case k && has_no_image case moment k)) (le-leb k (size_at case moment) (omega arith))
    ∙ ap (λ b. b && has_no_image case moment k) (sym (marked_some case k))
    ∙ sym (passes_bare case moment k (marked_only case k))
    ∙ ap (passes (is_bare case moment) k) (sym (listed k)))
    ∙ taken_is (is_bare case moment) (size_at case moment) 1 (size_at case moment) marks (omega arith) rises

-- ---- one mark

not_below : (limit first : ℕ) → not (nat_lt first limit) ≡ nat_le limit first
not_below limit first = grind (arith, nat_tests)

none_some : {A : Type 0} (o : Option A) (b : Bool) → is_some o ≡ b → is_none o ≡ not b
none_some None b is = ap not is
none_some (Some x) b is = ap not is

-- at the file's moment and at a commit a page has no image where its first slot isn't below the limit
pub bare_first : (case : Gathered) (moment : Moment) (number first : ℕ) → limit_at case moment ≤ length case.wal.slots → first_at case moment number ≡ Some first
    → has_no_image case moment number ≡ not (nat_lt first (bound_at case moment))
bare_first case moment number first within is =
    none_some (image_at case moment number) (nat_lt first (bound_at case moment)) (image_there case moment number within ∙ ap (is_below (bound_at case moment)) is)

pub bare_slot : (case : Gathered) (moment : Moment) (number first : ℕ) → limit_at case moment ≤ length case.wal.slots → first_at case moment number ≡ Some first
    → has_no_image case moment number ≡ nat_le (bound_at case moment) first
bare_slot case moment number first within is = bare_first case moment number first within is ∙ not_below (bound_at case moment) first

-- a mark of the list, and its first slot
marked_case : (case : Gathered) (number first : ℕ) (b : Bool) → is_marked case number ≡ b → cond b (first_slot case number) None ≡ Some first → (is_marked case number ≡ true) × (first_slot case number ≡ Some first)
marked_case case number first true is found = (is, found)
marked_case case number first false is found = absurd (let never : None ≡ Some first = found in cc)

pub mark_at : (case : Gathered) (marks : List FirstImage) (number first : ℕ) → first_in marks number ≡ marked_only case number → first_in marks number ≡ Some first
    → (is_marked case number ≡ true) × (first_slot case number ≡ Some first)
mark_at case marks number first listed found = marked_case case number first (is_marked case number) refl (sym listed ∙ found)

unmarked_case : (case : Gathered) (number : ℕ) (b : Bool) → is_marked case number ≡ b → is_some (cond b (first_slot case number) None) ≡ false → is_marked case number ≡ false
unmarked_case case number false is found = is
unmarked_case case number true is found = absurd (let never : true ≡ false = sym (some_case case number true is) ∙ found in cc)

and_none : (b : Bool) → (b && false) ≡ false
and_none true = refl
and_none false = refl

pub unmarked : (case : Gathered) (moment : Moment) (marks : List FirstImage) (number : ℕ) → first_in marks number ≡ marked_only case number → first_in marks number ≡ None
    → is_uncertain case moment number ≡ false
unmarked case moment marks number listed found =
    let other = unmarked_case case number (is_marked case number) refl (ap is_some (sym listed ∙ found)) in
    uncertain_is case moment number ∙ ap (λ b. nat_le number (size_at case moment) && (b && has_no_image case moment number)) other ∙ and_none (nat_le number (size_at case moment))

pub marked : (case : Gathered) (moment : Moment) (number : ℕ) → is_marked case number ≡ true → is_uncertain case moment number ≡ (nat_le number (size_at case moment) && has_no_image case moment number)
marked case moment number is = uncertain_is case moment number ∙ ap (λ b. nat_le number (size_at case moment) && (b && has_no_image case moment number)) is

-- the same of what the code asks at a moment that isn't the journal's
pub bare_other : (case : Gathered) (moment : Moment) (number first limit : ℕ) → (moment ≡ Journal → ⊥) → limit_at case moment ≤ length case.wal.slots → limit ≡ limit_at case moment → first_slot case number ≡ Some first
    → nat_le limit first ≡ has_no_image case moment number
bare_other case Journal number first limit other within is found = absurd (other refl)
bare_other case File number first limit other within is found = ap (λ n. nat_le n first) is ∙ sym (bare_slot case File number first within found)
bare_other case (Commit k) number first limit other within is found = ap (λ n. nat_le n first) is ∙ sym (bare_slot case (Commit k) number first within found)

swapped : (a b : Bool) → (a && b) ≡ (b && a)
swapped true true = refl
swapped true false = refl
swapped false true = refl
swapped false false = refl

-- a mark that was found is uncertain where the code takes it
pub mark_found : (case : Gathered) (moment : Moment) (marks : List FirstImage) (number first size : ℕ) (r : Bool) → first_in marks number ≡ marked_only case number → first_in marks number ≡ Some first → size ≡ size_at case moment
    → r ≡ (has_no_image case moment number && nat_le number size) → r ≡ is_uncertain case moment number
mark_found case moment marks number first size r listed found size_is r_is =
    r_is
    ∙ ap (λ n. has_no_image case moment number && nat_le number n) size_is
    ∙ swapped (has_no_image case moment number) (nat_le number (size_at case moment))
    ∙ sym (marked case moment number (mark_at case marks number first listed found).0)

-- the first slot of a mark of the list
pub mark_first : (case : Gathered) (marks : List FirstImage) (i : ℕ) (mark : FirstImage) → Rises 1 marks → ((number : ℕ) → first_in marks number ≡ marked_only case number) → slice_get marks i ≡ Some mark
    → first_slot case mark.page ≡ Some mark.first
mark_first case marks i mark rises listed at =
    let here : get_or marks i mark ≡ mark = get_or_from_slice_get marks i mark mark at in
    let found : first_in marks mark.page ≡ Some mark.first =
    ap (λ (m : FirstImage). first_in marks m.page) (sym here) ∙ first_in_at 1 marks i mark rises (slice_get_within marks i mark at) ∙ ap (λ (m : FirstImage). Some m.first) here in
    (mark_at case marks mark.page mark.first (listed mark.page) found).1

-- one mark more, taken or not
pub count_more : (test : FirstImage → Bool) (size : ℕ) (marks : List FirstImage) (i : ℕ) (mark : FirstImage) (b : Bool) → slice_get marks i ≡ Some mark → is_taken test size mark ≡ b
    → length (taken test size (drop i marks)) ≡ cond b 1 0 + length (taken test size (drop (i + 1) marks))
count_more test size marks i mark true at is =
    let more = ap length (taken_yes test size marks i mark (slice_get_within marks i mark at) (sym (get_or_from_slice_get marks i mark mark at)) is) in
    omega (arith, more)
count_more test size marks i mark false at is =
    let more = ap length (taken_no test size marks i mark (slice_get_within marks i mark at) (sym (get_or_from_slice_get marks i mark mark at)) is) in
    omega (arith, more)

-- no mark is left
pub count_all : (test : FirstImage → Bool) (size : ℕ) (marks : List FirstImage) (i count whole : ℕ) → length marks ≤ i → count + length (taken test size (drop i marks)) ≡ whole → count ≡ whole
count_all test size marks i count whole past so_far =
    let none : length (taken test size (drop i marks)) ≡ 0 = ap (λ l. length (taken test size l)) (drop_of_length-le marks past) in
    omega (arith, so_far, none)
