-- The pages held at a moment: those of the file, and those past it that an image holds.
use Rattle.std.proofs.Common.{◌≡◌, ℕ, ◌+◌, ◌-◌, ◌<◌, ◌≤◌, Bool, true, false, cond, not, ◌&&◌, ◌==◌, nat_lt, List, [], ◌∷◌, ◌++◌, Option, Some, None, min, length, get_or, slice_index, find, length-append, is_some, refl, sym, ap, ◌∙◌, arith}
use Rattle.std.specs.Option.{option_map, option_or}
use Rattle.std.proofs.lemmas.Bool.{le-leb, lt-leb, lt-ltb, le-ltb}
use Rattle.std.proofs.lemmas.List.{get_or_append_left}
use Rattle.std.proofs.Math.Seq.{get_or-append-add}
use Rattle.std.proofs.lemmas.Bool.Decides.{nat_tests}
use Rattle.sx_base.specs.Held.{held_pages, held_after}
use Rattle.sx_base.specs.declared.moment.Moment.{Moment}
use Rattle.sx_base.specs.declared.moment.Moment.TheVariants.{Journal, File, Commit}
use Rattle.sx_base.specs.Places.{last_place}
use Rattle.sx_chain.specs.Newest.{has_number}
use Rattle.sx_moment.specs.Gathered.{Gathered, page_count, size_at, limit_at}
use Rattle.sx_moment.specs.Views.{slot_pages, is_good_record, image_at, can_be_viewed, lock_in, file_page, origin_of, bytes_of, view_of}
use Rattle.sx_moment.specs.Firsts.{Rises, first_in, taken, passes, file_pages, below}
use Rattle.sx_moment.specs.Images.{file_pages_at, is_past, past_only, first_at, first_slot, first_record, bound_at}
use Rattle.sx_moment.specs.declared.first_image.FirstImage.{FirstImage}
use Rattle.sx_moment.specs.declared.origin.Origin.{Origin}
use Rattle.sx_moment.specs.declared.origin.Origin.TheVariants as origins
use Rattle.sx_base.proofs.Places.{is_below, last_some, first_below, first_within}
use Rattle.sx_moment.proofs.Taken.{held_split}

-- a first image below a bound
passes_below : (bound number : ℕ) (o : Option ℕ) → passes (below bound) number o ≡ is_below bound o
passes_below bound number None = refl
passes_below bound number (Some first) = refl

mapped_some : {A B : Type 0} (f : A → B) (o : Option A) → is_some (option_map f o) ≡ is_some o
mapped_some f None = refl
mapped_some f (Some x) = refl

-- a page has an image at a moment where its first one is below the moment's bound
none_below_zero : (o : Option ℕ) → is_below 0 o ≡ false
none_below_zero None = refl
none_below_zero (Some first) = grind (arith, nat_tests)

pub image_there : (case : Gathered) (moment : Moment) (number : ℕ) → limit_at case moment ≤ length case.wal.slots → is_some (image_at case moment number) ≡ is_below (bound_at case moment) (first_at case moment number)
image_there case Journal number within = mapped_some origins.Record (first_record case number) ∙ sym (first_within (is_good_record case number) (length case.journal.entries))
image_there case File number within = sym (none_below_zero (first_slot case number))
image_there case (Commit k) number within =
    mapped_some origins.Slot (last_place (has_number (slot_pages case) number) (limit_at case (Commit k)))
    ∙ last_some (has_number (slot_pages case) number) (limit_at case (Commit k))
    ∙ sym (first_below (has_number (slot_pages case) number) (length case.wal.slots) (limit_at case (Commit k)) within)

-- ---- what has a view

view_some : (case : Gathered) (moment : Moment) (number : ℕ) → is_some (view_of case moment number) ≡ is_some (origin_of case moment number)
view_some case moment number = mapped_some (bytes_of case number) (origin_of case moment number)

or_file : (o : Option Origin) (origin : Origin) → is_some (option_or o (Some origin)) ≡ true
or_file None origin = refl
or_file (Some x) origin = refl

or_none : (o : Option Origin) → is_some (option_or o None) ≡ is_some o
or_none None = refl
or_none (Some x) = refl

viewed_by : (locked : Bool) (o : Option Origin) → is_some (cond (not locked) o None) ≡ (not locked && is_some o)
viewed_by true o = refl
viewed_by false o = refl

viewed_case : (lock size number : ℕ) (o : Option Origin) → 1 ≤ number → number ≤ size → is_some (cond (can_be_viewed lock size number) o None) ≡ (not (number == lock) && is_some o)
viewed_case lock size number o first within = rw (lt-ltb 0 number first, le-leb number size within) (viewed_by (number == lock) o)

file_there : (case : Gathered) (number : ℕ) → number ≤ page_count case → file_page case number ≡ Some origins.Database
file_there case number whole = rw (le-leb number (page_count case) whole) refl

file_past : (case : Gathered) (number : ℕ) → page_count case < number → file_page case number ≡ None
file_past case number past = rw (lt-leb number (page_count case) past) refl

and_true : (b : Bool) → (b && true) ≡ b
and_true true = refl
and_true false = refl

-- a page of the file has one unless it is the lock-byte page
file_view : (case : Gathered) (moment : Moment) (number : ℕ) → 1 ≤ number → number ≤ page_count case → number ≤ size_at case moment
    → is_some (view_of case moment number) ≡ not (number == lock_in case)
unfolding origin_of
file_view case moment number first whole within =
    view_some case moment number
    ∙ viewed_case (lock_in case) (size_at case moment) number (option_or (image_at case moment number) (file_page case number)) first within
    ∙ ap (λ o. not (number == lock_in case) && is_some (option_or (image_at case moment number) o)) (file_there case number whole)
    ∙ ap (λ b. not (number == lock_in case) && b) (or_file (image_at case moment number) origins.Database)
    ∙ and_true (not (number == lock_in case))

-- a page past it has one where it has an image and isn't the lock-byte page
past_view : (case : Gathered) (moment : Moment) (number : ℕ) → page_count case < number → number ≤ size_at case moment
    → is_some (view_of case moment number) ≡ (not (number == lock_in case) && is_some (image_at case moment number))
unfolding origin_of
past_view case moment number past within =
    view_some case moment number
    ∙ viewed_case (lock_in case) (size_at case moment) number (option_or (image_at case moment number) (file_page case number)) (omega arith) within
    ∙ ap (λ o. not (number == lock_in case) && is_some (option_or (image_at case moment number) o)) (file_past case number past)
    ∙ ap (λ b. not (number == lock_in case) && b) (or_none (image_at case moment number))

-- ---- the lists

not_past : (lock count number : ℕ) (o : Option ℕ) → number ≤ count → cond (is_past lock count number) o None ≡ None
not_past lock count number o within = rw (le-ltb count number within) refl

past_by : (locked : Bool) (bound number : ℕ) (o : Option ℕ) → (not locked && is_below bound o) ≡ passes (below bound) number (cond (not locked) o None)
past_by true bound number o = refl
past_by false bound number o = sym (passes_below bound number o)

past_passes : (lock count bound number : ℕ) (o : Option ℕ) → count < number → (not (number == lock) && is_below bound o) ≡ passes (below bound) number (cond (is_past lock count number) o None)
past_passes lock count bound number o past = rw (lt-ltb count number past) (past_by (number == lock) bound number o)

pub held_is : (case : Gathered) (moment : Moment) (past : List FirstImage) → limit_at case moment ≤ length case.wal.slots → Rises 1 past
    → ((number : ℕ) → first_in past number ≡ past_only case (first_at case moment) number)
    → held_pages (size_at case moment) (view_of case moment)
    ≡ file_pages (lock_in case) (min (size_at case moment) (page_count case)) ++ taken (below (bound_at case moment)) (size_at case moment) past
unfolding held_pages
held_is case moment past within rises listed =
    held_split (λ number. is_some (view_of case moment number)) (lock_in case) (page_count case) (size_at case moment) (below (bound_at case moment)) past rises
    (λ k first whole in_size. file_view case moment k first whole in_size)
    (λ k whole. listed k ∙ not_past (lock_in case) (page_count case) k (first_at case moment k) whole)
    (λ k behind in_size.
    past_view case moment k behind in_size
    ∙ ap (λ b. not (k == lock_in case) && b) (image_there case moment k within)
    ∙ past_passes (lock_in case) (page_count case) (bound_at case moment) k (first_at case moment k) behind
    ∙ ap (passes (below (bound_at case moment)) k) (sym (listed k)))

-- ---- for the code

-- what the code has at hand: a moment, the pages past the file, and the numbers that it asks them by
pub record AreParts (case : Gathered) (moment : Moment) (past : List FirstImage) (bound size : ℕ) : Type 0 where
  pub within : limit_at case moment ≤ length case.wal.slots
  pub rise : Rises 1 past
  pub are : (number : ℕ) → first_in past number ≡ past_only case (first_at case moment) number
  pub bound_is : bound ≡ bound_at case moment
  pub size_is : size ≡ size_at case moment

pub held_parts : (case : Gathered) (moment : Moment) (past : List FirstImage) (bound size : ℕ) → AreParts case moment past bound size
    → held_pages (size_at case moment) (view_of case moment) ≡ file_pages_at case moment ++ taken (below bound) size past
held_parts case moment past bound size parts =
    held_is case moment past parts.within parts.rise parts.are
    ∙ ap (λ n. file_pages_at case moment ++ taken (below n) (size_at case moment) past) (sym parts.bound_is)
    ∙ ap (λ n. file_pages_at case moment ++ taken (below bound) n past) (sym parts.size_is)

pub held_count : (case : Gathered) (moment : Moment) (past : List FirstImage) (bound size file count : ℕ) → AreParts case moment past bound size
    → file ≡ length (file_pages_at case moment) → count ≡ length (taken (below bound) size past) → file + count ≡ length (held_pages (size_at case moment) (view_of case moment))
held_count case moment past bound size file count parts file_is count_is =
    let whole = ap length (held_parts case moment past bound size parts) in
    let long = length-append (file_pages_at case moment) (taken (below bound) size past) in
    omega (arith, whole, long, file_is, count_is)

pub held_front : (case : Gathered) (moment : Moment) (past : List FirstImage) (bound size i page : ℕ) → AreParts case moment past bound size
    → i < length (file_pages_at case moment) → page ≡ slice_index (file_pages_at case moment) i → page ≡ slice_index (held_pages (size_at case moment) (view_of case moment)) i
held_front case moment past bound size i page parts inside page_is =
    page_is
    ∙ sym (get_or_append_left (file_pages_at case moment) (taken (below bound) size past) 0 i inside)
    ∙ ap (λ l. get_or l i 0) (sym (held_parts case moment past bound size parts))

pub held_back : (case : Gathered) (moment : Moment) (past : List FirstImage) (bound size file i page : ℕ) → AreParts case moment past bound size
    → file ≡ length (file_pages_at case moment) → file ≤ i → page ≡ slice_index (taken (below bound) size past) (i - file)
    → page ≡ slice_index (held_pages (size_at case moment) (view_of case moment)) i
held_back case moment past bound size file i page parts file_is past_file page_is =
    let split : length (file_pages_at case moment) + (i - file) ≡ i = omega (arith, file_is) in
    page_is
    ∙ sym (get_or-append-add (file_pages_at case moment) (taken (below bound) size past) (i - file) 0)
    ∙ ap (λ n. get_or (file_pages_at case moment ++ taken (below bound) size past) n 0) split
    ∙ ap (λ l. get_or l i 0) (sym (held_parts case moment past bound size parts))

find_one : (test : ℕ → Bool) (x : ℕ) (xs ys : List ℕ) (b : Bool) → test x ≡ b → find test (xs ++ ys) ≡ option_or (find test xs) (find test ys)
    → find test (x ∷ (xs ++ ys)) ≡ option_or (find test (x ∷ xs)) (find test ys)
find_one test x xs ys true is rest = rw is refl
find_one test x xs ys false is rest = rw is rest

find_append : (test : ℕ → Bool) (xs ys : List ℕ) → find test (xs ++ ys) ≡ option_or (find test xs) (find test ys)
find_append test [] ys = refl
find_append test (x ∷ xs) ys = find_one test x xs ys (test x) refl (find_append test xs ys)

pub held_next : (case : Gathered) (moment : Moment) (past : List FirstImage) (bound size after : ℕ) → AreParts case moment past bound size
    → held_after (size_at case moment) (view_of case moment) after
    ≡ option_or (find (nat_lt after) (file_pages_at case moment)) (find (nat_lt after) (taken (below bound) size past))
unfolding held_after
held_next case moment past bound size after parts =
    ap (find (nat_lt after)) (held_parts case moment past bound size parts) ∙ find_append (nat_lt after) (file_pages_at case moment) (taken (below bound) size past)

-- ---- outside the size

not_viewed : (lock size number : ℕ) (o : Option Origin) → can_be_viewed lock size number ≡ false → (cond (can_be_viewed lock size number) o None) ≡ None
not_viewed lock size number o out = rw out refl

outside : (a b : Bool) → ((a && false) && b) ≡ false
outside true b = refl
outside false b = refl

past_size : (lock size number : ℕ) → size < number → can_be_viewed lock size number ≡ false
past_size lock size number past = rw (lt-leb number size past) (outside (nat_lt 0 number) (not (number == lock)))

pub view_past : (case : Gathered) (moment : Moment) (number : ℕ) → size_at case moment < number → view_of case moment number ≡ None
unfolding origin_of
view_past case moment number past =
    ap (option_map (bytes_of case number)) (not_viewed (lock_in case) (size_at case moment) number (option_or (image_at case moment number) (file_page case number))
    (past_size (lock_in case) (size_at case moment) number past))

pub view_zero : (case : Gathered) (moment : Moment) → view_of case moment 0 ≡ None
unfolding origin_of
view_zero case moment = refl
