-- One image after the other is noted.
use Rattle.std.proofs.Common.{◌≡◌, ℕ, ◌+◌, Bool, true, false, cond, not, ◌&&◌, ◌||◌, ◌==◌, List, Option, Some, None, slice_index, is_some, refl, sym, ap, ◌∙◌, arith}
use Rattle.std.proofs.Math.ListN.{get_or-map}
use Rattle.std.proofs.lemmas.Bool.{and_left, and_right, eqb-true}
use Rattle.std.proofs.lemmas.Bool.Decides.{nat_tests}
use Rattle.sx_chain.specs.Newest.{has_number}
use Rattle.sx_wal.specs.declared.slot.Slot.{Slot as LogSlot}
use Rattle.sx_moment.specs.Gathered.{Gathered, slot_at, no_slot}
use Rattle.sx_base.specs.Places.{first_place}
use Rattle.sx_moment.specs.Views.{slot_pages, bytes_of}
use Rattle.std.specs.Str.{bytes_eq}
use Rattle.sx_moment.specs.Marks.{is_committed, is_same}
use Rattle.sx_moment.specs.declared.origin.Origin.TheVariants.{Database, Slot}
use Rattle.sx_moment.specs.Gathering.{noted}
use Rattle.sx_moment.specs.Images.{is_in_file, is_marked}
use Rattle.sx_base.proofs.Places.{or_first, first_place-more, some_place, some_place-more}

-- the page number of a slot
pub page_of_slot : (case : Gathered) (i : ℕ) → slice_index (slot_pages case) i ≡ (slot_at case i).page
page_of_slot case i = get_or-map (λ (slot : LogSlot). slot.page) case.wal.slots i no_slot

noted_is : (counts : Bool) (page i : ℕ) (o : Option ℕ) (number : ℕ) → noted counts page i o number ≡ or_first o (cond (counts && (page == number)) (Some i) None)
noted_is counts page i (Some x) number = refl
noted_is counts page i None number = refl

-- the first places after one image more
pub note_step : (test : ℕ → Bool) (counts : Bool) (page i number : ℕ) → test i ≡ (counts && (page == number))
    → noted counts page i (first_place test i) number ≡ first_place test (i + 1)
note_step test counts page i number is =
    noted_is counts page i (first_place test i) number
    ∙ ap (λ b. or_first (first_place test i) (cond b (Some i) None)) (sym is)
    ∙ sym (first_place-more test i)

-- ---- marks

middle : (a b c : Bool) → b ≡ false → (a && b && c) ≡ false
middle true b c is = rw is refl
middle false b c is = refl

-- a slot of another page isn't the same
same_apart : (case : Gathered) (number i : ℕ) → ((slot_at case i).page == number) ≡ false → is_same case number i ≡ false
unfolding is_same
same_apart case number i differs = middle _ _ _ (ap (λ page. page == number) (page_of_slot case i) ∙ differs)

-- a slot notes its page alone
marked_apart : (case : Gathered) (lock count i number : ℕ) (old : Option ℕ) → ((slot_at case i).page == number) ≡ false
    → is_some old ≡ (is_some old || (is_in_file lock count number && is_same case number i))
marked_apart case lock count i number (Some x) differs = refl
marked_apart case lock count i number None differs = sym (and_right (is_in_file lock count number) (is_same case number i) (same_apart case number i differs))

unlisted_case : (case : Gathered) (lock count i number : ℕ) (old : Option ℕ) (b : Bool) → ((slot_at case i).page == number) ≡ b → is_in_file lock count (slot_at case i).page ≡ false
    → is_some old ≡ (is_some old || (is_in_file lock count number && is_same case number i))
unlisted_case case lock count i number old false is out = marked_apart case lock count i number old is
unlisted_case case lock count i number (Some x) true is out = refl
unlisted_case case lock count i number None true is out =
    let here : (slot_at case i).page ≡ number = eqb-true _ _ is in
    sym (and_left (is_in_file lock count number) (is_same case number i) (ap (is_in_file lock count) (sym here) ∙ out))

-- a slot of a page that isn't in the file marks nothing
pub marked_out : (case : Gathered) (lock count i number : ℕ) (old : Option ℕ) → is_in_file lock count (slot_at case i).page ≡ false
    → is_some old ≡ (is_some old || (is_in_file lock count number && is_same case number i))
marked_out case lock count i number old out = unlisted_case case lock count i number old ((slot_at case i).page == number) refl out

known_case : (case : Gathered) (lock count i number : ℕ) (old : ℕ → Option ℕ) (b : Bool) → ((slot_at case i).page == number) ≡ b → is_some (old (slot_at case i).page) ≡ true
    → is_some (old number) ≡ (is_some (old number) || (is_in_file lock count number && is_same case number i))
known_case case lock count i number old false is known = marked_apart case lock count i number (old number) is
known_case case lock count i number old true is known =
    let here : (slot_at case i).page ≡ number = eqb-true _ _ is in
    let there : is_some (old number) ≡ true = ap (λ n. is_some (old n)) (sym here) ∙ known in
    there ∙ ap (λ b. b || (is_in_file lock count number && is_same case number i)) (sym there)

-- nor does one of a page that is marked already
pub marked_known : (case : Gathered) (lock count i number : ℕ) (old : ℕ → Option ℕ) → is_some (old (slot_at case i).page) ≡ true
    → is_some (old number) ≡ (is_some (old number) || (is_in_file lock count number && is_same case number i))
marked_known case lock count i number old known = known_case case lock count i number old ((slot_at case i).page == number) refl known

unnoted : (counts same : Bool) (i : ℕ) → same ≡ false → is_some (or_first None (cond (counts && same) (Some i) None)) ≡ false
unnoted true same i is = rw is refl
unnoted false same i is = refl

noted_here : (counts same : Bool) (i : ℕ) → same ≡ true → is_some (or_first None (cond (counts && same) (Some i) None)) ≡ counts
noted_here true same i is = rw is refl
noted_here false same i is = refl

noted_case : (case : Gathered) (lock count i number : ℕ) (old : Option ℕ) (b : Bool) → ((slot_at case i).page == number) ≡ b → is_in_file lock count (slot_at case i).page ≡ true
    → is_some (noted (is_same case (slot_at case i).page i) (slot_at case i).page i old number) ≡ (is_some old || (is_in_file lock count number && is_same case number i))
noted_case case lock count i number (Some x) b is within = refl
noted_case case lock count i number None false is within =
    ap is_some (noted_is (is_same case (slot_at case i).page i) (slot_at case i).page i None number)
    ∙ unnoted (is_same case (slot_at case i).page i) ((slot_at case i).page == number) i is
    ∙ sym (and_right (is_in_file lock count number) (is_same case number i) (same_apart case number i is))
noted_case case lock count i number None true is within =
    let here : (slot_at case i).page ≡ number = eqb-true _ _ is in
    ap is_some (noted_is (is_same case (slot_at case i).page i) (slot_at case i).page i None number)
    ∙ noted_here (is_same case (slot_at case i).page i) ((slot_at case i).page == number) i is
    ∙ ap (λ n. is_same case n i) here
    ∙ ap (λ b. b && is_same case number i) (sym (ap (is_in_file lock count) (sym here) ∙ within))

-- one that is the same as the page of the file marks it
pub marked_more : (case : Gathered) (lock count i number : ℕ) (old : Option ℕ) → is_in_file lock count (slot_at case i).page ≡ true
    → is_some (noted (is_same case (slot_at case i).page i) (slot_at case i).page i old number) ≡ (is_some old || (is_in_file lock count number && is_same case number i))
marked_more case lock count i number old within = noted_case case lock count i number old ((slot_at case i).page == number) refl within

self_same : (n : ℕ) → (n == n) ≡ true
self_same n = grind (arith, nat_tests)

-- a Committed slot is the same where its bytes are
pub same_here : (case : Gathered) (i : ℕ) (slot_bytes file_bytes : List ℕ) (r : Bool) → is_committed (slot_at case i).class ≡ true
    → slot_bytes ≡ bytes_of case (slot_at case i).page (Slot i) → file_bytes ≡ bytes_of case (slot_at case i).page Database → r ≡ bytes_eq slot_bytes file_bytes
    → r ≡ is_same case (slot_at case i).page i
unfolding is_same
same_here case i slot_bytes file_bytes r committed slot_is file_is compared =
    let held : has_number (slot_pages case) (slot_at case i).page i ≡ true = ap (λ page. page == (slot_at case i).page) (page_of_slot case i) ∙ self_same (slot_at case i).page in
    compared ∙ ap (λ x. bytes_eq x file_bytes) slot_is ∙ ap (bytes_eq (bytes_of case (slot_at case i).page (Slot i))) file_is ∙ sym (rw (committed, held) refl)

pub same_uncommitted : (case : Gathered) (i : ℕ) → is_committed (slot_at case i).class ≡ false → is_same case (slot_at case i).page i ≡ false
unfolding is_same
same_uncommitted case i other = rw other refl

and_or : (a b c : Bool) → ((a && b) || (a && c)) ≡ (a && (b || c))
and_or true b c = refl
and_or false b c = refl

-- one slot more
pub any_step : (test : ℕ → Bool) (i : ℕ) (file : Bool) → ((file && some_place test i) || (file && test i)) ≡ (file && some_place test (i + 1))
any_step test i file = and_or file (some_place test i) (test i) ∙ ap (λ b. file && b) (sym (some_place-more test i))

numbered_case : (case : Gathered) (number : ℕ) (o : Option ℕ) (b : Bool) → (number == 0) ≡ b → is_some o ≡ is_marked case number
    → is_some (cond (not (number == 0)) o None) ≡ is_marked case number
numbered_case case number o false is marked = rw is marked
numbered_case case number o true is marked =
    let none : number ≡ 0 = eqb-true _ _ is in
    rw is (sym (ap (is_marked case) none))

-- no page is numbered 0, so nothing is lost without it
pub marked_numbered : (case : Gathered) (number : ℕ) (o : Option ℕ) → is_some o ≡ is_marked case number
    → is_some (cond (not (number == 0)) o None) ≡ is_marked case number
marked_numbered case number o marked = numbered_case case number o (number == 0) refl marked
