-- From one moment to the next: the marks of ranks, the images that come, and that exactly the pages that turn are marked.
use Rattle.std.proofs.Common.{◌≡◌, ◌≢◌, ℕ, ◌+◌, ◌-◌, ◌<◌, ◌≤◌, Bool, true, false, cond, not, ◌&&◌, ◌||◌, ◌⊎◌, ◌==◌, nat_lt, nat_le, IsTrue, List, [], ◌∷◌, Option, Some, None, is_some, min, length, slice_index, slice_index_or, slice_set, refl, sym, ap, subst, ◌∙◌, arith, inl, inr, length-set}
use Rattle.std.specs.List.{range_with_len, list_any}
use Rattle.std.specs.List.Sorted.{IsStrictlyIncreasing}
use Rattle.std.specs.Option.{option_map, option_or}
use Rattle.std.proofs.lemmas.Bool.{eqb-true, ltb-true, leb-true, cases_lt, lt-ltb, le-ltb, le-leb, and_parts}
use Rattle.std.proofs.lemmas.Bool.Decides.{nat_tests}
use Rattle.std.proofs.lemmas.List.{get_or-set_same, get_or-set_other}
use Rattle.std.proofs.lemmas.List.Folds.{list_any-append}
use Rattle.sx_base.specs.declared.moment.Moment.{Moment}
use Rattle.sx_base.specs.declared.moment.Moment.TheVariants.{Journal, File, Commit}
use Rattle.sx_base.specs.Places.{last_place}
use Rattle.sx_base.proofs.Places.{last_place-more, last_place-zero, last_place_passes, any_from, is_from, last_kept}
use Rattle.sx_base.proofs.Ranges.{range_append}
use Rattle.sx_chain.specs.Newest.{has_number}
use Rattle.sx_moment.specs.Gathered.{Gathered, slot_at, page_count, size_at, limit_at, is_moment}
use Rattle.sx_moment.specs.Views.{slot_pages, file_page, origin_of}
use Rattle.sx_moment.specs.Images.{first_record}
use Rattle.sx_moment.specs.Reading.{IsGathered}
use Rattle.sx_moment.specs.Turns.{is_among, moment_before}
use Rattle.sx_moment.specs.Ranks.{is_ranked, AreRanked}
use Rattle.sx_moment.specs.Changes.{AreMarked}
use Rattle.sx_moment.specs.Turning.{AreOrigins, base_of, slot_base, slots_hold, is_record, is_turned, one_before, is_held, is_within, ArePassed}
use Rattle.sx_moment.specs.declared.origin.Origin.{Origin}
use Rattle.sx_moment.specs.declared.origin.Origin.TheVariants.{Slot, Record, Database}
use Rattle.sx_moment.proofs.Noted.{page_of_slot}
use Rattle.sx_moment.proofs.Numbered.{rank_only, among_at, ranked_origin}
use Rattle.sx_moment.proofs.Turned.{limits_rise}

-- ---- marks

-- where no rank passes nothing is marked
pub marked_none : (test : ℕ → Bool) (turn : ℕ) (turns : List ℕ) → ((rank : ℕ) → rank < length turns → test rank ≡ false) → AreMarked test turn turns turns
marked_none test turn turns none = record {
  long = refl;
  each = λ rank below. ap (λ b. cond b turn (slice_index turns rank)) (sym (none rank below));
}

-- tests that agree mark the same
pub marked_same : (test other : ℕ → Bool) (turn : ℕ) (before now : List ℕ) → ((rank : ℕ) → rank < length before → test rank ≡ other rank) → AreMarked test turn before now
    → AreMarked other turn before now
marked_same test other turn before now same marked = record {
  long = marked.long;
  each = λ rank below. marked.each rank below ∙ ap (λ b. cond b turn (slice_index before rank)) (same rank below);
}

twice : (a b : Bool) (turn x : ℕ) → cond b turn (cond a turn x) ≡ cond (a || b) turn x
twice true true turn x = refl
twice true false turn x = refl
twice false b turn x = refl

-- one mark after another
pub marked_both : (test other : ℕ → Bool) (turn : ℕ) (before now later : List ℕ) → AreMarked test turn before now → AreMarked other turn now later
    → AreMarked (λ rank. test rank || other rank) turn before later
marked_both test other turn before now later first second = record {
  long = second.long ∙ first.long;
  each = λ rank below.
      second.each rank (omega (arith, below, first.long))
      ∙ ap (λ n. cond (other rank) turn n) (first.each rank below)
      ∙ twice (test rank) (other rank) turn (slice_index before rank);
}

and_nothing : (b : Bool) → (b && false) ≡ false
and_nothing true = refl
and_nothing false = refl

or_nothing : (b : Bool) → (b || false) ≡ b
or_nothing true = refl
or_nothing false = refl

-- ---- ranks from one on and below another

held_case : (held : Bool) (from rank other : ℕ) (origins : List (Option Origin)) (same : Bool) → (other == rank) ≡ same → from ≤ rank → held ≡ is_some (slice_index_or origins rank None)
    → (is_held origins from rank other || (same && held)) ≡ is_held origins from (rank + 1) other
held_case held from rank other origins true is low here =
    let this : other ≡ rank = eqb-true _ _ is in
    let at : is_some (slice_index_or origins other None) ≡ held = ap (λ n. is_some (slice_index_or origins n None)) this ∙ sym here in
    let before : nat_lt other rank ≡ false = grind (arith, nat_tests) in
    let later : nat_lt other (rank + 1) ≡ true = grind (arith, nat_tests) in
    let first : nat_le from other ≡ true = grind (arith, nat_tests) in
    rw (at, before, later, first) refl
held_case held from rank other origins false is low here =
    let same : nat_lt other rank ≡ nat_lt other (rank + 1) = grind (arith, nat_tests) in
    rw same (or_nothing (is_held origins from (rank + 1) other))

pub held_more : (held : Bool) (from rank turn : ℕ) (origins : List (Option Origin)) (before now later : List ℕ) → from ≤ rank → held ≡ is_some (slice_index_or origins rank None)
    → AreMarked (is_held origins from rank) turn before now → AreMarked (λ other. (other == rank) && held) turn now later
    → AreMarked (is_held origins from (rank + 1)) turn before later
held_more held from rank turn origins before now later low here first second =
    marked_same (λ other. is_held origins from rank other || ((other == rank) && held)) (is_held origins from (rank + 1)) turn before later
    (λ other below. held_case held from rank other origins (other == rank) refl low here)
    (marked_both (is_held origins from rank) (λ other. (other == rank) && held) turn before now later first second)

pub held_none : (from turn : ℕ) (origins : List (Option Origin)) (turns : List ℕ) → AreMarked (is_held origins from from) turn turns turns
held_none from turn origins turns =
    marked_none (is_held origins from from) turn turns
    (λ rank below. let never : (nat_le from rank && nat_lt rank from) ≡ false = grind (arith, nat_tests) in rw never refl)

-- ---- a slot

under : (b : Bool) (i : ℕ) (o : Option ℕ) (file : Option Origin) → option_or (option_map Slot (cond b (Some i) o)) file ≡ cond b (Some (Slot i)) (option_or (option_map Slot o) file)
under true i o file = refl
under false i o file = refl

-- the image of a page once one slot more is seen
pub slot_more : (case : Gathered) (i number : ℕ) → slot_base case (i + 1) number ≡ cond ((slot_at case i).page == number) (Some (Slot i)) (slot_base case i number)
slot_more case i number =
    ap (λ (o : Option ℕ). option_or (option_map Slot o) (file_page case number)) (last_place-more (has_number (slot_pages case) number) i)
    ∙ ap (λ n. option_or (option_map Slot (cond (n == number) (Some i) (last_place (has_number (slot_pages case) number) i))) (file_page case number)) (page_of_slot case i)
    ∙ under ((slot_at case i).page == number) i (last_place (has_number (slot_pages case) number) i) (file_page case number)

slot_at_rank : (case : Gathered) (i page number : ℕ) (b : Bool) → page ≡ (slot_at case i).page → (page == number) ≡ b → slot_base case (i + 1) number ≡ cond b (Some (Slot i)) (slot_base case i number)
slot_at_rank case i page number b page_is is =
    slot_more case i number ∙ ap (λ c. cond c (Some (Slot i)) (slot_base case i number)) (ap (λ n. n == number) (sym page_is) ∙ is)

other_number : (numbers : List ℕ) (page rank : ℕ) (b : Bool) → (page == slice_index numbers rank) ≡ b → is_among numbers page ≡ false → rank < length numbers → b ≡ false
other_number numbers page rank true is none below =
    let here : page ≡ slice_index numbers rank = eqb-true _ _ is in
    let never : true ≡ false = sym (among_at numbers rank below) ∙ ap (is_among numbers) (sym here) ∙ none in
    absurd (cc)
other_number numbers page rank false is none below = refl

-- a slot of a page without a rank
pub slot_elsewhere : (case : Gathered) (i page : ℕ) (numbers : List ℕ) (origins : List (Option Origin)) → page ≡ (slot_at case i).page → is_among numbers page ≡ false
    → AreOrigins (slot_base case i) numbers origins → AreOrigins (slot_base case (i + 1)) numbers origins
slot_elsewhere case i page numbers origins page_is none are = record {
  long = are.long;
  each = λ rank below.
      are.each rank below
      ∙ sym (slot_at_rank case i page (slice_index numbers rank) false page_is (other_number numbers page rank (page == slice_index numbers rank) refl none below));
}

put_case : (case : Gathered) (i page rank other : ℕ) (numbers : List ℕ) (origins : List (Option Origin)) (same : Bool) → (other == rank) ≡ same → page ≡ (slot_at case i).page
    → IsStrictlyIncreasing numbers → rank < length numbers → slice_index numbers rank ≡ page → other < length numbers
    → AreOrigins (slot_base case i) numbers origins
    → slice_index_or (slice_set origins rank (Some (Slot i))) other None ≡ slot_base case (i + 1) (slice_index numbers other)
put_case case i page rank other numbers origins true is page_is rising within here below are =
    let this : other ≡ rank = eqb-true _ _ is in
    let number : slice_index numbers other ≡ page = ap (slice_index numbers) this ∙ here in
    let yes : (page == slice_index numbers other) ≡ true = grind (arith, nat_tests) in
    ap (λ n. slice_index_or (slice_set origins rank (Some (Slot i))) n None) this
    ∙ get_or-set_same origins rank (Some (Slot i)) None (omega (arith, are.long, within))
    ∙ sym (slot_at_rank case i page (slice_index numbers other) true page_is yes)
put_case case i page rank other numbers origins false is page_is rising within here below are =
    let apart : other ≢ rank = λ same. grind (arith, nat_tests) in
    let differ : page ≢ slice_index numbers other = λ same. apart (sym (rank_only numbers rank other rising within below (here ∙ same))) in
    let no : (page == slice_index numbers other) ≡ false = grind (arith, nat_tests) in
    get_or-set_other origins rank other (Some (Slot i)) None apart
    ∙ are.each other below
    ∙ sym (slot_at_rank case i page (slice_index numbers other) false page_is no)

-- a slot of a page with a rank
pub slot_put : (case : Gathered) (i page rank : ℕ) (numbers : List ℕ) (origins now : List (Option Origin)) → page ≡ (slot_at case i).page
    → IsStrictlyIncreasing numbers → rank < length numbers → slice_index numbers rank ≡ page → AreOrigins (slot_base case i) numbers origins
    → now ≡ slice_set origins rank (Some (Slot i)) → AreOrigins (slot_base case (i + 1)) numbers now
slot_put case i page rank numbers origins now page_is rising within here are set = rw set (record {
  long = length-set origins rank (Some (Slot i)) ∙ are.long;
  each = λ other below. put_case case i page rank other numbers origins (other == rank) refl page_is rising within here below are;
})

-- the test of its mark
tested_case : (numbers : List ℕ) (page rank within other : ℕ) (same : Bool) → (other == rank) ≡ same → IsStrictlyIncreasing numbers → rank < length numbers → slice_index numbers rank ≡ page
    → other < length numbers → (same && nat_le page within) ≡ is_within (λ number. page == number) within numbers other
tested_case numbers page rank within other true is rising below here inside =
    let this : other ≡ rank = eqb-true _ _ is in
    let number : slice_index numbers other ≡ page = ap (slice_index numbers) this ∙ here in
    let yes : (page == page) ≡ true = grind (arith, nat_tests) in
    rw (number, yes) refl
tested_case numbers page rank within other false is rising below here inside =
    let apart : other ≢ rank = λ same. grind (arith, nat_tests) in
    let differ : page ≢ slice_index numbers other = λ same. apart (sym (rank_only numbers rank other rising below inside (here ∙ same))) in
    let no : (page == slice_index numbers other) ≡ false = grind (arith, nat_tests) in
    rw no refl

pub slot_marked : (numbers : List ℕ) (page rank within turn : ℕ) (before now : List ℕ) → IsStrictlyIncreasing numbers → rank < length numbers → slice_index numbers rank ≡ page
    → length before ≡ length numbers → AreMarked (λ other. (other == rank) && nat_le page within) turn before now
    → AreMarked (is_within (λ number. page == number) within numbers) turn before now
slot_marked numbers page rank within turn before now rising below here long marked =
    marked_same (λ other. (other == rank) && nat_le page within) (is_within (λ number. page == number) within numbers) turn before now
    (λ other inside. tested_case numbers page rank within other (other == rank) refl rising below here (omega (arith, inside, long))) marked

pub slot_unmarked : (numbers : List ℕ) (page within turn : ℕ) (turns : List ℕ) → is_among numbers page ≡ false → length turns ≡ length numbers
    → AreMarked (is_within (λ number. page == number) within numbers) turn turns turns
slot_unmarked numbers page within turn turns none long =
    marked_none (is_within (λ number. page == number) within numbers) turn turns
    (λ rank below. let no = other_number numbers page rank (page == slice_index numbers rank) refl none (omega (arith, below, long)) in rw no refl)

-- ---- the slots of a commit

-- one slot more
slots_more : (case : Gathered) (from i number : ℕ) → from ≤ i → slots_hold case from (i + 1) number ≡ (slots_hold case from i number || ((slot_at case i).page == number))
slots_more case from i number order =
    let test = has_number (slot_pages case) number in
    let more : i + 1 - from ≡ i - from + 1 = omega (arith, order) in
    let last : from + (i - from) ≡ i = omega (arith, order) in
    ap (λ n. list_any test (range_with_len from n)) more
    ∙ ap (list_any test) (range_append from (i - from) 1)
    ∙ list_any-append test (range_with_len from (i - from)) ((from + (i - from)) ∷ [])
    ∙ ap (λ n. list_any test (range_with_len from (i - from)) || (test n || false)) last
    ∙ ap (λ b. list_any test (range_with_len from (i - from)) || b) (or_nothing (test i))
    ∙ ap (λ n. list_any test (range_with_len from (i - from)) || (n == number)) (page_of_slot case i)

either_within : (a b w : Bool) → ((a && w) || (b && w)) ≡ ((a || b) && w)
either_within true true true = refl
either_within true true false = refl
either_within true false true = refl
either_within true false false = refl
either_within false b w = refl

pub slots_marked : (case : Gathered) (from i within turn : ℕ) (numbers before now later : List ℕ) → from ≤ i
    → AreMarked (is_within (slots_hold case from i) within numbers) turn before now
    → AreMarked (is_within (λ number. (slot_at case i).page == number) within numbers) turn now later
    → AreMarked (is_within (slots_hold case from (i + 1)) within numbers) turn before later
slots_marked case from i within turn numbers before now later order first second =
    let one = is_within (slots_hold case from i) within numbers in
    let two = is_within (λ number. (slot_at case i).page == number) within numbers in
    marked_same (λ rank. one rank || two rank) (is_within (slots_hold case from (i + 1)) within numbers) turn before later
    (λ rank below.
    either_within (slots_hold case from i (slice_index numbers rank)) ((slot_at case i).page == slice_index numbers rank) (nat_le (slice_index numbers rank) within)
    ∙ ap (λ b. b && nat_le (slice_index numbers rank) within) (sym (slots_more case from i (slice_index numbers rank) order)))
    (marked_both one two turn before now later first second)

pub slots_none : (case : Gathered) (from within turn : ℕ) (numbers turns : List ℕ) → AreMarked (is_within (slots_hold case from from) within numbers) turn turns turns
slots_none case from within turn numbers turns =
    let none : from - from ≡ 0 = omega arith in
    marked_none (is_within (slots_hold case from from) within numbers) turn turns
    (λ rank below. ap (λ n. list_any (has_number (slot_pages case) (slice_index numbers rank)) (range_with_len from n) && nat_le (slice_index numbers rank) within) none)

-- ---- from the journal's moment to the file's

-- the images while the page of the file is put in place of each record, from the first rank on
pub record AreFiled (case : Gathered) (numbers : List ℕ) (origins : List (Option Origin)) (rank : ℕ) : Type 0 where
  pub long : length origins ≡ length numbers
  pub done : (other : ℕ) → other < rank → other < length numbers → slice_index_or origins other None ≡ base_of case File (slice_index numbers other)
  pub left : (other : ℕ) → rank ≤ other → other < length numbers → slice_index_or origins other None ≡ base_of case Journal (slice_index numbers other)

pub filed_start : (case : Gathered) (numbers : List ℕ) (origins : List (Option Origin)) → AreOrigins (base_of case Journal) numbers origins → AreFiled case numbers origins 0
filed_start case numbers origins are = record {
  long = are.long;
  done = λ other under below. absurd (omega (arith, under));
  left = λ other from below. are.each other below;
}

pub filed_more : (case : Gathered) (numbers : List ℕ) (origins now : List (Option Origin)) (rank : ℕ) → AreFiled case numbers origins rank → length now ≡ length numbers
    → slice_index_or now rank None ≡ base_of case File (slice_index numbers rank)
    → ((other : ℕ) → other ≢ rank → slice_index_or now other None ≡ slice_index_or origins other None)
    → AreFiled case numbers now (rank + 1)
filed_more case numbers origins now rank filed long here others = record {
  long = long;
  done = λ other under below.
      elim (cases_lt other rank) [
        | inl before ↦ others other (λ same. absurd (omega (arith, before, same))) ∙ filed.done other before below
        | inr from ↦
            let this : other ≡ rank = omega (arith, under, from) in
            ap (λ n. slice_index_or now n None) this ∙ here ∙ ap (λ n. base_of case File (slice_index numbers n)) (sym this)
      ];
  left = λ other from below.
      others other (λ same. absurd (omega (arith, from, same))) ∙ filed.left other (omega (arith, from)) below;
}

pub filed_all : (case : Gathered) (numbers : List ℕ) (origins : List (Option Origin)) (rank : ℕ) → AreFiled case numbers origins rank → length numbers ≤ rank
    → AreOrigins (base_of case File) numbers origins
filed_all case numbers origins rank filed all = record {
  long = filed.long;
  each = λ other below. filed.done other (omega (arith, below, all)) below;
}

-- an image that is no record is the page of the file
unrecorded : (o : Option ℕ) (file : Option Origin) → is_record (option_or (option_map Record o) file) ≡ false → option_or (option_map Record o) file ≡ file
unrecorded None file none = refl
unrecorded (Some i) file none = absurd (let never : true ≡ false = none in cc)

pub no_record : (case : Gathered) (number : ℕ) → is_record (base_of case Journal number) ≡ false → base_of case Journal number ≡ base_of case File number
no_record case number none = unrecorded (first_record case number) (file_page case number) none

next_case : (test : ℕ → Bool) (rank other : ℕ) (same : Bool) → (other == rank) ≡ same → ((nat_lt other rank && test other) || (same && test rank)) ≡ (nat_lt other (rank + 1) && test other)
next_case test rank other true is =
    let this : other ≡ rank = eqb-true _ _ is in
    let before : nat_lt other rank ≡ false = grind (arith, nat_tests) in
    let later : nat_lt other (rank + 1) ≡ true = grind (arith, nat_tests) in
    rw (before, later) (ap test (sym this))
next_case test rank other false is =
    let same : nat_lt other rank ≡ nat_lt other (rank + 1) = grind (arith, nat_tests) in
    rw same (or_nothing (nat_lt other (rank + 1) && test other))

-- the marks while they are put
pub files_marked : (test : ℕ → Bool) (rank turn : ℕ) (before now later : List ℕ) → AreMarked (λ other. nat_lt other rank && test other) turn before now
    → AreMarked (λ other. (other == rank) && test rank) turn now later → AreMarked (λ other. nat_lt other (rank + 1) && test other) turn before later
files_marked test rank turn before now later first second =
    marked_same (λ other. (nat_lt other rank && test other) || ((other == rank) && test rank)) (λ other. nat_lt other (rank + 1) && test other) turn before later
    (λ other below. next_case test rank other (other == rank) refl)
    (marked_both (λ other. nat_lt other rank && test other) (λ other. (other == rank) && test rank) turn before now later first second)

pub files_none : (test : ℕ → Bool) (turn : ℕ) (turns : List ℕ) → AreMarked (λ other. nat_lt other 0 && test other) turn turns turns
files_none test turn turns =
    marked_none (λ other. nat_lt other 0 && test other) turn turns (λ other below. let no : nat_lt other 0 ≡ false = le-ltb other 0 (omega arith) in rw no refl)

pub files_all : (test : ℕ → Bool) (rank turn : ℕ) (before now : List ℕ) → length before ≤ rank → AreMarked (λ other. nat_lt other rank && test other) turn before now
    → AreMarked test turn before now
files_all test rank turn before now all marked =
    marked_same (λ other. nat_lt other rank && test other) test turn before now
    (λ other below. let yes : nat_lt other rank ≡ true = lt-ltb other rank (omega (arith, below, all)) in rw yes refl) marked

-- ---- the images of a moment

pub origins_same : (f g : ℕ → Option Origin) (numbers : List ℕ) (origins : List (Option Origin)) → ((number : ℕ) → f number ≡ g number) → AreOrigins f numbers origins → AreOrigins g numbers origins
origins_same f g numbers origins same are = record {
  long = are.long;
  each = λ rank below. are.each rank below ∙ same (slice_index numbers rank);
}

before_case : (case : Gathered) (k number : ℕ) (first : Bool) → base_of case (cond first File (Commit (k - 1))) number ≡ slot_base case (limit_at case (cond first File (Commit (k - 1)))) number
before_case case k number true =
    ap (λ (o : Option ℕ). option_or (option_map Slot o) (file_page case number)) (sym (last_place-zero (has_number (slot_pages case) number)))
before_case case k number false = refl

-- before a commit they are those of the slots up to it
pub base_before : (case : Gathered) (k from : ℕ) (numbers : List ℕ) (origins : List (Option Origin)) → from ≡ limit_at case (moment_before k) → AreOrigins (base_of case (moment_before k)) numbers origins
    → AreOrigins (slot_base case from) numbers origins
base_before case k from numbers origins from_is are =
    origins_same (base_of case (moment_before k)) (slot_base case from) numbers origins
    (λ number. before_case case k number (k == 1) ∙ ap (λ n. slot_base case n number) (sym from_is)) are

pub base_after : (case : Gathered) (k end : ℕ) (numbers : List ℕ) (origins : List (Option Origin)) → end ≡ limit_at case (Commit k) → AreOrigins (slot_base case end) numbers origins
    → AreOrigins (base_of case (Commit k)) numbers origins
base_after case k end numbers origins end_is are =
    origins_same (slot_base case end) (base_of case (Commit k)) numbers origins (λ number. ap (λ n. slot_base case n number) end_is) are

pub commit_marked : (case : Gathered) (k from end within turn : ℕ) (numbers before now : List ℕ) → from ≡ limit_at case (moment_before k) → end ≡ limit_at case (Commit k)
    → AreMarked (is_within (slots_hold case from end) within numbers) turn before now → AreMarked (is_within (is_turned case (Commit k)) within numbers) turn before now
commit_marked case k from end within turn numbers before now from_is end_is marked =
    marked_same (is_within (slots_hold case from end) within numbers) (is_within (is_turned case (Commit k)) within numbers) turn before now
    (λ rank below.
    ap (λ n. slots_hold case n end (slice_index numbers rank) && nat_le (slice_index numbers rank) within) from_is
    ∙ ap (λ n. slots_hold case (limit_at case (moment_before k)) n (slice_index numbers rank) && nat_le (slice_index numbers rank) within) end_is) marked

-- ---- the pages that turn have another image than before, and no others

-- a slot at or past a place is no image of the slots before it
slot_apart : (o : Option ℕ) (file : Option Origin) (from place : ℕ) → ((i : ℕ) → o ≡ Some i → i < from) → from ≤ place → ((i : ℕ) → file ≢ Some (Slot i))
    → Some (Slot place) ≢ option_or (option_map Slot o) file
slot_apart None file from place below order other same = other place (sym same)
slot_apart (Some i) file from place below order other same =
    let level : place ≡ i = cc in
    let less = below i refl in
    absurd (omega (arith, less, level, order))

file_case : (b : Bool) (i : ℕ) → (let o : Option Origin = cond b (Some Database) None in o) ≢ Some (Slot i)
file_case true i same = cc
file_case false i same = cc

new_case : (test : ℕ → Bool) (from n : ℕ) (o : Option ℕ) (file : Option Origin) → last_place test (from + n) ≡ o → is_from from o ≡ true → ((i : ℕ) → file ≢ Some (Slot i))
    → option_or (option_map Slot o) file ≢ option_or (option_map Slot (last_place test from)) file
new_case test from n None file is late other same = absurd (let never : false ≡ true = late in cc)
new_case test from n (Some place) file is late other same =
    slot_apart (last_place test from) file from place (λ i found. (last_place_passes test from i found).0) (leb-true from place late) other same

pub slots_tell : (case : Gathered) (from end number : ℕ) → from ≤ end → slots_hold case from end number ≡ true → slot_base case end number ≢ slot_base case from number
slots_tell case from end number order holds =
    let test = has_number (slot_pages case) number in
    let whole : from + (end - from) ≡ end = omega (arith, order) in
    let late : is_from from (last_place test (from + (end - from))) ≡ true = sym (any_from test from (end - from)) ∙ holds in
    subst (λ n. option_or (option_map Slot (last_place test n)) (file_page case number) ≢ slot_base case from number) whole
    (new_case test from (end - from) (last_place test (from + (end - from))) (file_page case number) refl late (file_case (nat_le number (page_count case))))

pub slots_keep : (case : Gathered) (from end number : ℕ) → from ≤ end → slots_hold case from end number ≡ false → slot_base case end number ≡ slot_base case from number
slots_keep case from end number order none =
    let test = has_number (slot_pages case) number in
    let whole : from + (end - from) ≡ end = omega (arith, order) in
    ap (λ (o : Option ℕ). option_or (option_map Slot o) (file_page case number)) (ap (last_place test) (sym whole) ∙ last_kept test from (end - from) none)

record_case : (o : Option ℕ) (b : Bool) → is_record (option_or (option_map Record o) (cond b (Some Database) None)) ≡ true
    → (let file : Option Origin = cond b (Some Database) None in file) ≢ option_or (option_map Record o) (cond b (Some Database) None)
record_case None true is same = let never : false ≡ true = is in cc
record_case None false is same = let never : false ≡ true = is in cc
record_case (Some i) true is same = cc
record_case (Some i) false is same = cc

-- what the test of turning tells of two images
pub record Tells (turns : Bool) (before now : Option Origin) : Type 0 where
  pub differ : turns ≡ true → now ≢ before
  pub same : turns ≡ false → now ≡ before

pub turned_tells : (case : Gathered) (now : Moment) (number : ℕ) → ((k : ℕ) → now ≡ Commit k → limit_at case (moment_before k) ≤ limit_at case (Commit k))
    → Tells (is_turned case now number) (base_of case (one_before now) number) (base_of case now number)
turned_tells case Journal number order = record {
  differ = λ is. absurd (let never : false ≡ true = is in cc);
  same = λ is. refl;
}
turned_tells case File number order = record {
  differ = λ is. record_case (first_record case number) (nat_le number (page_count case)) is;
  same = λ is. sym (no_record case number is);
}
turned_tells case (Commit k) number order =
    let before = before_case case k number (k == 1) in
    record {
      differ = λ is same. slots_tell case (limit_at case (moment_before k)) (limit_at case (Commit k)) number (order k refl) is (same ∙ before);
      same = λ is. slots_keep case (limit_at case (moment_before k)) (limit_at case (Commit k)) number (order k refl) is ∙ sym before;
    }

-- ---- with the sizes

gone_case : (o : Option Origin) → ((is_some o ≡ true) → (let none : Option Origin = None in none) ≢ o) × ((is_some o ≡ false) → None ≡ o)
gone_case None = (λ is. absurd (let never : false ≡ true = is in cc), λ is. refl)
gone_case (Some x) = (λ is same. cc, λ is. absurd (let never : true ≡ false = is in cc))

come_case : (o : Option Origin) → ((is_some o ≡ true) → o ≢ None) × ((is_some o ≡ false) → o ≡ None)
come_case None = (λ is. absurd (let never : false ≡ true = is in cc), λ is. refl)
come_case (Some x) = (λ is same. cc, λ is. absurd (let never : true ≡ false = is in cc))

sized_case : (turns low in_before in_now : Bool) (before now : Option Origin) → Tells turns before now → low ≡ (in_before && in_now)
    → Tells ((not low && in_before && is_some before) || (turns && low) || (not low && in_now && is_some now)) (cond in_before before None) (cond in_now now None)
sized_case true low true true before now tells is = rw is (record { differ = λ yes. tells.differ refl; same = λ no. absurd (let never : true ≡ false = no in cc) })
sized_case false low true true before now tells is = rw is (record { differ = λ yes. absurd (let never : false ≡ true = yes in cc); same = λ no. tells.same refl })
sized_case turns low true false before now tells is =
    let test : (is_some before || (turns && false) || false) ≡ is_some before = or_nothing (is_some before || (turns && false)) ∙ ap (λ b. is_some before || b) (and_nothing turns) ∙ or_nothing (is_some before) in
    let gone = gone_case before in
    rw is (record { differ = λ yes. gone.0 (sym test ∙ yes); same = λ no. gone.1 (sym test ∙ no) })
sized_case turns low false true before now tells is =
    let test : ((turns && false) || is_some now) ≡ is_some now = ap (λ b. b || is_some now) (and_nothing turns) in
    let come = come_case now in
    rw is (record { differ = λ yes. come.0 (sym test ∙ yes); same = λ no. come.1 (sym test ∙ no) })
sized_case turns low false false before now tells is =
    let test : ((turns && false) || false) ≡ false = or_nothing (turns && false) ∙ and_nothing turns in
    rw is (record { differ = λ yes. absurd (let never : false ≡ true = sym test ∙ yes in cc); same = λ no. refl })

pub unmarked_first : (case : Gathered) (within turn : ℕ) (numbers turns : List ℕ) → AreMarked (is_within (is_turned case Journal) within numbers) turn turns turns
unmarked_first case within turn numbers turns = marked_none (is_within (is_turned case Journal) within numbers) turn turns (λ rank below. refl)

-- ---- the whole step

both_sizes : (number size_before size : ℕ) → nat_le number (min size_before size) ≡ (nat_le number size_before && nat_le number size)
both_sizes number size_before size = grind (arith, nat_tests)

-- a bound of ranks by a smaller size comes no later
pub within_order : (numbers : List ℕ) (low size from end : ℕ) → low ≤ size → from ≤ length numbers
    → ((rank : ℕ) → rank < length numbers → nat_lt rank from ≡ nat_le (slice_index numbers rank) low)
    → ((rank : ℕ) → rank < length numbers → nat_lt rank end ≡ nat_le (slice_index numbers rank) size)
    → from ≤ end
within_order numbers low size from end order bound first second =
    elim (cases_lt end from) [
      | inl before ↦
          let inside : end < length numbers = omega (arith, before, bound) in
          let is_low : slice_index numbers end ≤ low = leb-true _ _ (sym (first end inside) ∙ lt-ltb end from before) in
          let is_high : nat_le (slice_index numbers end) size ≡ true = le-leb (slice_index numbers end) size (omega (arith, is_low, order)) in
          let less : end < end = ltb-true _ _ (second end inside ∙ is_high) in
          absurd (omega (arith, less))
      | inr upto ↦ upto
    ]

not_before : (from rank : ℕ) (b : Bool) → nat_lt rank from ≡ b → nat_le from rank ≡ not b
not_before from rank true is = grind (arith, nat_tests)
not_before from rank false is = grind (arith, nat_tests)

-- a rank between two bounds is one of a page between two sizes
held_is : (numbers : List ℕ) (origins : List (Option Origin)) (image : ℕ → Option Origin) (low size from end rank : ℕ) → AreOrigins image numbers origins → rank < length numbers
    → nat_lt rank from ≡ nat_le (slice_index numbers rank) low → nat_lt rank end ≡ nat_le (slice_index numbers rank) size
    → is_held origins from end rank ≡ (not (nat_le (slice_index numbers rank) low) && nat_le (slice_index numbers rank) size && is_some (image (slice_index numbers rank)))
held_is numbers origins image low size from end rank are below first second =
    ap (λ b. b && nat_lt rank end && is_some (slice_index_or origins rank None)) (not_before from rank (nat_le (slice_index numbers rank) low) first)
    ∙ ap (λ b. not (nat_le (slice_index numbers rank) low) && b && is_some (slice_index_or origins rank None)) second
    ∙ ap (λ (o : Option Origin). not (nat_le (slice_index numbers rank) low) && nat_le (slice_index numbers rank) size && is_some o) (are.each rank below)

passed_case : (case : Gathered) (before now : Moment) (number turn old new : ℕ) (marked : Bool) → is_ranked case number ≡ true
    → Tells marked (cond (nat_le number (size_at case before)) (base_of case before number) None) (cond (nat_le number (size_at case now)) (base_of case now number) None)
    → new ≡ cond marked turn old
    → ((new ≡ turn) × (origin_of case now number ≢ origin_of case before number)) ⊎ ((new ≡ old) × (origin_of case now number ≡ origin_of case before number))
passed_case case before now number turn old new true ranked tells is =
    inl (is, λ same. tells.differ refl (sym (ranked_origin case now number ranked) ∙ same ∙ ranked_origin case before number ranked))
passed_case case before now number turn old new false ranked tells is =
    inr (is, ranked_origin case now number ranked ∙ tells.same refl ∙ sym (ranked_origin case before number ranked))

-- what the two passes over ranks and the one over images have marked
pub record AreSteps (case : Gathered) (before now : Moment) (numbers : List ℕ) (origins later : List (Option Origin)) (from end last low turn : ℕ) (turns gone put come : List ℕ) : Type 0 where
  pub first : AreMarked (is_held origins from end) turn turns gone
  pub second : AreMarked (is_within (is_turned case now) low numbers) turn gone put
  pub third : AreMarked (is_held later from last) turn put come
  pub low_is : low ≡ min (size_at case before) (size_at case now)
  pub from_is : (rank : ℕ) → rank < length numbers → nat_lt rank from ≡ nat_le (slice_index numbers rank) low
  pub end_is : (rank : ℕ) → rank < length numbers → nat_lt rank end ≡ nat_le (slice_index numbers rank) (size_at case before)
  pub last_is : (rank : ℕ) → rank < length numbers → nat_lt rank last ≡ nat_le (slice_index numbers rank) (size_at case now)
  pub origins_are : AreOrigins (base_of case before) numbers origins
  pub later_are : AreOrigins (base_of case now) numbers later

pub all_passed : (case : Gathered) (before now : Moment) (numbers : List ℕ) (origins later : List (Option Origin)) (from end last low turn : ℕ) (turns gone put come : List ℕ)
    → AreRanked case numbers → length turns ≡ length numbers → before ≡ one_before now
    → ((k : ℕ) → now ≡ Commit k → limit_at case (moment_before k) ≤ limit_at case (Commit k))
    → AreSteps case before now numbers origins later from end last low turn turns gone put come
    → ArePassed case before now numbers turn turns come
all_passed case before now numbers origins later from end last low turn turns gone put come ranked long follows order steps =
    let one = is_held origins from end in
    let two = is_within (is_turned case now) low numbers in
    let three = is_held later from last in
    let whole = marked_both (λ rank. one rank || two rank) three turn turns put come (marked_both one two turn turns gone put steps.first steps.second) steps.third in
    record {
      long = whole.long;
      each = λ rank below.
          let number = slice_index numbers rank in
          let is : is_ranked case number ≡ true = sym (ranked.are number) ∙ among_at numbers rank below in
          let tells : Tells (is_turned case now number) (base_of case before number) (base_of case now number) =
          subst (λ (m : Moment). Tells (is_turned case now number) (base_of case m number) (base_of case now number)) (sym follows) (turned_tells case now number order) in
          let sizes : nat_le number low ≡ (nat_le number (size_at case before) && nat_le number (size_at case now)) =
          ap (nat_le number) steps.low_is ∙ both_sizes number (size_at case before) (size_at case now) in
          let sized = sized_case (is_turned case now number) (nat_le number low) (nat_le number (size_at case before)) (nat_le number (size_at case now))
          (base_of case before number) (base_of case now number) tells sizes in
          let test : (one rank || two rank || three rank)
          ≡ ((not (nat_le number low) && nat_le number (size_at case before) && is_some (base_of case before number)) || (is_turned case now number && nat_le number low)
          || (not (nat_le number low) && nat_le number (size_at case now) && is_some (base_of case now number))) =
          ap (λ b. b || two rank || three rank) (held_is numbers origins (base_of case before) low (size_at case before) from end rank steps.origins_are below (steps.from_is rank below) (steps.end_is rank below))
          ∙ ap (λ b. (not (nat_le number low) && nat_le number (size_at case before) && is_some (base_of case before number)) || two rank || b)
          (held_is numbers later (base_of case now) low (size_at case now) from last rank steps.later_are below (steps.from_is rank below) (steps.last_is rank below)) in
          passed_case case before now number turn (slice_index turns rank) (slice_index come rank) _ is sized
          (whole.each rank (omega (arith, below, long)) ∙ ap (λ b. cond b turn (slice_index turns rank)) test);
    }

-- a commit's slots follow those of the moment before it
pub step_order : (case : Gathered) (now : Moment) → IsGathered case → IsTrue (is_moment case now) → (k : ℕ) → now ≡ Commit k → limit_at case (moment_before k) ≤ limit_at case (Commit k)
step_order case now gathered listed k is =
    let here : (nat_le 1 k && nat_le k (length case.wal.commits)) ≡ true = subst (λ (m : Moment). is_moment case m ≡ true) is listed in
    let parts = and_parts (nat_le 1 k) (nat_le k (length case.wal.commits)) here in
    limits_rise case k gathered (leb-true 1 k parts.0) (leb-true k (length case.wal.commits) parts.1)
