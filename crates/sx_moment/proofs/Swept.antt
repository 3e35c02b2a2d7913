-- What a sweep keeps from moment to moment, and what its answers follow from.
use Rattle.std.specs.Prelude.{slice_get}
use Rattle.std.proofs.Common.{◌≡◌, ◌≢◌, ℕ, zero, suc, ◌+◌, ◌-◌, ◌<◌, ◌≤◌, Bool, true, false, cond, ◌&&◌, ◌||◌, ◌⊎◌, ◌==◌, nat_lt, nat_le, IsTrue, IfSome, All, List, [], ◌∷◌, ◌++◌, Option, Some, None, is_some, length, map, replicate, slice_index, slice_index_or, refl, sym, ap, subst, ◌∙◌, arith, inl, inr}
use Rattle.std.specs.Option.{option_map, option_or}
use Rattle.std.specs.List.{range_with_len}
use Rattle.std.proofs.lemmas.Bool.{ltb-true, ltb-false, leb-true, leb-false, cases_lt, lt-ltb, lt-leb, le-leb}
use Rattle.std.proofs.lemmas.Bool.Decides.{nat_tests}
use Rattle.std.proofs.lemmas.List.{get_or_past, get_or_append_left, get_or-replicate, length-replicate, get_or_default}
use Rattle.std.proofs.lemmas.List.FromFn.{length-map-range_with_len, get_or-map-range_with_len}
use Rattle.std.proofs.lemmas.Option.{get_or_from_slice_get, slice_get_within}
use Rattle.std.proofs.Math.Seq.{get_or-append_seam}
use Rattle.sx_base.specs.declared.moment.Moment.{Moment}
use Rattle.sx_base.specs.declared.moment.Moment.TheVariants.{Journal, File, Commit}
use Rattle.sx_base.proofs.Places.{is_below}
use Rattle.sx_moment.specs.Gathered.{Gathered, page_count, size_at, limit_at, is_moment, moments_of, is_live_state}
use Rattle.sx_moment.specs.Views.{lock_in, can_be_viewed, image_at, file_page, origin_of, view_of, bytes_of}
use Rattle.sx_moment.specs.Images.{Stands, is_in_file, is_past, first_slot, first_record, first_at, bound_at}
use Rattle.sx_moment.specs.Reading.{IsGathered}
use Rattle.sx_moment.specs.Turns.{is_among, moment_before}
use Rattle.sx_moment.specs.Ranks.{is_ranked, AreRanked}
use Rattle.sx_moment.specs.Changes.{AreListed}
use Rattle.sx_moment.specs.Sweep.{moment_at, Turned, AreChanged}
use Rattle.sx_moment.specs.Turning.{base_of, AreOrigins, one_before, ArePassed}
use Rattle.sx_moment.specs.Upkeep.{IsTurn, IsSwept}
use Rattle.sx_moment.specs.declared.origin.Origin.{Origin}
use Rattle.sx_moment.specs.declared.origin.Origin.TheVariants.{Database}
use Rattle.sx_moment.proofs.HeldAt.{image_there}
use Rattle.sx_moment.proofs.Moments.{image_stands, limit_within}
use Rattle.sx_moment.proofs.Numbered.{zero_unranked, among_at, ranked_origin}

-- ---- images

-- the images of one rank more
pub origins_more : (image : ℕ → Option Origin) (numbers : List ℕ) (origins now : List (Option Origin)) (rank : ℕ) (one : Option Origin) → length origins ≡ rank
    → ((other : ℕ) → other < rank → slice_index_or origins other None ≡ image (slice_index numbers other)) → one ≡ image (slice_index numbers rank) → now ≡ origins ++ one ∷ []
    → (other : ℕ) → other < rank + 1 → slice_index_or now other None ≡ image (slice_index numbers other)
origins_more image numbers origins now rank one long each is pushed other under =
    elim (cases_lt other rank) [
      | inl before ↦
          ap (λ (l : List (Option Origin)). slice_index_or l other None) pushed ∙ get_or_append_left origins (one ∷ []) None other (omega (arith, before, long)) ∙ each other before
      | inr from ↦
          let this : other ≡ length origins = omega (arith, under, from, long) in
          let here : rank ≡ other = omega (arith, under, from) in
          ap (λ (l : List (Option Origin)). slice_index_or l other None) pushed
          ∙ ap (λ n. slice_index_or (origins ++ one ∷ []) n None) this
          ∙ get_or-append_seam origins one [] None
          ∙ is
          ∙ ap (λ n. image (slice_index numbers n)) here
    ]

pub ranked_positive : (case : Gathered) (number : ℕ) → is_ranked case number ≡ true → 1 ≤ number
ranked_positive case zero ranked = absurd (let never : false ≡ true = sym (zero_unranked case) ∙ ranked in cc)
ranked_positive case (suc n) ranked = omega arith

stands_case : (case : Gathered) (number : ℕ) (image : Option Origin) (whole : Bool) → nat_le number (page_count case) ≡ whole → 1 ≤ number → IfSome image (Stands case number)
    → IfSome (option_or image (cond whole (Some Database) None)) (Stands case number)
stands_case case number (Some origin) whole is first stands = stands
stands_case case number None true is first stands = (first, leb-true number (page_count case) is)
stands_case case number None false is first stands = tt

-- an image lies in its file
pub base_stands : (case : Gathered) (moment : Moment) (number : ℕ) → IsGathered case → IsTrue (is_moment case moment) → is_ranked case number ≡ true
    → IfSome (base_of case moment number) (Stands case number)
base_stands case moment number gathered listed ranked =
    stands_case case number (image_at case moment number) (nat_le number (page_count case)) refl (ranked_positive case number ranked)
    (image_stands case moment number (limit_within case moment gathered listed))

-- ---- pages without a rank

nothing_some : {A : Type 0} (o : Option A) → is_some o ≡ false → o ≡ None
nothing_some None is = refl
nothing_some (Some x) is = absurd (let never : true ≡ false = is in cc)

or_parts : (a b c : Bool) → (a || b || c) ≡ false → (a ≡ false) × (b ≡ false) × (c ≡ false)
or_parts true b c is = absurd (let never : true ≡ false = is in cc)
or_parts false true c is = absurd (let never : true ≡ false = is in cc)
or_parts false false c is = (refl, refl, is)

and_nothing : (b : Bool) → (b && false) ≡ false
and_nothing true = refl
and_nothing false = refl

either_none : (b : Bool) → (let none : Option Origin = None in cond b none None) ≡ None
either_none true = refl
either_none false = refl

past_case : (o : Option ℕ) (past : Bool) → past ≡ true → is_some (cond past o None) ≡ false → o ≡ None
past_case o past is none = nothing_some o (rw is at none)

first_none : (case : Gathered) (moment : Moment) (number : ℕ) → first_slot case number ≡ None → first_record case number ≡ None → first_at case moment number ≡ None
first_none case Journal number slots records = records
first_none case File number slots records = slots
first_none case (Commit k) number slots records = slots

unranked_case : (case : Gathered) (moment : Moment) (number : ℕ) (first whole locked : Bool) → nat_lt 0 number ≡ first → nat_le number (page_count case) ≡ whole → (number == lock_in case) ≡ locked
    → limit_at case moment ≤ length case.wal.slots → is_ranked case number ≡ false
    → cond (can_be_viewed (lock_in case) (size_at case moment) number) (base_of case moment number) None ≡ None
unranked_case case moment number false whole locked low is here within none = rw low refl
unranked_case case moment number true whole true low is here within none =
    let out : (nat_lt 0 number && nat_le number (size_at case moment) && false) ≡ false = and_nothing (nat_lt 0 number && nat_le number (size_at case moment)) in
    rw here (ap (λ b. cond b (base_of case moment number) None) out)
unranked_case case moment number true true false low is here within none =
    let parts = or_parts _ _ _ none in
    let file : is_in_file (lock_in case) (page_count case) number ≡ true = rw (low, is, here) refl in
    absurd (let never : true ≡ false = sym file ∙ parts.0 in cc)
unranked_case case moment number true false false low is here within none =
    let parts = or_parts _ _ _ none in
    let above : page_count case < number = leb-false number (page_count case) is in
    let behind : nat_lt (page_count case) number ≡ true = lt-ltb (page_count case) number above in
    let past : is_past (lock_in case) (page_count case) number ≡ true = rw (behind, here) refl in
    let slots = past_case (first_slot case number) (is_past (lock_in case) (page_count case) number) past parts.1 in
    let records = past_case (first_record case number) (is_past (lock_in case) (page_count case) number) past parts.2 in
    let image : image_at case moment number ≡ None =
    nothing_some (image_at case moment number)
    (image_there case moment number within ∙ ap (is_below (bound_at case moment)) (first_none case moment number slots records)) in
    let base : base_of case moment number ≡ None =
    ap (λ (o : Option Origin). option_or o (file_page case number)) image ∙ ap (λ b. cond b (Some Database) None) is in
    ap (λ (o : Option Origin). cond (can_be_viewed (lock_in case) (size_at case moment) number) o None) base ∙ either_none (can_be_viewed (lock_in case) (size_at case moment) number)

-- a page without a rank has no view
pub unranked_origin : (case : Gathered) (moment : Moment) (number : ℕ) → IsGathered case → IsTrue (is_moment case moment) → is_ranked case number ≡ false → origin_of case moment number ≡ None
unfolding origin_of
unranked_origin case moment number gathered listed none =
    unranked_case case moment number (nat_lt 0 number) (nat_le number (page_count case)) (number == lock_in case) refl refl refl (limit_within case moment gathered listed) none

viewed_case : (case : Gathered) (moment : Moment) (number : ℕ) (ranked : Bool) → is_ranked case number ≡ ranked → IsGathered case → IsTrue (is_moment case moment)
    → is_some (view_of case moment number) ≡ true → ranked ≡ true
viewed_case case moment number true is gathered listed viewed = refl
viewed_case case moment number false is gathered listed viewed =
    let none = unranked_origin case moment number gathered listed is in
    let never : false ≡ true = ap (λ (o : Option Origin). is_some (option_map (bytes_of case number) o)) (sym none) ∙ viewed in
    absurd (cc)

-- each page that has a view at some moment has a rank
pub viewed_ranked : (case : Gathered) (numbers : List ℕ) (moment : Moment) (number : ℕ) → AreRanked case numbers → IsGathered case → IsTrue (is_moment case moment)
    → is_some (view_of case moment number) ≡ true → is_among numbers number ≡ true
viewed_ranked case numbers moment number ranked gathered listed viewed =
    ranked.are number ∙ viewed_case case moment number (is_ranked case number) refl gathered listed viewed

-- ---- the changed ranks

pub moment_is : (case : Gathered) (place : ℕ) (moment : Moment) → slice_get (moments_of case) place ≡ Some moment → moment_at case place ≡ moment
moment_is case place moment there = get_or_from_slice_get (moments_of case) place moment File there

turned_case : (case : Gathered) (settled place number turn : ℕ) → IsTurn case number place turn → settled < turn → Turned case settled place number
turned_case case settled place number turn is later =
    elim is.turned [
      | inl start ↦ inl (omega (arith, start, later))
      | inr differ ↦ inr (turn - 1, omega (arith, later), omega (arith, is.within, later), differ)
    ]

pub changed_are : (case : Gathered) (place : ℕ) (moment : Moment) (numbers : List ℕ) (origins : List (Option Origin)) (settled : ℕ) (turns changed : List ℕ)
    → IsSwept case place moment numbers origins settled turns → AreListed settled turns changed
    → AreChanged (record { case = case; place = place; moment = moment; numbers = numbers; settled = settled; changed = changed })
changed_are case place moment numbers origins settled turns changed swept listed =
    let late : (rank : ℕ) → is_among changed rank ≡ true → settled < slice_index turns rank = λ rank among. ltb-true settled (slice_index turns rank) (sym (listed.are rank) ∙ among) in
    let inside : (rank : ℕ) → is_among changed rank ≡ true → rank < length numbers = λ rank among.
    elim (cases_lt rank (length turns)) [
      | inl below ↦ omega (arith, below, swept.long)
      | inr past ↦
          let none : slice_index turns rank ≡ 0 = get_or_past turns rank 0 past in
          let more = late rank among in
          absurd (omega (arith, none, more))
    ] in
    record {
      once = listed.once;
      ranks = inside;
      turned = λ rank among. turned_case case settled place (slice_index numbers rank) (slice_index turns rank) (swept.turns_are rank (inside rank among)) (late rank among);
      kept = λ rank below other.
          let turn = swept.turns_are rank below in
          let early : slice_index turns rank ≤ settled = ltb-false settled (slice_index turns rank) (sym (listed.are rank) ∙ other) in
          let same = turn.kept (settled - 1) (omega (arith, early, turn.first)) (omega (arith, swept.settled_within)) in (
            omega (arith, early, turn.first),
            sym (same ∙ ap (λ (m : Moment). origin_of case m (slice_index numbers rank)) (moment_is case place moment swept.there)),
          );
    }

-- all turns are settled at the present place
pub turns_settled : (case : Gathered) (place : ℕ) (moment : Moment) (numbers : List ℕ) (origins : List (Option Origin)) (settled : ℕ) (turns : List ℕ)
    → IsSwept case place moment numbers origins settled turns → All (λ turn. turn ≤ place + 1) turns
turns_settled case place moment numbers origins settled turns swept rank d below =
    let within = (swept.turns_are rank (omega (arith, below, swept.long))).within in
    let read = get_or_default turns rank d 0 below in
    omega (arith, within, read)

pub swept_settled : (case : Gathered) (place : ℕ) (moment : Moment) (numbers : List ℕ) (origins : List (Option Origin)) (settled : ℕ) (turns now : List ℕ)
    → IsSwept case place moment numbers origins settled turns → now ≡ turns → IsSwept case place moment numbers origins (place + 1) now
swept_settled case place moment numbers origins settled turns now swept same = rw same (record {
  there = swept.there;
  ranked = swept.ranked;
  origins_are = swept.origins_are;
  long = swept.long;
  turns_are = swept.turns_are;
  settled_within = omega arith;
})

-- ---- the first moment

first_turn : (case : Gathered) (number turn : ℕ) → turn ≡ 1 → IsTurn case number 0 turn
first_turn case number turn is = record {
  first = omega (arith, is);
  within = omega (arith, is);
  turned = inl is;
  kept = λ at from upto. let here : at ≡ 0 = omega (arith, upto) in ap (λ n. origin_of case (moment_at case n) number) here;
}

pub swept_first : (case : Gathered) (moment : Moment) (numbers : List ℕ) (origins : List (Option Origin)) (settled : ℕ) (turns : List ℕ)
    → slice_get (moments_of case) 0 ≡ Some moment → AreRanked case numbers → AreOrigins (base_of case moment) numbers origins → turns ≡ replicate (length numbers) 1 → settled ≡ 0
    → IsSwept case 0 moment numbers origins settled turns
swept_first case moment numbers origins settled turns there ranked are is none =
    let long : length turns ≡ length numbers = ap length is ∙ length-replicate {A = ℕ} (length numbers) 1 in
    record {
      there = there;
      ranked = ranked;
      origins_are = are;
      long = long;
      turns_are = λ rank below. first_turn case (slice_index numbers rank) (slice_index turns rank) (ap (λ l. slice_index l rank) is ∙ get_or-replicate (length numbers) rank 1 0 below);
      settled_within = omega (arith, none);
    }

-- ---- the next moment

-- a page that comes from elsewhere turns, and any other keeps its turn
next_turn : (case : Gathered) (number place old new : ℕ) (before now : Moment) → moment_at case place ≡ before → moment_at case (place + 1) ≡ now → IsTurn case number place old
    → ((new ≡ place + 1 + 1) × (origin_of case now number ≢ origin_of case before number)) ⊎ ((new ≡ old) × (origin_of case now number ≡ origin_of case before number))
    → IsTurn case number (place + 1) new
next_turn case number place old new before now before_is now_is turn (inl (is, differ)) =
    let back : new - 1 ≡ place + 1 = omega (arith, is) in
    let two : new - 1 - 1 ≡ place = omega (arith, is) in
    record {
      first = omega (arith, is);
      within = omega (arith, is);
      turned = inr (λ same. differ (
          ap (λ (m : Moment). origin_of case m number) (sym (ap (moment_at case) back ∙ now_is))
          ∙ same
          ∙ ap (λ (m : Moment). origin_of case m number) (ap (moment_at case) two ∙ before_is)));
      kept = λ at from upto. let here : at ≡ place + 1 = omega (arith, is, from, upto) in ap (λ n. origin_of case (moment_at case n) number) here;
    }
next_turn case number place old new before now before_is now_is turn (inr (is, same)) = rw is (record {
  first = turn.first;
  within = omega (arith, turn.within);
  turned = turn.turned;
  kept = λ at from upto.
      elim (cases_lt at (place + 1)) [
        | inl before_it ↦
            turn.kept at from (omega (arith, before_it))
            ∙ ap (λ (m : Moment). origin_of case m number) before_is
            ∙ sym same
            ∙ ap (λ (m : Moment). origin_of case m number) (sym now_is)
        | inr from_it ↦ let here : at ≡ place + 1 = omega (arith, from_it, upto) in ap (λ n. origin_of case (moment_at case n) number) here
      ];
})

pub swept_next : (case : Gathered) (place : ℕ) (before now : Moment) (numbers : List ℕ) (origins later : List (Option Origin)) (settled kept : ℕ) (turns new : List ℕ)
    → IsSwept case place before numbers origins settled turns → slice_get (moments_of case) (place + 1) ≡ Some now → AreOrigins (base_of case now) numbers later
    → ArePassed case before now numbers (place + 1 + 1) turns new → kept ≡ settled
    → IsSwept case (place + 1) now numbers later kept new
swept_next case place before now numbers origins later settled kept turns new swept there are passed same = record {
  there = there;
  ranked = swept.ranked;
  origins_are = are;
  long = passed.long ∙ swept.long;
  turns_are = λ rank below.
      next_turn case (slice_index numbers rank) place (slice_index turns rank) (slice_index new rank) before now
      (moment_is case place before swept.there) (moment_is case (place + 1) now there) (swept.turns_are rank below) (passed.each rank below);
  settled_within = omega (arith, same, swept.settled_within);
}

-- ---- the page of a rank

-- within the size its view comes from its image
pub shown_within : (case : Gathered) (place : ℕ) (moment : Moment) (numbers : List ℕ) (origins : List (Option Origin)) (settled : ℕ) (turns : List ℕ) (rank : ℕ) (image : Option Origin)
    → IsSwept case place moment numbers origins settled turns → rank < length numbers → slice_index numbers rank ≤ size_at case moment → image ≡ slice_index_or origins rank None
    → image ≡ origin_of case moment (slice_index numbers rank)
shown_within case place moment numbers origins settled turns rank image swept below within is =
    let number = slice_index numbers rank in
    let ranked : is_ranked case number ≡ true = sym (swept.ranked.are number) ∙ among_at numbers rank below in
    let yes : nat_le number (size_at case moment) ≡ true = le-leb number (size_at case moment) within in
    is ∙ swept.origins_are.each rank below ∙ sym (ranked_origin case moment number ranked ∙ ap (λ b. cond b (base_of case moment number) None) yes)

-- past it it has none
pub shown_past : (case : Gathered) (place : ℕ) (moment : Moment) (numbers : List ℕ) (origins : List (Option Origin)) (settled : ℕ) (turns : List ℕ) (rank : ℕ)
    → IsSwept case place moment numbers origins settled turns → rank < length numbers → size_at case moment < slice_index numbers rank
    → None ≡ origin_of case moment (slice_index numbers rank)
shown_past case place moment numbers origins settled turns rank swept below past =
    let number = slice_index numbers rank in
    let ranked : is_ranked case number ≡ true = sym (swept.ranked.are number) ∙ among_at numbers rank below in
    let none : nat_le number (size_at case moment) ≡ false = lt-leb number (size_at case moment) past in
    sym (ranked_origin case moment number ranked ∙ ap (λ b. cond b (base_of case moment number) None) none)

pub shown_stands : (case : Gathered) (place : ℕ) (moment : Moment) (numbers : List ℕ) (origins : List (Option Origin)) (settled : ℕ) (turns : List ℕ) (rank : ℕ) (image : Option Origin)
    → IsSwept case place moment numbers origins settled turns → rank < length numbers → IsGathered case → IsTrue (is_moment case moment) → image ≡ slice_index_or origins rank None
    → IfSome image (Stands case (slice_index numbers rank))
shown_stands case place moment numbers origins settled turns rank image swept below gathered listed is =
    let number = slice_index numbers rank in
    let ranked : is_ranked case number ≡ true = sym (swept.ranked.are number) ∙ among_at numbers rank below in
    subst (λ (o : Option Origin). IfSome o (Stands case number)) (sym (is ∙ swept.origins_are.each rank below)) (base_stands case moment number gathered listed ranked)

-- a page without a rank has no view
pub unranked_view : (case : Gathered) (numbers : List ℕ) (moment : Moment) (number : ℕ) → AreRanked case numbers → IsGathered case → IsTrue (is_moment case moment) → is_among numbers number ≡ false
    → None ≡ view_of case moment number
unranked_view case numbers moment number ranked gathered listed none =
    sym (ap (option_map (bytes_of case number)) (unranked_origin case moment number gathered listed (sym (ranked.are number) ∙ none)))

-- ---- the order of the moments

commit_is : (n j : ℕ) (moment : Moment) → slice_get (map Commit (range_with_len 1 n)) j ≡ Some moment → moment ≡ Commit (1 + j)
commit_is n j moment is =
    let long = length-map-range_with_len Commit 1 n in
    let below = slice_get_within (map Commit (range_with_len 1 n)) j moment is in
    sym (get_or_from_slice_get (map Commit (range_with_len 1 n)) j moment File is) ∙ get_or-map-range_with_len Commit 1 n j (1 + j) File (omega (arith, below, long)) refl

before_later : (j : ℕ) → Commit (1 + j) ≡ moment_before (1 + suc j)
before_later j =
    let no : (1 + suc j == 1) ≡ false = grind (arith, nat_tests) in
    let at : 1 + suc j - 1 ≡ 1 + j = omega arith in
    rw (no, at) refl

commits_follow : (n j : ℕ) (before now : Moment) → slice_get (File ∷ map Commit (range_with_len 1 n)) j ≡ Some before → slice_get (map Commit (range_with_len 1 n)) j ≡ Some now
    → before ≡ one_before now
commits_follow n zero before now first second =
    let file : before ≡ File = cc in
    file ∙ ap one_before (sym (commit_is n 0 now second))
commits_follow n (suc j) before now first second =
    commit_is n j before first ∙ before_later j ∙ ap one_before (sym (commit_is n (suc j) now second))

follow_case : (n i : ℕ) (live : Bool) (before now : Moment) → slice_get (cond live (Journal ∷ []) [] ++ File ∷ map Commit (range_with_len 1 n)) i ≡ Some before
    → slice_get (cond live (Journal ∷ []) [] ++ File ∷ map Commit (range_with_len 1 n)) (suc i) ≡ Some now → before ≡ one_before now
follow_case n zero true before now first second =
    let journal : before ≡ Journal = cc in
    let file : now ≡ File = cc in
    journal ∙ ap one_before (sym file)
follow_case n (suc j) true before now first second = commits_follow n j before now first second
follow_case n i false before now first second = commits_follow n i before now first second

-- of two moments that stand next to one another the first is the one before the second
pub moments_follow : (case : Gathered) (i : ℕ) (before now : Moment) → slice_get (moments_of case) i ≡ Some before → slice_get (moments_of case) (i + 1) ≡ Some now → before ≡ one_before now
moments_follow case i before now first second =
    let one : i + 1 ≡ suc i = omega arith in
    follow_case (length case.wal.commits) i (is_live_state case.journal.state) before now first (ap (slice_get (moments_of case)) (sym one) ∙ second)
