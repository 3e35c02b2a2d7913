-- From one moment to the next: what is known when all ranks match, and which match still.
use Rattle.std.proofs.Common.{◌≡◌, ℕ, ℤ, zero, suc, ◌+◌, ◌-◌, ◌<◌, ◌==◌, Bool, true, false, IsTrue, is_some, List, length, map, slice_index, slice_index_or, Option, Some, None, refl, sym, ap, subst, ◌∙◌, arith}
use Rattle.std.specs.List.{Contains, All}
use Rattle.std.specs.List.Sorted.{IsStrictlyIncreasing}
use Rattle.std.specs.Option.{option_map}
use Rattle.std.proofs.lemmas.Grind.{get_or_default_zero}
use Rattle.sx_base.specs.Maps.{lock_page_of}
use Rattle.sx_base.specs.declared.evidence.Place.{Place}
use Rattle.sx_base.specs.declared.layout.Layout.{Layout}
use Rattle.sx_base.specs.declared.moment.Moment.{Moment}
use Rattle.sx_closure.specs.Graph.{Rises}
use Rattle.sx_closure.specs.Tallying.{Table, count_at, one_at, left_at}
use Rattle.sx_images.specs.declared.image.Image.{Image}
use Rattle.sx_images.specs.Images.{Table as ImageTable}
use Rattle.sx_moment.specs.Gathered.{Gathered, size_at, is_moment}
use Rattle.sx_moment.specs.Views.{origin_of, place_of, bytes_of, bytes_from, source_of, view_of}
use Rattle.sx_moment.specs.Turns.{is_among}
use Rattle.sx_moment.specs.Sweep.{Swept, HoldViewed, AreChanged, moment_at}
use Rattle.sx_moment.proofs.Numbered.{among_contains, among_at}
use Rattle.sx_owned.specs.Owned.{Owned, owned_at, block_at}
use Rattle.sx_prov.specs.Keys.{key_of, keyed_labels, standing_by}
use Rattle.sx_prov.specs.declared.key.PageKey.{PageKey}
use Rattle.sx_refs.specs.Covering.{Covers}
use Rattle.sx_walk.specs.Walks.{Walk, StandBut, SaySame, SayOther, StandsAt}
use Rattle.sx_refs.specs.Pages.{graph_of}
use Rattle.sx_walk.proofs.Views.{map_at}
use Rattle.sx_sums.specs.Entries.{entry_at}
use Rattle.sx_sums.specs.declared.entry.Entry.{Entry}
use Rattle.sx_sums.specs.declared.entry.Labelled.{Labelled}
use Rattle.sx_sweep.specs.Growth.{Grows}
use Rattle.sx_sweep.specs.Owning.{is_viewed}
use Rattle.sx_sweep.specs.Told.{owning_in, told_owns, told_begins}
use Rattle.sx_sweep.specs.Passing.{key_begins, IsTold, AreTold, Matches, AreMatched, pages_own, pages_begin, Adds, Gone, MatchBut, IsReached, GoesOver}
use Rattle.sx_sweep.proofs.AddLemmas.{and_first, and_second, any_found, grows_all}
use Rattle.sx_sweep.proofs.ViewLemmas.{source_stands, owns_view, begins_view, owns_source, begins_source}

-- ---- ranks

-- a number that is among them has a rank
pub rank_of : (numbers : List ℕ) (page : ℕ) → is_among numbers page ≡ true → (rank : ℕ) × (rank < length numbers) × (slice_index numbers rank ≡ page)
rank_of numbers page is =
    let there = among_contains numbers page is in
    (there.0, there.1, sym (get_or_default_zero numbers there.0 page there.1) ∙ there.2)

pub contains_among : (numbers : List ℕ) (page : ℕ) → Contains numbers page → is_among numbers page ≡ true
contains_among numbers page there =
    subst (λ number. is_among numbers number ≡ true) (sym (get_or_default_zero numbers there.0 page there.1) ∙ there.2) (among_at numbers there.0 there.1)

-- ---- what matches is known

-- what is known of the page with this view
abbrev KnownAt : Gathered → List Image → Owned → Place → PageKey → Type 0
KnownAt case images owned place key =
    ((image at : ℕ) → is_viewed images (Some place) image ≡ true → owning_in (keyed_labels key (bytes_from case place)) at ≡ true → owned_at owned image at ≡ true)
    × ((image at : ℕ) → is_viewed images (Some place) image ≡ true → key_begins key (bytes_from case place) at ≡ true → block_at owned image at ≡ true)

told_known : (case : Gathered) (images : List Image) (owned : Owned) (labelled : Labelled) (place : Place) (key : PageKey) → labelled.place ≡ place → labelled.key ≡ key → IsTold case images owned labelled
    → KnownAt case images owned place key
told_known case images owned labelled place key same_place same_key told =
    let here : KnownAt case images owned labelled.place labelled.key = (told.owns, told.begins) in
    subst (λ p. KnownAt case images owned p key) same_place (subst (λ k. KnownAt case images owned labelled.place k) same_key here)

-- each page with a view has a rank, and its view lies where it begins
pub record HasRanks (case : Gathered) (moment : Moment) (numbers : List ℕ) : Type 0 where
  pub held : (number : ℕ) → is_some (view_of case moment number) ≡ true → is_among numbers number ≡ true
  pub lie : (number : ℕ) (place : Place) → source_of case moment number ≡ Some place → view_of case moment number ≡ Some (bytes_from case place)

view_known : (case : Gathered) (moment : Moment) (numbers : List ℕ) (table : Table) (usable : ℕ) (images : List Image) (owned : Owned) (entries : List Entry) (page : ℕ) (place : Place)
    → HasRanks case moment numbers → AreMatched case moment table usable numbers entries → AreTold case images owned entries → source_of case moment page ≡ Some place
    → KnownAt case images owned place (key_of table usable page)
view_known case moment numbers table usable images owned entries page place has matched told from =
    let view = has.lie page place from in
    let some : is_some (view_of case moment page) ≡ true = ap is_some view in
    let ranked = rank_of numbers page (has.held page some) in
    let rank = ranked.0 in
    let here : Matches (Some place) (key_of table usable page) (entry_at entries rank) =
    subst (λ s. Matches s (key_of table usable page) (entry_at entries rank)) from
    (subst (λ number. Matches (source_of case moment number) (key_of table usable number) (entry_at entries rank)) ranked.2 (matched rank ranked.1)) in
    told_known case images owned here.labelled place (key_of table usable page) here.same_place here.same_key (told rank here.labelled here.last)

owns_known : (case : Gathered) (moment : Moment) (numbers : List ℕ) (table : Table) (layout : Layout) (images : List Image) (owned : Owned) (entries : List Entry) (image at page : ℕ)
    → layout.page_size ≡ case.header.page_size → HasRanks case moment numbers → AreMatched case moment table layout.usable numbers entries → AreTold case images owned entries
    → told_owns table layout (view_of case moment) (source_of case moment) images image at page ≡ true → owned_at owned image at ≡ true
owns_known case moment numbers table layout images owned entries image at page size has matched told is =
    let source = owns_source table layout (view_of case moment) (source_of case moment) images image at page is in
    let place = source.0 in
    let stands = source_stands case moment page place source.1 in
    let other : (page == lock_page_of layout.page_size) ≡ false = ap (λ s. page == lock_page_of s) size ∙ stands.2 in
    let key = key_of table layout.usable page in
    let both = sym (owns_view table layout (view_of case moment) (source_of case moment) images image at page place (bytes_from case place) source.1 other (has.lie page place source.1)) ∙ is in
    let known = view_known case moment numbers table layout.usable images owned entries page place has matched told source.1 in
    known.0 image at (and_first (is_viewed images (Some place) image) (owning_in (keyed_labels key (bytes_from case place)) at) both)
    (and_second (is_viewed images (Some place) image) (owning_in (keyed_labels key (bytes_from case place)) at) both)

begins_known : (case : Gathered) (moment : Moment) (numbers : List ℕ) (table : Table) (layout : Layout) (images : List Image) (owned : Owned) (entries : List Entry) (image at page : ℕ)
    → HasRanks case moment numbers → AreMatched case moment table layout.usable numbers entries → AreTold case images owned entries
    → told_begins table layout (view_of case moment) (source_of case moment) images image at page ≡ true → block_at owned image at ≡ true
begins_known case moment numbers table layout images owned entries image at page has matched told is =
    let source = begins_source table layout (view_of case moment) (source_of case moment) images image at page is in
    let place = source.0 in
    let key = key_of table layout.usable page in
    let both = sym (begins_view table layout (view_of case moment) (source_of case moment) images image at page place (bytes_from case place) source.1 (has.lie page place source.1)) ∙ is in
    let known = view_known case moment numbers table layout.usable images owned entries page place has matched told source.1 in
    known.1 image at (and_first (is_viewed images (Some place) image) (key_begins key (bytes_from case place) at) both)
    (and_second (is_viewed images (Some place) image) (key_begins key (bytes_from case place) at) both)

-- where all ranks match, all that the pages of the moment own was added
pub moment_grows : (case : Gathered) (moment : Moment) (numbers : List ℕ) (table : Table) (layout : Layout) (images : List Image) (old new : Owned) (entries : List Entry)
    → layout.page_size ≡ case.header.page_size → HasRanks case moment numbers → AreMatched case moment table layout.usable numbers entries → AreTold case images new entries
    → Adds old new (pages_own case moment table layout images) (pages_begin case moment table layout images)
    → Grows old new (pages_own case moment table layout images) (pages_begin case moment table layout images)
moment_grows case moment numbers table layout images old new entries size has matched told adds =
    grows_all old new (pages_own case moment table layout images) (pages_begin case moment table layout images) adds
    (λ image at is.
    let found = any_found (told_owns table layout (view_of case moment) (source_of case moment) images image at) (size_at case moment) is in
    owns_known case moment numbers table layout images new entries image at found.0 size has matched told found.1)
    (λ image at is.
    let found = any_found (told_begins table layout (view_of case moment) (source_of case moment) images image at) (size_at case moment) is in
    begins_known case moment numbers table layout images new entries image at found.0 has matched told found.1)

-- ---- which match still

same_key : (before now : Table) (usable page : ℕ) → SaySame before now page → key_of before usable page ≡ key_of now usable page
unfolding key_of
same_key before now usable page same =
    let standing : standing_by usable page (count_at before page) (left_at before page) (one_at before page) ≡ standing_by usable page (count_at now page) (left_at now page) (one_at now page) =
    ap (λ n. standing_by usable page n (left_at before page) (one_at before page)) (sym same.count)
    ∙ ap (λ l. standing_by usable page (count_at now page) l (one_at before page)) (sym same.left)
    ∙ ap (standing_by usable page (count_at now page) (left_at now page)) (sym same.one) in
    ap (λ s. record { usable = usable; standing = s }) standing

-- a page that comes from where it came, and of which the table says the same
pub matches_still : (case : Gathered) (before now : Moment) (table next : Table) (usable page : ℕ) (entry : Entry) → origin_of case now page ≡ origin_of case before page → SaySame table next page
    → Matches (source_of case before page) (key_of table usable page) entry → Matches (source_of case now page) (key_of next usable page) entry
matches_still case before now table next usable page entry origin same matches =
    subst (λ s. Matches s (key_of next usable page) entry) (ap (option_map (place_of case page)) (sym origin))
    (subst (λ key. Matches (source_of case before page) key entry) (same_key table next usable page same) matches)

-- ---- what the walk wants

pub covered : (case : Gathered) (moment : Moment) (numbers : List ℕ) → HoldViewed case numbers → IsTrue (is_moment case moment) → Covers numbers (view_of case moment)
covered case moment numbers held is number some = among_contains numbers number (held moment is number some)

not_changed : (changed : List ℕ) (rank : ℕ) (b : Bool) → is_among changed rank ≡ b → (Contains changed rank → ⊥) → is_among changed rank ≡ false
not_changed changed rank true is never = absurd (never (among_contains changed rank is))
not_changed changed rank false is never = is

pub stands : (swept : Swept) (walk : Walk) → AreChanged swept → walk.numbers ≡ swept.numbers
    → walk.views ≡ map (view_of swept.case (moment_at swept.case (swept.settled - 1))) swept.numbers
    → StandBut swept.changed walk (view_of swept.case swept.moment)
stands swept walk changed numbers views rank below never =
    let inside : rank < length swept.numbers = let long = ap length numbers in omega arith in
    let kept = changed.kept rank inside (not_changed swept.changed rank (is_among swept.changed rank) refl never) in
    let number = slice_index swept.numbers rank in
    ap (λ list. slice_index_or list rank None) views
    ∙ map_at (view_of swept.case (moment_at swept.case (swept.settled - 1))) swept.numbers rank inside
    ∙ ap (option_map (bytes_of swept.case number)) (sym kept.1)
    ∙ ap (λ list. view_of swept.case swept.moment (slice_index list rank)) (sym numbers)

here_again : (xs : List ℕ) (k d : ℕ) → k < length xs → slice_index_or xs k (slice_index_or xs k d) ≡ slice_index_or xs k d
here_again xs k d below = get_or_default_zero xs k (slice_index_or xs k d) below ∙ sym (get_or_default_zero xs k d below)

pub all_ranks : (swept : Swept) → AreChanged swept → All (λ rank. rank < length swept.numbers) swept.changed
all_ranks swept changed k d below =
    changed.ranks (slice_index_or swept.changed k d) (contains_among swept.changed (slice_index_or swept.changed k d) (k, below, here_again swept.changed k d below))

rise_by : (xs : List ℕ) (n i : ℕ) → IsStrictlyIncreasing xs → i + suc n < length xs → slice_index xs i < slice_index xs (i + suc n)
rise_by xs zero i rising below = rising i (omega arith)
rise_by xs (suc n) i rising below =
    let lower = rise_by xs n i rising (omega arith) in
    let next = rising (i + suc n) (omega arith) in
    let at : i + suc n + 1 ≡ i + suc (suc n) = omega arith in
    let last : slice_index xs (i + suc n + 1) ≡ slice_index xs (i + suc (suc n)) = ap (slice_index xs) at in
    omega (arith, lower, next, last)

pub rises : (numbers : List ℕ) → IsStrictlyIncreasing numbers → Rises numbers
rises numbers rising i j before below =
    let at : i + suc (j - i - 1) ≡ j = omega arith in
    let less = rise_by numbers (j - i - 1) i rising (omega arith) in
    let last : slice_index numbers (i + suc (j - i - 1)) ≡ slice_index numbers j = ap (slice_index numbers) at in
    omega (arith, less, last)

-- ---- a moment that was gone over

pub goes_over : (case : Gathered) (moment : Moment) (numbers : List ℕ) (table : Table) (layout : Layout) (roots : List ℤ) (images : ImageTable) (owned now : Owned) (after : List Entry) (walk : Walk)
    → walk.numbers ≡ numbers → StandsAt (view_of case moment) (graph_of (size_at case moment) (view_of case moment) layout roots) (layout.usable - 4) walk → table ≡ walk.table
    → Gone case moment numbers table layout images owned now after → GoesOver case moment numbers layout roots images owned now after walk
goes_over case moment numbers table layout roots images owned now after walk numbers_are stands table_is gone =
    let here : Gone case moment numbers walk.table layout images owned now after = subst (λ t. Gone case moment numbers t layout images owned now after) table_is gone in
    record {
      reached = record {
        numbers_are = numbers_are;
        views_are = stands.views ∙ ap (map (view_of case moment)) numbers_are;
        matched = here.matched;
      };
      table_is = stands.table;
      known = here.known;
      adds = here.adds;
    }

still_case : (swept : Swept) (old new : Walk) (usable : ℕ) (entries : List Entry) (touched : List ℕ) → AreChanged swept
    → AreMatched swept.case (moment_at swept.case (swept.settled - 1)) old.table usable swept.numbers entries → new.numbers ≡ swept.numbers
    → SayOther new.numbers old.table new.table (Some touched) → MatchBut swept new.table usable entries (Some touched)
still_case swept old new usable entries touched changed matched numbers say rank below unchanged untouched =
    let inside : rank < length new.numbers = let long = ap length numbers in omega arith in
    let same : SaySame old.table new.table (slice_index swept.numbers rank) =
    subst (λ list. SaySame old.table new.table (slice_index list rank)) numbers
    (say rank inside (λ there. let never : true ≡ false = sym (contains_among touched rank there) ∙ untouched in cc)) in
    matches_still swept.case (moment_at swept.case (swept.settled - 1)) swept.moment old.table new.table usable (slice_index swept.numbers rank) (entry_at entries rank)
    (changed.kept rank below unchanged).1 same (matched rank below)

still_all : (swept : Swept) (old new : Walk) (usable : ℕ) (entries : List Entry) (touched : Option (List ℕ)) → AreChanged swept
    → AreMatched swept.case (moment_at swept.case (swept.settled - 1)) old.table usable swept.numbers entries → new.numbers ≡ swept.numbers
    → SayOther new.numbers old.table new.table touched → MatchBut swept new.table usable entries touched
still_all swept old new usable entries None changed matched numbers say = tt
still_all swept old new usable entries (Some touched) changed matched numbers say = still_case swept old new usable entries touched changed matched numbers say

-- the ranks that neither changed nor are touched match still
pub still_but : (swept : Swept) (old new : Walk) (before usable : ℕ) (entries : List Entry) (table : Table) (touched : Option (List ℕ)) → AreChanged swept
    → IsReached swept.case (moment_at swept.case (swept.settled - 1)) swept.numbers old before entries → new.numbers ≡ swept.numbers
    → SayOther new.numbers old.table new.table new.touched → before ≡ usable → table ≡ new.table → touched ≡ new.touched → MatchBut swept table usable entries touched
still_but swept old new before usable entries table touched changed reached numbers say same table_is touched_are =
    let matched : AreMatched swept.case (moment_at swept.case (swept.settled - 1)) old.table usable swept.numbers entries =
    subst (λ u. AreMatched swept.case (moment_at swept.case (swept.settled - 1)) old.table u swept.numbers entries) same reached.matched in
    subst (λ t. MatchBut swept t usable entries touched) (sym table_is)
    (subst (MatchBut swept new.table usable entries) (sym touched_are) (still_all swept old new usable entries new.touched changed matched numbers say))
