-- Ranks that are gone over at a moment.
use Rattle.std.proofs.Common.{◌≡◌, ◌≢◌, ℕ, ◌+◌, ◌<◌, ◌≤◌, ◌==◌, Bool, true, false, ◌||◌, nat_lt, List, length, take, get_or, slice_set, slice_index, Some, None, refl, sym, ap, subst, ◌∙◌, arith}
use Rattle.std.proofs.lemmas.Bool.{eqb-true}
use Rattle.std.proofs.lemmas.List.{take_all}
use Rattle.std.proofs.lemmas.List.Folds.{list_any_more}
use Rattle.std.proofs.lemmas.Bool.Decides.{nat_tests}
use Rattle.std.proofs.lemmas.List.{length-set, get_or-set_same, get_or-set_other}
use Rattle.sx_base.specs.declared.layout.Layout.{Layout}
use Rattle.sx_base.specs.declared.moment.Moment.{Moment}
use Rattle.sx_closure.specs.Tallying.{Table}
use Rattle.sx_images.specs.declared.image.Image.{Image}
use Rattle.sx_images.specs.Images.{Table as ImageTable, images_of}
use Rattle.sx_moment.specs.Gathered.{Gathered}
use Rattle.sx_moment.specs.Sweep.{Swept}
use Rattle.sx_moment.specs.Turns.{is_among}
use Rattle.sx_moment.specs.Views.{source_of}
use Rattle.sx_owned.specs.Owned.{Owned}
use Rattle.sx_prov.specs.Keys.{key_of}
use Rattle.sx_sums.specs.Entries.{entry_at}
use Rattle.sx_sums.specs.declared.entry.Entry.{Entry}
use Rattle.sx_sums.specs.declared.entry.Labelled.{Labelled}
use Rattle.sx_sweep.specs.Passing.{IsTold, AreTold, IsKnown, Matches, MatchesAt, Adds, pages_own, pages_begin, Passes, Gone, MatchBut}
use Rattle.sx_sweep.proofs.AddLemmas.{adds_none, adds_both}

-- ---- what was told stays told

pub told_still : (case : Gathered) (images : List Image) (old new : Owned) (owns begins : ℕ → ℕ → Bool) (labelled : Labelled) → Adds old new owns begins → IsTold case images old labelled → IsTold case images new labelled
told_still case images old new owns begins labelled adds told = record {
  totals = told.totals;
  owns = λ image at viewed is. adds.owned_still image at (told.owns image at viewed is);
  begins = λ image at viewed is. adds.block_still image at (told.begins image at viewed is);
}

-- ---- one entry is put anew

entry_here : (entries after : List Entry) (rank : ℕ) (entry : Entry) → rank < length entries → after ≡ slice_set entries rank entry → entry_at after rank ≡ entry
entry_here entries after rank entry within is = ap (λ list. entry_at list rank) is ∙ get_or-set_same entries rank entry (record { last = None; shown = false }) within

entry_other : (entries after : List Entry) (rank other : ℕ) (entry : Entry) → other ≢ rank → after ≡ slice_set entries rank entry → entry_at after other ≡ entry_at entries other
entry_other entries after rank other entry apart is = ap (λ list. entry_at list other) is ∙ get_or-set_other entries rank other entry (record { last = None; shown = false }) apart

set_case : (case : Gathered) (images : List Image) (owned : Owned) (entries after : List Entry) (rank other : ℕ) (entry : Entry) (labelled : Labelled) (same : Bool) → (rank == other) ≡ same → rank < length entries → after ≡ slice_set entries rank entry
    → AreTold case images owned entries → ((labelled : Labelled) → entry.last ≡ Some labelled → IsTold case images owned labelled)
    → (entry_at after other).last ≡ Some labelled → IsTold case images owned labelled
set_case case images owned entries after rank other entry labelled true same within is told new last =
    let equal : rank ≡ other = eqb-true rank other same in
    let here : entry_at after other ≡ entry = ap (entry_at after) (sym equal) ∙ entry_here entries after rank entry within is in
    new labelled (sym (ap (λ (e : Entry). e.last) here) ∙ last)
set_case case images owned entries after rank other entry labelled false same within is told new last =
    let apart : other ≢ rank = λ equal. grind (arith, nat_tests) in
    let there = entry_other entries after rank other entry apart is in
    told other labelled (sym (ap (λ (e : Entry). e.last) there) ∙ last)

pub told_set : (case : Gathered) (images : List Image) (owned : Owned) (entries after : List Entry) (rank : ℕ) (entry : Entry) → rank < length entries → after ≡ slice_set entries rank entry
    → AreTold case images owned entries → ((labelled : Labelled) → entry.last ≡ Some labelled → IsTold case images owned labelled) → AreTold case images owned after
told_set case images owned entries after rank entry within is told new other labelled last =
    set_case case images owned entries after rank other entry labelled (rank == other) refl within is told new last

-- one rank was gone over
pub passes_one : (case : Gathered) (moment : Moment) (numbers : List ℕ) (table : Table) (layout : Layout) (images : ImageTable) (owned now : Owned) (entries after : List Entry) (rank : ℕ) (entry : Entry)
    → rank < length numbers → IsKnown case numbers images owned entries
    → Adds owned now (pages_own case moment table layout (images_of images)) (pages_begin case moment table layout (images_of images))
    → after ≡ slice_set entries rank entry → ((labelled : Labelled) → entry.last ≡ Some labelled → IsTold case (images_of images) now labelled)
    → Matches (source_of case moment (slice_index numbers rank)) (key_of table layout.usable (slice_index numbers rank)) entry
    → Passes case moment numbers table layout images owned now entries after (λ other. rank == other)
passes_one case moment numbers table layout images owned now entries after rank entry within known adds is told matches =
    let inside : rank < length entries = let long = known.long in omega arith in
    record {
      known = record {
        long = ap length is ∙ length-set entries rank entry ∙ known.long;
        size = adds.size ∙ known.size;
        count = adds.count ∙ known.count;
        told =
            told_set case (images_of images) now entries after rank entry inside is
            (λ other labelled last.
            told_still case (images_of images) owned now (pages_own case moment table layout (images_of images)) (pages_begin case moment table layout (images_of images)) labelled adds
            (known.told other labelled last))
            told;
      };
      adds = adds;
      done = λ other below same.
          let equal : rank ≡ other = eqb-true rank other same in
          subst (MatchesAt case moment table layout.usable numbers after) equal
          (subst (Matches (source_of case moment (slice_index numbers rank)) (key_of table layout.usable (slice_index numbers rank))) (sym (entry_here entries after rank entry inside is)) matches);
      others = λ other differ.
          let apart : other ≢ rank = λ equal. grind (arith, nat_tests) in
          entry_other entries after rank other entry apart is;
    }

-- ---- several ranks

-- none was
pub passes_none : (case : Gathered) (moment : Moment) (numbers : List ℕ) (table : Table) (layout : Layout) (images : ImageTable) (owned : Owned) (entries : List Entry) (test : ℕ → Bool)
    → IsKnown case numbers images owned entries → ((rank : ℕ) → rank < length numbers → test rank ≡ false) → Passes case moment numbers table layout images owned owned entries entries test
passes_none case moment numbers table layout images owned entries test known none = record {
  known = known;
  adds = adds_none owned (pages_own case moment table layout (images_of images)) (pages_begin case moment table layout (images_of images));
  done = λ rank below is. absurd (let never = none rank below in let both : true ≡ false = sym is ∙ never in cc);
  others = λ rank is. refl;
}

done_case : (case : Gathered) (moment : Moment) (numbers : List ℕ) (table : Table) (usable : ℕ) (between after : List Entry) (rank : ℕ) (p q : Bool)
    → (p ≡ true → MatchesAt case moment table usable numbers between rank) → (q ≡ true → MatchesAt case moment table usable numbers after rank) → (q ≡ false → entry_at after rank ≡ entry_at between rank)
    → (p || q) ≡ true → MatchesAt case moment table usable numbers after rank
done_case case moment numbers table usable between after rank p true first second others is = second refl
done_case case moment numbers table usable between after rank true false first second others is =
    subst (Matches (source_of case moment (slice_index numbers rank)) (key_of table usable (slice_index numbers rank))) (sym (others refl)) (first refl)
done_case case moment numbers table usable between after rank false false first second others is = absurd (let never : false ≡ true = is in cc)

neither : (a b : Bool) → (a || b) ≡ false → (a ≡ false) × (b ≡ false)
neither true b is = absurd (let never : true ≡ false = is in cc)
neither false b is = (refl, is)

-- some, and then others
pub passes_both : (case : Gathered) (moment : Moment) (numbers : List ℕ) (table : Table) (layout : Layout) (images : ImageTable) (owned mid now : Owned) (entries between after : List Entry) (first second test : ℕ → Bool)
    → Passes case moment numbers table layout images owned mid entries between first → Passes case moment numbers table layout images mid now between after second
    → ((rank : ℕ) → test rank ≡ (first rank || second rank))
    → Passes case moment numbers table layout images owned now entries after test
passes_both case moment numbers table layout images owned mid now entries between after first second test one other is = record {
  known = other.known;
  adds = adds_both owned mid now (pages_own case moment table layout (images_of images)) (pages_begin case moment table layout (images_of images)) one.adds other.adds;
  done = λ rank below passed.
      done_case case moment numbers table layout.usable between after rank (first rank) (second rank) (one.done rank below) (other.done rank below) (other.others rank) (sym (is rank) ∙ passed);
  others = λ rank passed. let none = neither (first rank) (second rank) (sym (is rank) ∙ passed) in other.others rank none.1 ∙ one.others rank none.0;
}

-- ---- all ranks

test_next : (rank other : ℕ) → nat_lt other (rank + 1) ≡ (nat_lt other rank || (rank == other))
test_next rank other = grind (arith, nat_tests)

-- a rank more
pub passes_next : (case : Gathered) (moment : Moment) (numbers : List ℕ) (table : Table) (layout : Layout) (images : ImageTable) (owned mid now : Owned) (entries between after : List Entry) (rank : ℕ)
    → Passes case moment numbers table layout images owned mid entries between (λ other. nat_lt other rank) → Passes case moment numbers table layout images mid now between after (λ other. rank == other)
    → Passes case moment numbers table layout images owned now entries after (λ other. nat_lt other (rank + 1))
passes_next case moment numbers table layout images owned mid now entries between after rank one other =
    passes_both case moment numbers table layout images owned mid now entries between after (λ other. nat_lt other rank) (λ other. rank == other) (λ other. nat_lt other (rank + 1)) one other
    (λ other. test_next rank other)

pub passes_start : (case : Gathered) (moment : Moment) (numbers : List ℕ) (table : Table) (layout : Layout) (images : ImageTable) (owned : Owned) (entries : List Entry)
    → IsKnown case numbers images owned entries → Passes case moment numbers table layout images owned owned entries entries (λ other. nat_lt other 0)
passes_start case moment numbers table layout images owned entries known =
    passes_none case moment numbers table layout images owned entries (λ other. nat_lt other 0) known (λ rank below. grind (arith, nat_tests))

pub passes_all : (case : Gathered) (moment : Moment) (numbers : List ℕ) (table : Table) (layout : Layout) (images : ImageTable) (owned now : Owned) (entries after : List Entry) (rank : ℕ) → length numbers ≤ rank
    → Passes case moment numbers table layout images owned now entries after (λ other. nat_lt other rank) → Gone case moment numbers table layout images owned now after
passes_all case moment numbers table layout images owned now entries after rank whole passes = record {
  known = passes.known;
  adds = passes.adds;
  matched = λ other below. passes.done other below (grind (arith, nat_tests));
}

-- what is no rank
pub passes_past : (case : Gathered) (moment : Moment) (numbers : List ℕ) (table : Table) (layout : Layout) (images : ImageTable) (owned : Owned) (entries : List Entry) (rank : ℕ) → length numbers ≤ rank
    → IsKnown case numbers images owned entries → Passes case moment numbers table layout images owned owned entries entries (λ other. rank == other)
passes_past case moment numbers table layout images owned entries rank past known =
    passes_none case moment numbers table layout images owned entries (λ other. rank == other) known (λ other below. grind (arith, nat_tests))

-- ---- the ranks of a list

pub listed_start : (case : Gathered) (moment : Moment) (numbers : List ℕ) (table : Table) (layout : Layout) (images : ImageTable) (owned : Owned) (entries : List Entry) (ranks : List ℕ)
    → IsKnown case numbers images owned entries → Passes case moment numbers table layout images owned owned entries entries (is_among (take 0 ranks))
listed_start case moment numbers table layout images owned entries ranks known =
    passes_none case moment numbers table layout images owned entries (is_among (take 0 ranks)) known (λ rank below. refl)

pub listed_next : (case : Gathered) (moment : Moment) (numbers : List ℕ) (table : Table) (layout : Layout) (images : ImageTable) (owned mid now : Owned) (entries between after : List Entry) (ranks : List ℕ) (i rank d : ℕ)
    → i < length ranks → get_or ranks i d ≡ rank
    → Passes case moment numbers table layout images owned mid entries between (is_among (take i ranks)) → Passes case moment numbers table layout images mid now between after (λ other. rank == other)
    → Passes case moment numbers table layout images owned now entries after (is_among (take (i + 1) ranks))
listed_next case moment numbers table layout images owned mid now entries between after ranks i rank d within is one other =
    passes_both case moment numbers table layout images owned mid now entries between after (is_among (take i ranks)) (λ other. rank == other) (is_among (take (i + 1) ranks)) one other
    (λ other. list_any_more (λ page. page == other) ranks i d within ∙ ap (λ page. is_among (take i ranks) other || (page == other)) is)

pub listed_all : (case : Gathered) (moment : Moment) (numbers : List ℕ) (table : Table) (layout : Layout) (images : ImageTable) (owned now : Owned) (entries after : List Entry) (ranks : List ℕ) (i : ℕ) → length ranks ≤ i
    → Passes case moment numbers table layout images owned now entries after (is_among (take i ranks)) → Passes case moment numbers table layout images owned now entries after (is_among ranks)
listed_all case moment numbers table layout images owned now entries after ranks i whole passes =
    subst (λ list. Passes case moment numbers table layout images owned now entries after (is_among list)) (take_all i ranks whole) passes

-- the ranks of two lists, where the others match already
both_case : (swept : Swept) (table : Table) (usable : ℕ) (entries between after : List Entry) (touched : List ℕ) (rank : ℕ) (first second : Bool)
    → is_among swept.changed rank ≡ first → is_among touched rank ≡ second
    → (is_among swept.changed rank ≡ true → MatchesAt swept.case swept.moment table usable swept.numbers between rank)
    → (is_among touched rank ≡ true → MatchesAt swept.case swept.moment table usable swept.numbers after rank)
    → (is_among touched rank ≡ false → entry_at after rank ≡ entry_at between rank) → (is_among swept.changed rank ≡ false → entry_at between rank ≡ entry_at entries rank)
    → (is_among swept.changed rank ≡ false → is_among touched rank ≡ false → MatchesAt swept.case swept.moment table usable swept.numbers entries rank)
    → MatchesAt swept.case swept.moment table usable swept.numbers after rank
both_case swept table usable entries between after touched rank first true one two done other later before already = other two
both_case swept table usable entries between after touched rank true false one two done other later before already =
    subst (Matches (source_of swept.case swept.moment (slice_index swept.numbers rank)) (key_of table usable (slice_index swept.numbers rank))) (sym (later two)) (done one)
both_case swept table usable entries between after touched rank false false one two done other later before already =
    subst (Matches (source_of swept.case swept.moment (slice_index swept.numbers rank)) (key_of table usable (slice_index swept.numbers rank))) (sym (later two ∙ before one)) (already one two)

pub both_gone : (swept : Swept) (table : Table) (layout : Layout) (images : ImageTable) (owned mid now : Owned) (entries between after : List Entry) (touched : List ℕ)
    → MatchBut swept table layout.usable entries (Some touched)
    → Passes swept.case swept.moment swept.numbers table layout images owned mid entries between (is_among swept.changed)
    → Passes swept.case swept.moment swept.numbers table layout images mid now between after (is_among touched)
    → Gone swept.case swept.moment swept.numbers table layout images owned now after
both_gone swept table layout images owned mid now entries between after touched already first second = record {
  known = second.known;
  adds = adds_both owned mid now (pages_own swept.case swept.moment table layout (images_of images)) (pages_begin swept.case swept.moment table layout (images_of images)) first.adds second.adds;
  matched = λ rank below.
      both_case swept table layout.usable entries between after touched rank (is_among swept.changed rank) (is_among touched rank) refl refl
      (first.done rank below) (second.done rank below) (second.others rank) (first.others rank) (already rank below);
}
