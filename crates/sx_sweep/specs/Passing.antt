-- What is kept of each page while all moments are gone over. No definition of an answer goes through it.
--
-- A page was labelled last at some moment where it had a view. Its labels follow from the place at which the view begins and
-- from its key there, whatever the moment: so while both stay the same, all that they give is known already.
use Rattle.std.specs.Prelude.{◌≡◌, ℕ, ℤ, ◌-◌, ◌<◌, ◌≤◌, ◌||◌, Bool, true, false, List, length, map, slice_index, Option, None, Some, ⊤}
use Rattle.std.specs.List.{list_any, range_with_len}
use Rattle.sx_base.specs.declared.evidence.Place.{Place}
use Rattle.sx_base.specs.declared.label.Label.{Label}
use Rattle.sx_base.specs.declared.layout.Layout.{Layout}
use Rattle.sx_base.specs.declared.moment.Moment.{Moment}
use Rattle.sx_node.specs.Nodes.{node_of}
use Rattle.sx_closure.specs.Tallying.{Table, IsTableOf}
use Rattle.sx_refs.specs.Pages.{graph_of}
use Rattle.sx_walk.specs.Walks.{Walk}
use Rattle.sx_images.specs.declared.image.Image.{Image}
use Rattle.sx_images.specs.Images.{Table as ImageTable, images_of}
use Rattle.sx_moment.specs.Gathered.{Gathered, size_at}
use Rattle.sx_moment.specs.Heads.{layout_of}
use Rattle.sx_moment.specs.Sweep.{Swept, moment_at}
use Rattle.sx_moment.specs.Turns.{is_among}
use Rattle.sx_moment.specs.Views.{bytes_from, source_of, view_of}
use Rattle.sx_owned.specs.Owned.{Owned, images_of as owned_images, owned_at, block_at}
use Rattle.sx_prov.specs.Keys.{key_of, keyed_labels}
use Rattle.sx_prov.specs.declared.key.PageKey.{PageKey}
use Rattle.sx_prov.specs.declared.key.Standing.{Standing}
use Rattle.sx_prov.specs.declared.key.Standing.TheVariants.{FirstNode, Node}
use Rattle.sx_sums.specs.Entries.{entry_at}
use Rattle.sx_sums.specs.declared.entry.Entry.{Entry}
use Rattle.sx_sums.specs.declared.entry.Labelled.{Labelled}
use Rattle.sx_sums.specs.Shown.{AreTotals}
use Rattle.sx_sweep.specs.Growth.{Grows}
use Rattle.sx_sweep.specs.Owning.{is_viewed, block_begins, page_owns, page_begins, graph_at}
use Rattle.sx_sweep.specs.Told.{owning_in, told_owns, told_begins, any_above}

-- ---- freeblocks by a key

-- a freeblock begins at an offset of a page with these bytes; page 2 stands for any b-tree page but page 1
abbrev pub standing_begins : Standing → List ℕ → ℕ → ℕ → Bool
standing_begins FirstNode bytes usable at = block_begins (node_of bytes 1 usable) at
standing_begins Node bytes usable at = block_begins (node_of bytes 2 usable) at
standing_begins _ bytes usable at = false

unfoldable pub key_begins : PageKey → List ℕ → ℕ → Bool
key_begins key bytes at = standing_begins key.standing bytes key.usable at

-- ---- a page that was labelled

-- the labels of a page that was labelled so
abbrev pub labels_by : Gathered → Labelled → List Label
labels_by case labelled = keyed_labels labelled.key (bytes_from case labelled.place)

-- all that the labels give is known: how many bytes of each group there are, and of the image that begins where the view does
-- the owned bytes and the freeblocks
pub record IsTold (case : Gathered) (images : List Image) (owned : Owned) (labelled : Labelled) : Type 0 where
  pub totals : AreTotals (labels_by case labelled) labelled.totals
  pub owns : (image at : ℕ) → is_viewed images (Some labelled.place) image ≡ true → owning_in (labels_by case labelled) at ≡ true → owned_at owned image at ≡ true
  pub begins : (image at : ℕ) → is_viewed images (Some labelled.place) image ≡ true → key_begins labelled.key (bytes_from case labelled.place) at ≡ true → block_at owned image at ≡ true

-- of each page that was labelled at some moment
abbrev pub AreTold : Gathered → List Image → Owned → List Entry → Type 0
AreTold case images owned entries = (rank : ℕ) → (labelled : Labelled) → (entry_at entries rank).last ≡ Some labelled → IsTold case images owned labelled

-- what is known of images of the page size, and of as many pages as have a rank
pub record IsKnown (case : Gathered) (numbers : List ℕ) (images : ImageTable) (owned : Owned) (entries : List Entry) : Type 0 where
  pub long : length entries ≡ length numbers
  pub size : owned.page_size ≡ images.page_size
  pub count : owned_images owned ≡ length (images_of images)
  pub told : AreTold case (images_of images) owned entries

-- ---- a page at the moment

-- the page has a view, and was labelled last with this place and this key
pub record IsLabelled (place : Place) (key : PageKey) (entry : Entry) : Type 0 where
  pub labelled : Labelled
  pub shown : entry.shown ≡ true
  pub last : entry.last ≡ Some labelled
  pub same_place : labelled.place ≡ place
  pub same_key : labelled.key ≡ key

-- the entry of a page is that of the moment: its view, if it has one, begins at this place
abbrev pub Matches : Option Place → PageKey → Entry → Type 0
Matches None key entry = entry.shown ≡ false
Matches (Some place) key entry = IsLabelled place key entry

-- so is the entry of a rank
abbrev pub MatchesAt : Gathered → Moment → Table → ℕ → List ℕ → List Entry → ℕ → Type 0
MatchesAt case moment table usable numbers entries rank =
    Matches (source_of case moment (slice_index numbers rank)) (key_of table usable (slice_index numbers rank)) (entry_at entries rank)

-- so is that of each rank
abbrev pub AreMatched : Gathered → Moment → Table → ℕ → List ℕ → List Entry → Type 0
AreMatched case moment table usable numbers entries = (rank : ℕ) → rank < length numbers → MatchesAt case moment table usable numbers entries rank

-- ---- going over pages of a moment

-- what was known is known still, and what is known besides passes a test
pub record Adds (old new : Owned) (owns begins : ℕ → ℕ → Bool) : Type 0 where
  pub count : owned_images new ≡ owned_images old
  pub size : new.page_size ≡ old.page_size
  pub owned_still : (image at : ℕ) → owned_at old image at ≡ true → owned_at new image at ≡ true
  pub owned_by : (image at : ℕ) → owned_at new image at ≡ true → (owned_at old image at || owns image at) ≡ true
  pub block_still : (image at : ℕ) → block_at old image at ≡ true → block_at new image at ≡ true
  pub block_by : (image at : ℕ) → block_at new image at ≡ true → (block_at old image at || begins image at) ≡ true

-- the bytes that the pages of a moment own, as the table tells it, and where their freeblocks begin
abbrev pub pages_own : Gathered → Moment → Table → Layout → List Image → ℕ → ℕ → Bool
pages_own case moment table layout images image at =
    any_above (told_owns table layout (view_of case moment) (source_of case moment) images image at) 0 (size_at case moment)

abbrev pub pages_begin : Gathered → Moment → Table → Layout → List Image → ℕ → ℕ → Bool
pages_begin case moment table layout images image at =
    any_above (told_begins table layout (view_of case moment) (source_of case moment) images image at) 0 (size_at case moment)

-- the pages of the ranks that pass a test were gone over: their entries are those of the moment, the others are as they were
pub record Passes (case : Gathered) (moment : Moment) (numbers : List ℕ) (table : Table) (layout : Layout) (images : ImageTable)
    (owned now : Owned) (entries after : List Entry) (test : ℕ → Bool) : Type 0 where
  pub known : IsKnown case numbers images now after
  pub adds : Adds owned now (pages_own case moment table layout (images_of images)) (pages_begin case moment table layout (images_of images))
  pub done : (rank : ℕ) → rank < length numbers → test rank ≡ true → MatchesAt case moment table layout.usable numbers after rank
  pub others : (rank : ℕ) → test rank ≡ false → entry_at after rank ≡ entry_at entries rank

-- ---- a moment that was gone over

-- the walk of references stands at a moment, and the entry of each rank is that of the moment
pub record IsReached (case : Gathered) (moment : Moment) (numbers : List ℕ) (walk : Walk) (usable : ℕ) (entries : List Entry) : Type 0 where
  pub numbers_are : walk.numbers ≡ numbers
  pub views_are : walk.views ≡ map (view_of case moment) numbers
  pub matched : AreMatched case moment walk.table usable numbers entries

-- the last settled moment was reached with so many usable bytes, where some moment was gone over
abbrev pub IsBefore : Swept → Option Walk → ℕ → List Entry → Type 0
IsBefore swept None usable entries = ⊤
IsBefore swept (Some walk) usable entries = (1 ≤ swept.settled) × IsReached swept.case (moment_at swept.case (swept.settled - 1)) swept.numbers walk usable entries

-- the pages of a moment with this layout and these roots were gone over
pub record GoesOver (case : Gathered) (moment : Moment) (numbers : List ℕ) (layout : Layout) (roots : List ℤ) (images : ImageTable)
    (owned now : Owned) (after : List Entry) (walk : Walk) : Type 0 where
  pub reached : IsReached case moment numbers walk layout.usable after
  pub table_is : IsTableOf (graph_of (size_at case moment) (view_of case moment) layout roots) (layout.usable - 4) walk.table
  pub known : IsKnown case numbers images now after
  pub adds : Adds owned now (pages_own case moment walk.table layout (images_of images)) (pages_begin case moment walk.table layout (images_of images))

-- the pages of all ranks were gone over
pub record Gone (case : Gathered) (moment : Moment) (numbers : List ℕ) (table : Table) (layout : Layout) (images : ImageTable) (owned now : Owned) (after : List Entry) : Type 0 where
  pub known : IsKnown case numbers images now after
  pub adds : Adds owned now (pages_own case moment table layout (images_of images)) (pages_begin case moment table layout (images_of images))
  pub matched : AreMatched case moment table layout.usable numbers after

-- the entry of each rank that didn't change and isn't touched is that of the moment already; without a list nothing is said
abbrev pub MatchBut : Swept → Table → ℕ → List Entry → Option (List ℕ) → Type 0
MatchBut swept table usable entries None = ⊤
MatchBut swept table usable entries (Some touched) =
    (rank : ℕ) → rank < length swept.numbers → is_among swept.changed rank ≡ false → is_among touched rank ≡ false → MatchesAt swept.case swept.moment table usable swept.numbers entries rank

-- the pages of a moment with a header were gone over, with the references that its schema gives
pub record IsHeaded (case : Gathered) (moment : Moment) (numbers : List ℕ) (images : ImageTable) (owned now : Owned) (after : List Entry) (walk : Walk) : Type 0 where
  pub grows : Grows owned now
      (λ image at. list_any (page_owns (graph_at case moment) (layout_of case moment) (view_of case moment) (source_of case moment) (images_of images) image at) (range_with_len 1 (size_at case moment)))
      (λ image at. list_any (page_begins (graph_at case moment) (layout_of case moment) (view_of case moment) (source_of case moment) (images_of images) image at) (range_with_len 1 (size_at case moment)))
  pub known : IsKnown case numbers images now after
  pub reached : IsReached case moment numbers walk (layout_of case moment).usable after
  pub table_is : IsTableOf (graph_at case moment) ((layout_of case moment).usable - 4) walk.table
