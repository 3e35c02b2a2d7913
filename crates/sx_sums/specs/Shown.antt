-- The entries of all pages at a moment: they tell the bytes of its pages by groups of labels.
use Rattle.std.specs.Prelude.{◌≡◌, ℕ, ◌<◌, ◌≤◌, true, false, count_by, if◌then◌else◌, nat_le, List, length, slice_index, is_some, Option, Some, None}
use Rattle.sx_base.specs.Labels.{is_owning, is_slack, is_fault}
use Rattle.sx_base.specs.Maps.{lock_page_of}
use Rattle.sx_base.specs.declared.label.Label.{Label}
use Rattle.sx_base.specs.declared.layout.Layout.{Layout}
use Rattle.sx_closure.specs.Graph.{Graph, Rises}
use Rattle.sx_refs.specs.Covering.{Covers}
use Rattle.sx_prov.specs.declared.map.Totals.{Totals}
use Rattle.sx_prov.specs.Labels.{labels_of}
use Rattle.sx_prov.specs.Sums.{bytes_of}
use Rattle.sx_sums.specs.declared.entry.Entry.{Entry}
use Rattle.sx_sums.specs.declared.entry.Labelled.{Labelled}
use Rattle.sx_sums.specs.declared.moments.PageTotals.{PageTotals}
use Rattle.sx_sums.specs.Entries.{entry_at}

-- how many of the labels are in each group
pub record AreTotals (labels : List Label) (totals : Totals) : Type 0 where
  pub owned : totals.owned ≡ count_by is_owning labels
  pub slack : totals.slack ≡ count_by is_slack labels
  pub fault : totals.fault ≡ count_by is_fault labels

-- the entry of a page with these labels: where it has a view, it was labelled last with as many of each group
abbrev pub IsShown : List Label → Option (List ℕ) → Entry → Type 0
IsShown labels None entry = entry.shown ≡ false
IsShown labels (Some bytes) entry = (entry.shown ≡ true) × ((labelled : Labelled) × (entry.last ≡ Some labelled) × AreTotals labels labelled.totals)

-- the entries are those of a moment with that graph, that layout and these views, by the ranks of the pages of a rising list
-- with all that have a view; these lie from 1 to the size, and the lock-byte page isn't one ("The Lock-Byte Page")
pub record AreShown (graph : Graph) (layout : Layout) (view : ℕ → Option (List ℕ)) (size : ℕ) (numbers : List ℕ) (entries : List Entry) : Type 0 where
  pub rise : Rises numbers
  pub covered : Covers numbers view
  pub within : (number : ℕ) → is_some (view number) ≡ true → (1 ≤ number) × (number ≤ size)
  pub lock : view (lock_page_of layout.page_size) ≡ None
  pub count : length entries ≡ length numbers
  pub shown : (rank : ℕ) → rank < length numbers → IsShown (labels_of graph layout view (slice_index numbers rank)) (view (slice_index numbers rank)) (entry_at entries rank)

-- the bytes of all pages of a moment, by groups
pub record AreMoment (graph : Graph) (layout : Layout) (view : ℕ → Option (List ℕ)) (size : ℕ) (totals : PageTotals) : Type 0 where
  pub owned : totals.owned ≡ bytes_of is_owning graph layout view size
  pub slack : totals.slack ≡ bytes_of is_slack graph layout view size
  pub fault : totals.fault ≡ bytes_of is_fault graph layout view size

-- 1 where the lock-byte page is within the size
abbrev pub lock_count : ℕ → ℕ → ℕ
lock_count lock size = if nat_le lock size then 1 else 0
