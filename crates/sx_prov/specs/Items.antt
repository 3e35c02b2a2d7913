-- The map of a moment: its items, of which each is a stretch of absent pages or a run of bytes of one page with one label.
use Rattle.std.specs.Prelude.{◌≡◌, ℕ, ◌&&◌, Bool, nat_le, List, [], ◌∷◌, map, filter, Option}
use Rattle.std.specs.List.{flat_map}
use Rattle.sx_base.specs.Maps.{lock_page_of}
use Rattle.sx_base.specs.declared.layout.Layout.{Layout}
use Rattle.sx_base.specs.declared.evidence.Span.{Span}
use Rattle.sx_base.specs.declared.label.Label.{Label}
use Rattle.sx_base.specs.declared.label.Label.TheVariants.{Absent as AbsentLabel}
use Rattle.sx_closure.specs.Graph.{Graph}
use Rattle.sx_seglist.specs.Claims.{holds}
use Rattle.sx_prov.specs.declared.stretch.Stretch.{Stretch}
use Rattle.sx_prov.specs.declared.stretch.Stretch.TheVariants.{Absent, Present}
use Rattle.sx_prov.specs.Labels.{labels_of}
use Rattle.sx_prov.specs.Runs.{run_of, runs_of}
use Rattle.sx_prov.specs.Stretches.{stretches_of}

-- bytes of the pages from a first to a last, of each the same run with one label
pub record Item : Type 0 where
  pub first : ℕ
  pub last : ℕ
  pub run : Span × Label

-- an item holds a byte of a page
abbrev pub holds_byte : ℕ → ℕ → Item → Bool
holds_byte page at item = (nat_le item.first page && nat_le page item.last) && holds at item.run

-- the items of a stretch, where the labels of each page are these
abbrev pub items_in : ℕ → (ℕ → List Label) → Stretch → List Item
items_in page_size labels (Absent first last) = record { first = first; last = last; run = run_of 0 page_size AbsentLabel } ∷ []
items_in page_size labels (Present page) = map (λ run. record { first = page; last = page; run = run }) (runs_of (labels page))

-- the items of all pages up to the size
abbrev pub items_of : Graph → Layout → (ℕ → Option (List ℕ)) → ℕ → List Item
items_of graph layout view size =
    flat_map (items_in layout.page_size (labels_of graph layout view)) (stretches_of (lock_page_of layout.page_size) view size)

-- exactly one item holds the byte, and its label is this
pub record IsInOne (items : List Item) (page at : ℕ) (label : Label) : Type 0 where
  pub item : Item
  pub only : filter (holds_byte page at) items ≡ item ∷ []
  pub same : item.run.1 ≡ label
