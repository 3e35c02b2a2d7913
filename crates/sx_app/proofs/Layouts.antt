-- The layout of a moment, and the labels and the images by it.
use Rattle.std.proofs.Common.{◌≡◌, ℕ, ◌-◌, ◌<◌, true, ℤ, List, get_or, slice_get, is_some, Option, Some, None, refl, sym, ap, subst, ◌∙◌, arith}
use Rattle.std.proofs.lemmas.Option.{get_or_from_slice_get}
use Rattle.std.proofs.lemmas.List.FromFn.{get_or-map-range_with_len}
use Rattle.sx_base.specs.declared.label.Label.{Label}
use Rattle.sx_base.specs.declared.layout.Layout.{Layout}
use Rattle.sx_base.specs.declared.moment.Moment.{Moment}
use Rattle.sx_closure.specs.Graph.{Graph}
use Rattle.sx_closure.specs.Tallying.{Table, IsTableOf}
use Rattle.sx_header.specs.declared.header.Header.{Header}
use Rattle.sx_images.specs.Images.{table_of}
use Rattle.sx_map_text.specs.Map.{map_lines}
use Rattle.sx_moment.specs.Gathered.{Gathered, size_at}
use Rattle.sx_moment.specs.Heads.{head_of, layout_by, layout_of}
use Rattle.sx_moment.specs.Views.{view_of}
use Rattle.sx_prov.specs.Keys.{AreLabels}
use Rattle.sx_prov.specs.Labels.{label_of, labels_of}
use Rattle.sx_refs.specs.Pages.{graph_of}
use Rattle.sx_app.specs.Labels.{graph_at, images_in, map_at, map_by}

by_head : (case : Gathered) (pages : ℕ) (head : Option Header) → (layout_by case pages head).page_size ≡ case.header.page_size
by_head case pages None = refl
by_head case pages (Some head) = refl

-- it has the page size of the file's header
pub page_size_is : (case : Gathered) (moment : Moment) → (layout_of case moment).page_size ≡ case.header.page_size
page_size_is case moment = by_head case (size_at case moment) (head_of case moment)

-- so have the images
pub image_size_is : (case : Gathered) → (images_in case).page_size ≡ case.header.page_size
unfolding images_in table_of
image_size_is case = refl

-- a label is that of its byte
label_is : (graph : Graph) (layout : Layout) (view : ℕ → Option (List ℕ)) (page byte : ℕ) (label : Label) (labels : List Label) → byte < layout.page_size
    → labels ≡ labels_of graph layout view page → slice_get labels byte ≡ Some label → label ≡ label_of graph layout view page byte
unfolding labels_of
label_is graph layout view page byte label labels within are is =
    sym (get_or_from_slice_get labels byte label label is) ∙ ap (λ (l : List Label). get_or l byte label) are
    ∙ get_or-map-range_with_len (label_of graph layout view page) 0 layout.page_size byte byte label within (omega arith)

pub page_label_is : (pages : ℕ) (view : ℕ → Option (List ℕ)) (given layout : Layout) (roots : List ℤ) (table : Table) (page byte : ℕ) (label : Label) (labels : List Label)
    → given ≡ layout → AreLabels pages view given table page labels → IsTableOf (graph_of pages view layout roots) (layout.usable - 4) table
    → byte < layout.page_size → slice_get labels byte ≡ Some label → label ≡ label_of (graph_of pages view layout roots) layout view page byte
page_label_is pages view given layout roots table page byte label labels same are counted within is =
    label_is (graph_of pages view layout roots) layout view page byte label labels within (subst (λ l. AreLabels pages view l table page labels) same are roots counted) is

-- ---- `map`, where the moment has a head

by_some : (case : Gathered) (moment : Moment) (head : Option Header) → is_some head ≡ true
    → map_by case moment head ≡ map_lines (graph_at case moment) (layout_of case moment) (view_of case moment) (size_at case moment)
by_some case moment None none = absurd cc
by_some case moment (Some head) none = refl

pub map_headed : (case : Gathered) (moment : Moment) (head : Option Header) → head ≡ head_of case moment → is_some head ≡ true
    → map_at case moment ≡ map_lines (graph_at case moment) (layout_of case moment) (view_of case moment) (size_at case moment)
unfolding map_at
map_headed case moment head is some = ap (map_by case moment) (sym is) ∙ by_some case moment head some
