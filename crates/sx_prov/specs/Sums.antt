-- How many bytes of all pages of a moment have a label of a group.
use Rattle.std.specs.Prelude.{ℕ, Bool, List, count_by, sum_by, Option}
use Rattle.std.specs.List.{range_with_len}
use Rattle.sx_base.specs.Maps.{lock_page_of}
use Rattle.sx_base.specs.declared.layout.Layout.{Layout}
use Rattle.sx_base.specs.declared.label.Label.{Label}
use Rattle.sx_closure.specs.Graph.{Graph}
use Rattle.sx_prov.specs.Labels.{labels_of}
use Rattle.sx_prov.specs.Stretches.{present_above}

-- the bytes of these pages with a label of the group
unfoldable pub bytes_in : (Label → Bool) → Graph → Layout → (ℕ → Option (List ℕ)) → List ℕ → ℕ
bytes_in group graph layout view pages = sum_by (λ page. count_by group (labels_of graph layout view page)) pages

-- the bytes of all pages up to the size
abbrev pub bytes_of : (Label → Bool) → Graph → Layout → (ℕ → Option (List ℕ)) → ℕ → ℕ
bytes_of group graph layout view size = bytes_in group graph layout view (range_with_len 1 size)

-- the present pages up to the size
abbrev pub present_of : Layout → (ℕ → Option (List ℕ)) → ℕ → List ℕ
present_of layout view size = present_above (lock_page_of layout.page_size) view size 0
