-- What `map` prints: each byte of each page of a moment by its label, as runs; absent pages as one line; and totals.
use Rattle.std.specs.Prelude.{ℕ, ◌*◌, ◌==◌, if◌then◌else◌, List, [], ◌∷◌, ◌++◌, length, map, codes, Option}
use Rattle.std.specs.Fmt.{decimal}
use Rattle.std.specs.List.{flat_map}
use Rattle.sx_base.specs.Labels.{is_owning, is_slack, is_fault}
use Rattle.sx_base.specs.Maps.{lock_page_of}
use Rattle.sx_base.specs.declared.evidence.Span.{Span}
use Rattle.sx_base.specs.declared.label.Label.{Label}
use Rattle.sx_base.specs.declared.layout.Layout.{Layout}
use Rattle.sx_closure.specs.Graph.{Graph, dead_links}
use Rattle.sx_lines.specs.Labels.{label_word}
use Rattle.sx_prov.specs.Labels.{labels_of}
use Rattle.sx_prov.specs.Runs.{runs_of}
use Rattle.sx_prov.specs.Stretches.{stretches_of}
use Rattle.sx_prov.specs.Sums.{bytes_of}
use Rattle.sx_prov.specs.declared.stretch.Stretch.{Stretch}
use Rattle.sx_prov.specs.declared.stretch.Stretch.TheVariants.{Absent, Present}
use Rattle.sx_map_text.specs.declared.totals.MapTotals.{MapTotals}

-- the line of a run: its page, where it begins and its length in bytes, and its label
unfoldable pub run_line : ℕ → Span × Label → List ℕ
run_line page run =
    codes "page " ++ decimal page ++ codes " " ++ decimal run.0.start ++ codes " " ++ decimal run.0.len ++ codes " " ++ label_word run.1

-- the lines of a page with these labels
abbrev pub page_lines : ℕ → List Label → List (List ℕ)
page_lines page labels = map (run_line page) (runs_of labels)

-- the line of pages that the evidence doesn't hold, from one to another
unfoldable pub absent_line : ℕ → ℕ → List ℕ
absent_line first last = codes "pages " ++ decimal first ++ codes "-" ++ decimal last ++ codes " absent"

-- the lines of present pages and of the absent ones between them, where the labels of each page are these
abbrev pub stretch_lines : (ℕ → List Label) → Stretch → List (List ℕ)
stretch_lines labels (Absent first last) = absent_line first last ∷ []
stretch_lines labels (Present page) = page_lines page (labels page)

-- the last line: all bytes of the moment, those of each group of labels, and the dead links
unfoldable pub totals_line : MapTotals → List ℕ
totals_line totals =
    codes "bytes "
    ++ decimal totals.bytes
    ++ codes " owned "
    ++ decimal totals.owned
    ++ codes " slack "
    ++ decimal totals.slack
    ++ codes " fault "
    ++ decimal totals.fault
    ++ codes " dead "
    ++ decimal totals.dead

-- the totals of a moment of that size
abbrev pub totals_of : Graph → Layout → (ℕ → Option (List ℕ)) → ℕ → MapTotals
totals_of graph layout view size = record {
  bytes = size * layout.page_size;
  owned = bytes_of is_owning graph layout view size;
  slack = bytes_of is_slack graph layout view size;
  fault = bytes_of is_fault graph layout view size;
  dead = length (dead_links graph);
}

-- all lines at a moment of that size with a head
abbrev pub map_lines : Graph → Layout → (ℕ → Option (List ℕ)) → ℕ → List (List ℕ)
map_lines graph layout view size =
    flat_map (stretch_lines (labels_of graph layout view)) (stretches_of (lock_page_of layout.page_size) view size)
    ++ totals_line (totals_of graph layout view size) ∷ []

-- the line of all pages of a moment without a head, where it has any
unfoldable pub headless_line : ℕ → List ℕ
headless_line size = codes "pages 1-" ++ decimal size ++ codes " badhead"

-- the totals of a moment without a head: each byte is a fault, and nothing is known to refer to anything
abbrev pub headless_totals : ℕ → ℕ → MapTotals
headless_totals size page_size = record { bytes = size * page_size; owned = 0; slack = 0; fault = size * page_size; dead = 0 }

-- all lines at a moment without a head
abbrev pub headless_lines : ℕ → ℕ → List (List ℕ)
headless_lines size page_size =
    (if size == 0 then [] else headless_line size ∷ []) ++ totals_line (headless_totals size page_size) ∷ []
