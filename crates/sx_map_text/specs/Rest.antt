-- How far the writing of `map` has come: the lines to come.
use Rattle.std.specs.Prelude.{◌≡◌, ℕ, ◌+◌, ◌-◌, ◌*◌, ◌<◌, ◌≤◌, ◌^◌, Bool, if◌then◌else◌, List, [], ◌∷◌, ◌++◌, map, sum_by, count_by, Option, ℤ}
use Rattle.std.specs.List.{flat_map}
use Rattle.std.specs.Vec.Iter.{into_iter_items}
use Rattle.sx_base.specs.Labels.{is_owning, is_slack, is_fault}
use Rattle.sx_base.specs.declared.label.Label.{Label}
use Rattle.sx_base.specs.declared.label.Label.TheVariants.{Absent as AbsentLabel}
use Rattle.sx_base.specs.declared.layout.Layout.{Layout}
use Rattle.sx_closure.specs.Tallying.{Table, IsTableOf}
use Rattle.sx_lines.specs.Lines.{ended}
use Rattle.sx_refs.specs.Pages.{graph_of}
use Rattle.sx_prov.specs.Labels.{labels_of}
use Rattle.sx_prov.specs.declared.stretch.Stretch.{Stretch}
use Rattle.sx_prov.specs.declared.stretch.Stretch.TheVariants.{Absent, Present}
use Rattle.sx_map_text.specs.Map.{run_line, stretch_lines, headless_lines, headless_totals, totals_line}
use Rattle.sx_map_text.specs.declared.page_map_lines.PageMapLines.{PageMapLines}
use Rattle.sx_map_text.specs.declared.headless.HeadlessLines.{HeadlessLines}
use Rattle.sx_map_text.specs.declared.headless.HeadlessLine.{HeadlessLine}
use Rattle.sx_map_text.specs.declared.headless.HeadlessLine.TheVariants as lines
use Rattle.sx_map_text.specs.declared.summing.StretchBytes.{StretchBytes}
use Rattle.sx_map_text.specs.declared.map_lines.Begun.{Begun}
use Rattle.sx_map_text.specs.declared.map_lines.MapLine.{MapLine}
use Rattle.sx_map_text.specs.declared.map_lines.MapLine.TheVariants as map_line
use Rattle.sx_map_text.specs.declared.totals.MapTotals.{MapTotals}

-- the lines of a page to come
abbrev pub page_rest : PageMapLines → List (List ℕ)
page_rest one = map (run_line one.page) (into_iter_items one.runs)

-- the bytes of a stretch with a label of the group
abbrev pub stretch_bytes : (Label → Bool) → (ℕ → List Label) → ℕ → Stretch → ℕ
stretch_bytes group labels page_size (Absent first last) = if group AbsentLabel then (last + 1 - first) * page_size else 0
stretch_bytes group labels page_size (Present page) = count_by group (labels page)

-- those of some stretches
unfoldable pub stretches_bytes : (Label → Bool) → (ℕ → List Label) → ℕ → List Stretch → ℕ
stretches_bytes group labels page_size stretches = sum_by (stretch_bytes group labels page_size) stretches

-- totals, and the bytes of some stretches besides
abbrev pub totals_with : (ℕ → List Label) → ℕ → MapTotals → List Stretch → MapTotals
totals_with labels page_size totals stretches = record {
  bytes = totals.bytes;
  owned = totals.owned + stretches_bytes is_owning labels page_size stretches;
  slack = totals.slack + stretches_bytes is_slack labels page_size stretches;
  fault = totals.fault + stretches_bytes is_fault labels page_size stretches;
  dead = totals.dead;
}

-- the lines of stretches, and the totals behind them
unfoldable pub lines_along : (ℕ → List Label) → ℕ → MapTotals → List Stretch → List (List ℕ)
lines_along labels page_size totals stretches =
    flat_map (stretch_lines labels) stretches ++ totals_line (totals_with labels page_size totals stretches) ∷ []

-- the lines to come, those of a page that was begun first
abbrev pub map_from : MapLine → List (List ℕ) → (ℕ → List Label) → ℕ → MapTotals → List Stretch → List (List ℕ)
map_from map_line.Pages begun labels page_size totals stretches = begun ++ lines_along labels page_size totals stretches
map_from map_line.End begun labels page_size totals stretches = []

-- the labels of the pages of a moment
abbrev pub moment_labels : ℕ → (ℕ → Option (List ℕ)) → Layout → List ℤ → ℕ → List Label
moment_labels size view layout roots = labels_of (graph_of size view layout roots) layout view

-- the sums of bytes stay within 64 bits
pub record HasRoom (labels : ℕ → List Label) (page_size : ℕ) (totals : MapTotals) (stretches : List Stretch) : Type 0 where
  pub owned : totals.owned + stretches_bytes is_owning labels page_size stretches < 2 ^ 64
  pub slack : totals.slack + stretches_bytes is_slack labels page_size stretches < 2 ^ 64
  pub fault : totals.fault + stretches_bytes is_fault labels page_size stretches < 2 ^ 64

-- what a text in hand keeps
pub record IsMapping (size page_size : ℕ) (view : ℕ → Option (List ℕ)) (layout : Layout) (roots : List ℤ) (table : Table) (totals : MapTotals) (stretches : List Stretch) : Type 0 where
  pub counted : IsTableOf (graph_of size view layout roots) (layout.usable - 4) table
  pub same_size : page_size ≡ layout.page_size
  pub least : 480 ≤ layout.usable
  pub within : layout.usable ≤ layout.page_size
  pub small : layout.page_size ≤ 65536
  pub room : HasRoom (moment_labels size view layout roots) layout.page_size totals stretches

-- a stretch was begun: its first line was put, the others are to come, and its bytes are known
pub record IsBegun (labels : ℕ → List Label) (page_size : ℕ) (stretch : Stretch) (begun : Begun) (line : List ℕ) : Type 0 where
  pub first : List ℕ
  pub lines : stretch_lines labels stretch ≡ first ∷ page_rest begun.lines
  pub put : line ≡ ended first
  pub owned : begun.owned ≡ stretch_bytes is_owning labels page_size stretch
  pub slack : begun.slack ≡ stretch_bytes is_slack labels page_size stretch
  pub fault : begun.fault ≡ stretch_bytes is_fault labels page_size stretch

-- totals, and the bytes of a stretch besides
abbrev pub with_begun : MapTotals → Begun → MapTotals
with_begun totals begun = record {
  bytes = totals.bytes;
  owned = totals.owned + begun.owned;
  slack = totals.slack + begun.slack;
  fault = totals.fault + begun.fault;
  dead = totals.dead;
}

-- the bytes of a stretch are known
pub record AreBytesOf (labels : ℕ → List Label) (page_size : ℕ) (stretch : Stretch) (bytes : StretchBytes) : Type 0 where
  pub owned : bytes.owned ≡ stretch_bytes is_owning labels page_size stretch
  pub slack : bytes.slack ≡ stretch_bytes is_slack labels page_size stretch
  pub fault : bytes.fault ≡ stretch_bytes is_fault labels page_size stretch

-- totals, and the bytes of a stretch besides
abbrev pub with_bytes : MapTotals → StretchBytes → MapTotals
with_bytes totals bytes = record {
  bytes = totals.bytes;
  owned = totals.owned + bytes.owned;
  slack = totals.slack + bytes.slack;
  fault = totals.fault + bytes.fault;
  dead = totals.dead;
}

-- the lines of a moment without a head from one on
abbrev pub headless_from : HeadlessLine → ℕ → ℕ → List (List ℕ)
headless_from lines.Pages size page_size = headless_lines size page_size
headless_from lines.Totals size page_size = totals_line (headless_totals size page_size) ∷ []
headless_from lines.End size page_size = []

-- those to come
abbrev pub headless_rest : HeadlessLines → List (List ℕ)
headless_rest one = headless_from one.next one.size one.page_size
