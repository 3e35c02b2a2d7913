use Rattle.std.proofs.Common.{◌≡◌, ◌+◌, ◌++◌, ◌<◌, ◌^◌, length}
use Rattle.std.specs.List.{count_by, filter_map}
use Rattle.sx_tree.specs.Trees.{tree_in}
use Rattle.sx_tree.specs.Rows.{rows_of}
use Rattle.sx_row.specs.Lengths.{AreLengths}
use Rattle.sx_history.specs.Given.{faults_by, items_by}
use Rattle.sx_history.specs.History.{is_faulty, item_found}
use Rattle.sx_history.proofs.gathering.history.Given as goal

abbrev pub invariant-loop-item : goal.invariant-loop-item
invariant-loop-item g l =
    let size = g.P.PageViews.pages l.pages in
    let view = g.P.PageViews.view l.pages in
    record {
      found : items_by l.history ++ filter_map (item_found size view l.usable l.rowid) l.rows
          ≡ filter_map (item_found size view l.usable l.rowid) (rows_of (tree_in size view l.usable l.root));
      faults : faults_by l.history + count_by (is_faulty size view l.usable) l.rows
          ≡ count_by (is_faulty size view l.usable) (rows_of (tree_in size view l.usable l.root));
      few : faults_by l.history + length l.rows < 2 ^ 64;
      lengths : AreLengths size view l.lengths;
    }

abbrev pub decreases-loop-item : goal.decreases-loop-item
decreases-loop-item g l = length l.rows
