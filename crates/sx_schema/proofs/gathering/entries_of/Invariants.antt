use Rattle.std.proofs.Common.{◌≡◌, ◌++◌, ◌<◌, ◌^◌, length}
use Rattle.std.specs.List.{filter_map}
use Rattle.sx_tree.specs.Trees.{tree_in}
use Rattle.sx_tree.specs.Rows.{rows_of}
use Rattle.sx_row.specs.Lengths.{AreLengths}
use Rattle.sx_schema.specs.Entries.{item_entry}
use Rattle.sx_schema.specs.GivenEntries.{all_by}
use Rattle.sx_schema.proofs.gathering.entries_of.Given as goal

abbrev pub invariant-loop-item : goal.invariant-loop-item
invariant-loop-item g l =
    let size = g.P.PageViews.pages l.pages in
    let view = g.P.PageViews.view l.pages in
    record {
      entries : all_by l.entries.items ++ filter_map (item_entry size view l.usable l.encoding) l.rows
          ≡ filter_map (item_entry size view l.usable l.encoding) (rows_of (tree_in size view l.usable 1));
      few : length l.entries.items < 2 ^ 32;
      lengths : AreLengths size view l.lengths;
    }

abbrev pub decreases-loop-item : goal.decreases-loop-item
decreases-loop-item g l = length l.rows
