use Rattle.std.proofs.Common.{◌+◌, ◌-◌, ◌≤◌}
use Rattle.sx_tree.specs.Trees.{tree_in, held_count, IsBounded}
use Rattle.sx_tree.proofs.Filling.{IsFilling, HasRoom}
use Rattle.sx_tree.proofs.finding.pages_of_tree.Given as goal

abbrev pub invariant-loop-no : goal.invariant-loop-no
invariant-loop-no g l =
    let tree = tree_in (g.P.PageViews.pages l.pages) (g.P.PageViews.view l.pages) l.usable l.root in
    record {
      bounds : IsBounded tree;
      filling : IsFilling tree l.done l.table;
      room : HasRoom tree l.done l.table l.room;
      few : l.room ≤ l.done + 1;
    }

abbrev pub decreases-loop-no : goal.decreases-loop-no
decreases-loop-no g l =
    held_count (tree_in (g.P.PageViews.pages l.pages) (g.P.PageViews.view l.pages) l.usable l.root) - l.done
