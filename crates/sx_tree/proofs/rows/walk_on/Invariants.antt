use Rattle.std.proofs.Common.{◌≡◌}
use Rattle.std.specs.Vec.{vec_capacity}
use Rattle.sx_tree.specs.Trees.{tree_in, held_count}
use Rattle.sx_tree.specs.Walks.{come, turns, IsWalk}
use Rattle.sx_tree.proofs.rows.walk_on.Given as goal

abbrev pub invariant-loop-top : goal.invariant-loop-top
invariant-loop-top g l =
    let tree = tree_in (g.P.PageViews.pages l.pages) (g.P.PageViews.view l.pages) l.usable l.root in
    record {
      walk : IsWalk tree l.table l.kind l.way.items (vec_capacity l.way);
      same : come tree (held_count tree) l.fn.way.items ≡ come tree (held_count tree) l.way.items;
    }

abbrev pub decreases-loop-top : goal.decreases-loop-top
decreases-loop-top g l =
    let tree = tree_in (g.P.PageViews.pages l.pages) (g.P.PageViews.view l.pages) l.usable l.root in
    turns tree (held_count tree) l.way.items
