use Rattle.std.proofs.Common.{◌<◌, ◌++◌, length, refl, arith}
use Rattle.std.specs.Vec.{vec_capacity}
use Rattle.sx_tree.specs.Trees.{tree_in, held_count, tree_pages}
use Rattle.sx_tree.specs.Walks.{come, root_fault, namers}
use Rattle.sx_tree.proofs.Rounds.{bounds_are}
use Rattle.sx_tree.proofs.Few.{rows_small}
use Rattle.sx_tree.proofs.Steps.{walk_start, kind_is}
use Rattle.sx_tree.proofs.rows.Rows.start.Goals as goal

pub enter_root-fault-requires : goal.enter_root-fault-requires
enter_root-fault-requires g c κs =
    let tree = tree_in (g.P.PageViews.pages c.args.pages.now) (g.P.PageViews.view c.args.pages.now) c.args.usable c.args.root in
    let bounds = bounds_are tree c.size-size.result c.size-size.ensures.size c.size-size.ensures.within c.size-size.ensures.from_one in
    let room : length (namers tree (tree_pages tree)) < vec_capacity c.in_ok-way.way
    = omega (arith, c.in_ok-table.ensures.enough, c.in_ok-way.ensures.capacity) in
    let walk = walk_start tree c.in_ok-table.table c.kind_at-kind.result (vec_capacity c.in_ok-way.way) bounds
    c.in_ok-table.ensures.says (kind_is tree c.kind_at-kind.result c.kind_at-kind.ensures) room in
    ((refl, tt), (c.requires.least, (c.requires.within, (c.requires.small, (walk, c.in_ok-way.ensures.items)))))

pub returns-clause-few : goal.returns-clause-few
returns-clause-few g c =
    let tree = tree_in (g.P.PageViews.pages c.args.pages.now) (g.P.PageViews.view c.args.pages.now) c.args.usable c.args.root in
    let bounds = bounds_are tree c.size-size.result c.size-size.ensures.size c.size-size.ensures.within c.size-size.ensures.from_one in
    rows_small tree (root_fault c.args.root c.enter_root-fault.result ++ come tree (held_count tree) c.enter_root-fault.new.way.items) bounds
    (omega (arith, c.requires.within, c.requires.small)) (omega (arith, c.size-size.ensures.size)) c.enter_root-fault.ensures.items
