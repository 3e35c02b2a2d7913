use Rattle.std.proofs.Common.{◌∙◌, refl, arith}
use Rattle.std.specs.Vec.{vec_capacity}
use Rattle.sx_tree.specs.Trees.{tree_in}
use Rattle.sx_tree.proofs.Steps.{pushed_is, root_held, root_opens, root_enters, root_page, root_refused, open_number, walk_room_first, empty_walk}
use Rattle.sx_tree.proofs.rows.enter_root.Goals as goal

pub open-requires : goal.open-requires
open-requires g c κs =
    let tree = tree_in (g.P.PageViews.pages c.args.pages.now) (g.P.PageViews.view c.args.pages.now) c.args.usable c.args.root in
    let asked = c.named_again-shared.ensures ∙ c.requires.walk.says c.args.root in (
      (refl, tt),
      (
        c.requires.least,
        (
          c.requires.within,
          (
            c.requires.small,
            root_held tree c.args.table.now c.args.kind _ c.named_again-shared.result c.requires.walk asked,
          ),
        ),
      ),
    )

pub start-requires : goal.start-requires
start-requires g c =
    let tree = tree_in (g.P.PageViews.pages c.args.pages.now) (g.P.PageViews.view c.args.pages.now) c.args.usable c.args.root in
    let asked = c.named_again-shared.ensures ∙ c.requires.walk.says c.args.root in
    let opens = root_opens tree c.args.table.now c.args.kind _ c.named_again-shared.result c.open.result c.requires.walk asked c.open.ensures in
    open_number tree c.args.root c.in-Ok.node (opens ∙ c.in-Ok.is)

pub unwrap-requires : goal.unwrap-requires
unwrap-requires g c =
    let tree = tree_in (g.P.PageViews.pages c.args.pages.now) (g.P.PageViews.view c.args.pages.now) c.args.usable c.args.root in
    let asked = c.named_again-shared.ensures ∙ c.requires.walk.says c.args.root in
    let opens = root_opens tree c.args.table.now c.args.kind _ c.named_again-shared.result c.open.result c.requires.walk asked c.open.ensures in
    let room = walk_room_first tree c.args.table.now c.args.kind c.args.way.now.items _ c.start.result c.in-Ok.node
    c.requires.walk (opens ∙ c.in-Ok.is) c.start.ensures.page c.start.ensures.rest c.requires.empty in
    c.push.ensures.succeeds (omega (arith, c.args.way.now.ok.0, room))

pub returns-in-Ok-clause-walk : goal.returns-in-Ok-clause-walk
returns-in-Ok-clause-walk g c =
    let tree = tree_in (g.P.PageViews.pages c.args.pages.now) (g.P.PageViews.view c.args.pages.now) c.args.usable c.args.root in
    let asked = c.named_again-shared.ensures ∙ c.requires.walk.says c.args.root in
    let opens = root_opens tree c.args.table.now c.args.kind _ c.named_again-shared.result c.open.result c.requires.walk asked c.open.ensures in
    let pushed = pushed_is c.args.way.now.items c.push.new.self.items c.start.result c.push.result c.unwrap.result c.push.ensures.items c.unwrap.ensures in
    root_enters tree c.args.table.now c.args.kind c.args.way.now.items c.push.new.self.items _ (vec_capacity c.push.new.self) c.start.result c.in-Ok.node
    c.requires.walk (opens ∙ c.in-Ok.is) c.start.ensures.page c.start.ensures.rest c.requires.empty pushed c.push.ensures.capacity

pub returns-in-Ok-clause-items : goal.returns-in-Ok-clause-items
returns-in-Ok-clause-items g c =
    let tree = tree_in (g.P.PageViews.pages c.args.pages.now) (g.P.PageViews.view c.args.pages.now) c.args.usable c.args.root in
    let asked = c.named_again-shared.ensures ∙ c.requires.walk.says c.args.root in
    let opens = root_opens tree c.args.table.now c.args.kind _ c.named_again-shared.result c.open.result c.requires.walk asked c.open.ensures in
    let pushed = pushed_is c.args.way.now.items c.push.new.self.items c.start.result c.push.result c.unwrap.result c.push.ensures.items c.unwrap.ensures in
    root_page tree c.args.way.now.items c.push.new.self.items c.start.result c.in-Ok.node (opens ∙ c.in-Ok.is) c.start.ensures.rest c.requires.empty pushed

pub returns-in-Err-clause-walk : goal.returns-in-Err-clause-walk
returns-in-Err-clause-walk g c =
    let tree = tree_in (g.P.PageViews.pages c.args.pages.now) (g.P.PageViews.view c.args.pages.now) c.args.usable c.args.root in
    empty_walk tree c.args.table.now c.args.kind c.args.way.now.items _ c.requires.walk c.requires.empty

pub returns-in-Err-clause-items : goal.returns-in-Err-clause-items
returns-in-Err-clause-items g c =
    let tree = tree_in (g.P.PageViews.pages c.args.pages.now) (g.P.PageViews.view c.args.pages.now) c.args.usable c.args.root in
    let asked = c.named_again-shared.ensures ∙ c.requires.walk.says c.args.root in
    let opens = root_opens tree c.args.table.now c.args.kind _ c.named_again-shared.result c.open.result c.requires.walk asked c.open.ensures in
    root_refused tree c.args.way.now.items c.in-Err.fault (opens ∙ c.in-Err.is) c.requires.empty
