use Rattle.std.proofs.Common.{◌++◌, [], ◌∷◌, ◌∙◌, le_refl, refl, arith}
use Rattle.std.specs.Vec.{vec_capacity}
use Rattle.sx_tree.specs.Trees.{tree_in}
use Rattle.sx_tree.proofs.Steps.{pushed_is, asked_held, asked_opens, asked_enters, asked_fault, asked_page, open_number, walk_room}
use Rattle.sx_tree.proofs.rows.follow.Goals as goal

pub open-requires : goal.open-requires
open-requires g c κs =
    let tree = tree_in (g.P.PageViews.pages c.args.pages.now) (g.P.PageViews.view c.args.pages.now) c.args.usable c.args.root in
    let asked = c.named_again-shared.ensures ∙ c.requires.walk.says c.in-Child.no in (
      (refl, tt),
      (
        c.requires.least,
        (
          c.requires.within,
          (
            c.requires.small,
            asked_held tree c.args.table.now c.args.kind c.args.way.now.items _ c.in-Child.no c.args.part c.named_again-shared.result
                c.requires.walk c.requires.named c.in-Child.is asked,
          ),
        ),
      ),
    )

pub start-requires : goal.start-requires
start-requires g c =
    let tree = tree_in (g.P.PageViews.pages c.args.pages.now) (g.P.PageViews.view c.args.pages.now) c.args.usable c.args.root in
    let asked = c.named_again-shared.ensures ∙ c.requires.walk.says c.in-Child.no in
    let opens = asked_opens tree c.args.table.now c.args.kind c.args.way.now.items _ c.in-Child.no c.args.part c.named_again-shared.result c.open.result
    c.requires.walk c.requires.named c.in-Child.is asked c.open.ensures in
    open_number tree c.in-Child.no c.in-Ok.node (opens ∙ c.in-Ok.is)

pub unwrap-requires : goal.unwrap-requires
unwrap-requires g c =
    let tree = tree_in (g.P.PageViews.pages c.args.pages.now) (g.P.PageViews.view c.args.pages.now) c.args.usable c.args.root in
    let asked = c.named_again-shared.ensures ∙ c.requires.walk.says c.in-Child.no in
    let opens = asked_opens tree c.args.table.now c.args.kind c.args.way.now.items _ c.in-Child.no c.args.part c.named_again-shared.result c.open.result
    c.requires.walk c.requires.named c.in-Child.is asked c.open.ensures in
    let entered = asked_enters tree c.args.table.now c.args.kind c.args.way.now.items (c.args.way.now.items ++ c.start.result ∷ []) _ _ c.in-Child.no c.args.part c.start.result c.in-Ok.node
    c.requires.walk c.requires.named c.in-Child.is (opens ∙ c.in-Ok.is) c.start.ensures.page c.start.ensures.rest refl (le_refl _) in
    let room = walk_room tree c.args.table.now c.args.kind c.args.way.now.items c.start.result _ entered in
    c.push.ensures.succeeds (omega (arith, c.args.way.now.ok.0, room))

pub returns-in-Err-clause-item : goal.returns-in-Err-clause-item
returns-in-Err-clause-item g c =
    let tree = tree_in (g.P.PageViews.pages c.args.pages.now) (g.P.PageViews.view c.args.pages.now) c.args.usable c.args.root in
    let asked = c.named_again-shared.ensures ∙ c.requires.walk.says c.in-Child.no in
    let opens = asked_opens tree c.args.table.now c.args.kind c.args.way.now.items _ c.in-Child.no c.args.part c.named_again-shared.result c.open.result
    c.requires.walk c.requires.named c.in-Child.is asked c.open.ensures in
    asked_fault tree c.args.table.now c.args.kind c.args.way.now.items _ c.in-Child.no c.args.part c.in-Err.kind
    c.requires.walk c.in-Child.is (opens ∙ c.in-Err.is)

pub returns-in-Ok-clause-walk : goal.returns-in-Ok-clause-walk
returns-in-Ok-clause-walk g c =
    let tree = tree_in (g.P.PageViews.pages c.args.pages.now) (g.P.PageViews.view c.args.pages.now) c.args.usable c.args.root in
    let asked = c.named_again-shared.ensures ∙ c.requires.walk.says c.in-Child.no in
    let opens = asked_opens tree c.args.table.now c.args.kind c.args.way.now.items _ c.in-Child.no c.args.part c.named_again-shared.result c.open.result
    c.requires.walk c.requires.named c.in-Child.is asked c.open.ensures in
    let pushed = pushed_is c.args.way.now.items c.push.new.self.items c.start.result c.push.result c.unwrap.result c.push.ensures.items c.unwrap.ensures in
    asked_enters tree c.args.table.now c.args.kind c.args.way.now.items c.push.new.self.items _ (vec_capacity c.push.new.self) c.in-Child.no c.args.part c.start.result c.in-Ok.node
    c.requires.walk c.requires.named c.in-Child.is (opens ∙ c.in-Ok.is) c.start.ensures.page c.start.ensures.rest pushed c.push.ensures.capacity

pub returns-in-Ok-clause-item : goal.returns-in-Ok-clause-item
returns-in-Ok-clause-item g c =
    let tree = tree_in (g.P.PageViews.pages c.args.pages.now) (g.P.PageViews.view c.args.pages.now) c.args.usable c.args.root in
    let asked = c.named_again-shared.ensures ∙ c.requires.walk.says c.in-Child.no in
    let opens = asked_opens tree c.args.table.now c.args.kind c.args.way.now.items _ c.in-Child.no c.args.part c.named_again-shared.result c.open.result
    c.requires.walk c.requires.named c.in-Child.is asked c.open.ensures in
    let pushed = pushed_is c.args.way.now.items c.push.new.self.items c.start.result c.push.result c.unwrap.result c.push.ensures.items c.unwrap.ensures in
    asked_page tree c.args.table.now c.args.kind c.args.way.now.items c.push.new.self.items _ c.in-Child.no c.args.part c.start.result c.in-Ok.node
    c.requires.walk c.in-Child.is (opens ∙ c.in-Ok.is) c.start.ensures.rest pushed
