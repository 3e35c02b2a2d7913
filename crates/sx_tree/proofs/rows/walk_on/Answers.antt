use Rattle.std.proofs.Common.{◌<◌, ◌∙◌, refl, arith}
use Rattle.std.specs.Vec.{vec_capacity}
use Rattle.sx_tree.specs.Trees.{tree_in, held_count}
use Rattle.sx_tree.specs.Walks.{turns}
use Rattle.sx_tree.proofs.Steps.{pushed_is, taken_walk, taken_come, taken_turns, spent_walk, spent_come, spent_turns, way_end}
use Rattle.sx_tree.proofs.rows.walk_on.Goals as goal

pub follow-requires : goal.follow-requires
follow-requires g c κs =
    let tree = tree_in (g.P.PageViews.pages c.args.pages.now) (g.P.PageViews.view c.args.pages.now) c.args.usable c.args.root in
    let put = pushed_is c.pop.new.self.items c.push.new.self.items c.advance.new.self c.push.result c.unwrap.result c.push.ensures.items c.unwrap.ensures in
    let both = taken_walk tree c.args.table.now c.args.kind c.loop-top.way.items c.pop.new.self.items c.push.new.self.items c.in-Some.top c.advance.new.self c.in-Some-advance.part
    (vec_capacity c.loop-top.way) (vec_capacity c.push.new.self) c.loop-top.invariant.walk c.in-Some.ensures.items put c.in-Some-advance.ensures.part c.advance.ensures.page (omega (arith, c.in-Some.ensures.capacity, c.push.ensures.capacity)) in
    ((refl, tt), (c.requires.least, (c.requires.within, (c.requires.small, both))))

pub returns-in-Some-follow-clause-item : goal.returns-in-Some-follow-clause-item
returns-in-Some-follow-clause-item g c =
    let tree = tree_in (g.P.PageViews.pages c.args.pages.now) (g.P.PageViews.view c.args.pages.now) c.args.usable c.args.root in
    let put = pushed_is c.pop.new.self.items c.push.new.self.items c.advance.new.self c.push.result c.unwrap.result c.push.ensures.items c.unwrap.ensures in
    c.loop-top.invariant.same
    ∙ taken_come tree c.loop-top.way.items c.pop.new.self.items c.push.new.self.items c.in-Some.top c.advance.new.self c.in-Some-advance.part
    c.in-Some.ensures.items put c.in-Some-advance.ensures.part
    ∙ c.in-Some-follow.ensures.item.items

pub loop-top-smaller-in_default-follow : goal.loop-top-smaller-in_default-follow
loop-top-smaller-in_default-follow g c =
    let tree = tree_in (g.P.PageViews.pages c.args.pages.now) (g.P.PageViews.view c.args.pages.now) c.args.usable c.args.root in
    let put = pushed_is c.pop.new.self.items c.push.new.self.items c.advance.new.self c.push.result c.unwrap.result c.push.ensures.items c.unwrap.ensures in
    let taken = taken_turns tree c.loop-top.way.items c.pop.new.self.items c.push.new.self.items c.in-Some.top c.advance.new.self c.in-Some-advance.part
    c.in-Some.ensures.items put c.in-Some-advance.ensures.part in
    let less : turns tree (held_count tree) c.follow.new.way.items < turns tree (held_count tree) c.loop-top.way.items
    = omega (arith, taken, c.follow.ensures.item.turns) in
    less

pub loop-top-preserved-in_default-follow : goal.loop-top-preserved-in_default-follow
loop-top-preserved-in_default-follow g c =
    let tree = tree_in (g.P.PageViews.pages c.args.pages.now) (g.P.PageViews.view c.args.pages.now) c.args.usable c.args.root in
    let put = pushed_is c.pop.new.self.items c.push.new.self.items c.advance.new.self c.push.result c.unwrap.result c.push.ensures.items c.unwrap.ensures in
    record {
      walk = c.follow.ensures.walk;
      same = c.loop-top.invariant.same
          ∙ taken_come tree c.loop-top.way.items c.pop.new.self.items c.push.new.self.items c.in-Some.top c.advance.new.self c.in-Some-advance.part
          c.in-Some.ensures.items put c.in-Some-advance.ensures.part
          ∙ c.in_default-follow.ensures.item.items;
    }

pub loop-top-smaller : goal.loop-top-smaller
loop-top-smaller g c =
    let tree = tree_in (g.P.PageViews.pages c.args.pages.now) (g.P.PageViews.view c.args.pages.now) c.args.usable c.args.root in
    spent_turns tree c.loop-top.way.items c.pop.new.self.items c.in-Some.top c.in-Some.ensures.items

pub loop-top-preserved : goal.loop-top-preserved
loop-top-preserved g c =
    let tree = tree_in (g.P.PageViews.pages c.args.pages.now) (g.P.PageViews.view c.args.pages.now) c.args.usable c.args.root in
    record {
      walk = spent_walk tree c.args.table.now c.args.kind c.loop-top.way.items c.pop.new.self.items c.in-Some.top
          (vec_capacity c.loop-top.way) (vec_capacity c.pop.new.self) c.loop-top.invariant.walk c.in-Some.ensures.items c.in-Some.ensures.capacity;
      same = c.loop-top.invariant.same
          ∙ spent_come tree c.loop-top.way.items c.pop.new.self.items c.in-Some.top c.in-Some.ensures.items c.in_default-advance.ensures.end;
    }

pub returns-clause-item : goal.returns-clause-item
returns-clause-item g c =
    let tree = tree_in (g.P.PageViews.pages c.args.pages.now) (g.P.PageViews.view c.args.pages.now) c.args.usable c.args.root in
    way_end tree c.args.way.now.items c.loop-top.way.items c.pop.new.self.items _ c.loop-top.invariant.same c.in_default.ensures.items c.in_default.ensures.cases.1 c.pop.new.self.ok.0
