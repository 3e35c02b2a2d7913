use Rattle.std.proofs.Common.{arith}
use Rattle.sx_seglist.proofs.Loops.{cut_at_start, cut_at_next, cut_inside, next_there, pushed_is}
use Rattle.sx_seglist.proofs.links.cut.Goals as goal

pub index-requires : goal.index-requires
index-requires c = let ok = c.args.items.now.ok in let there = next_there c.args.items.now.items c.args.whole c.index-segment.result.now c.requires.list c.requires.live c.requires.before_end c.index-segment.ensures in omega (arith, ok, there)

pub returns-then-segment-at-clause-cut : goal.returns-then-segment-at-clause-cut
returns-then-segment-at-clause-cut c =
    cut_at_start c.args.items.now.items c.args.whole c.args.at c.index-segment.result.now c.requires.list c.requires.live c.index-segment.ensures c.if-segment-at.true

pub returns-then-index-at-clause-cut : goal.returns-then-index-at-clause-cut
returns-then-index-at-clause-cut c =
    cut_at_next c.args.items.now.items c.args.whole c.args.at c.index-segment.result.now c.index.result.now c.requires.list c.requires.live c.requires.before_end
    c.index-segment.ensures c.index.ensures c.if-index-at.true

pub returns-clause-cut : goal.returns-clause-cut
returns-clause-cut c =
    cut_inside c.args.items.now.items c.push.new.self.items c.args.whole c.args.at c.len-behind.result c.index-segment.result.now c.index.result.now
    c.requires.list c.requires.live c.requires.before_end c.requires.begins c.requires.ends c.index-segment.ensures c.index.ensures c.if-segment-at.false c.if-index-at.false
    (omega (arith, c.args.items.now.ok, c.len-behind.ensures)) (pushed_is c.push.result _ _ _ (c.push.ensures.succeeds c.requires.room) c.push.ensures.items)
