use Rattle.sx_seglist.specs.Links.{start_of}
use Rattle.sx_seglist.proofs.Loops.{raising_set, raising_nearer}
use Rattle.sx_seglist.proofs.links.raise.Goals as goal

pub loop-items-preserved : goal.loop-items-preserved
loop-items-preserved c =
    raising_set c.args.items.now c.loop-items.items (start_of c.args.items.now c.args.first) c.loop-items.index c.args.end c.args.label c.once_more.result
    c.requires.end c.loop-items.invariant c.loop-items-test.true c.once_more.ensures

pub loop-items-smaller : goal.loop-items-smaller
loop-items-smaller c =
    raising_nearer c.args.items.now c.loop-items.items (start_of c.args.items.now c.args.first) c.loop-items.index c.args.end c.args.label c.once_more.result
    c.requires.end c.loop-items.invariant c.loop-items-test.true c.once_more.ensures
