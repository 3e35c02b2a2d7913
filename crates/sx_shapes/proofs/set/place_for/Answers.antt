use Rattle.sx_shapes.proofs.ShapeLemmas.{passed}
use Rattle.sx_shapes.proofs.set.place_for.Goals as goal

pub returns-else-is_before-clause-same : goal.returns-else-is_before-clause-same
returns-else-is_before-clause-same c = passed c.loop-at.at c.args.shapes.now c.args.shape c.loop-at.invariant.within c.loop-at.invariant.before

pub returns-after-loop-at-clause-same : goal.returns-after-loop-at-clause-same
returns-after-loop-at-clause-same c = passed c.loop-at.at c.args.shapes.now c.args.shape c.loop-at.invariant.within c.loop-at.invariant.before
