use Rattle.std.proofs.Common.{false, arith}
use Rattle.sx_shapes.specs.Shapes.{shape_key}
use Rattle.sx_shapes.proofs.ShapeLemmas.{there_is, end_is}
use Rattle.sx_shapes.proofs.set.is_there.Goals as goal

pub returns-then-at-shapes : goal.returns-then-at-shapes
returns-then-at-shapes c = end_is c.args.shapes.now c.args.at c.args.shape (omega (arith, c.if-at-shapes.true))

pub returns : goal.returns
returns c =
    there_is c.args.shapes.now c.args.at c.args.shape (shape_key 0 false) c.is_before.result (omega (arith, c.if-at-shapes.false, c.requires.within)) (c.requires.stop (omega (arith, c.if-at-shapes.false, c.requires.within))) c.is_before.ensures
