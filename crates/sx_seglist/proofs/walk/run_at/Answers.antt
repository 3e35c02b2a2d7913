use Rattle.std.proofs.Common.{arith}
use Rattle.sx_seglist.proofs.Walking.{none_ahead, ahead}
use Rattle.sx_seglist.proofs.walk.run_at.Goals as goal

pub returns-then-index-eq-END : goal.returns-then-index-eq-END
returns-then-index-eq-END c = none_ahead c.args.items.now c.args.index c.if-index-eq-END.true

pub overflow_sub-span : goal.overflow_sub-span
overflow_sub-span c = let rises = (ahead c.args.items.now c.args.index c.if-index-eq-END.false c.requires).rises in omega arith

pub returns : goal.returns
returns c = let found = ahead c.args.items.now c.args.index c.if-index-eq-END.false c.requires in record { linked = found.linked; runs = found.runs }
