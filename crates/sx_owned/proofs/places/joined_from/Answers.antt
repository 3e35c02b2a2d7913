-- The next run begins behind what was joined, is joined too, or isn't there.
use Rattle.std.proofs.Common.{rules}
use Rattle.sx_owned.proofs.Adding.{joined_here, joined_more, joined_end}
use Rattle.sx_owned.proofs.places.joined_from.Goals as goal

pub returns-then-all-next-clause-joined : goal.returns-then-all-next-clause-joined
returns-then-all-next-clause-joined c =
    joined_here c.args.runs.now c.loop-next.left.now c.in-Some.others.now c.args.run c.loop-next.all c.in-Some.next.now c.loop-next.touched c.in-Some.ensures.cases.0 c.if-all-next.true c.loop-next.invariant

pub loop-next-preserved : goal.loop-next-preserved
loop-next-preserved c =
    joined_more c.args.runs.now c.loop-next.left.now c.in-Some.others.now c.args.run c.loop-next.all c.in-Some.next.now (record { start = c.min.result; end = c.max.result }) c.loop-next.touched
    c.in-Some.ensures.cases.0 c.if-all-next.false (search rules) c.loop-next.invariant

pub returns-clause-joined : goal.returns-clause-joined
returns-clause-joined c = joined_end c.args.runs.now c.loop-next.left.now c.args.run c.loop-next.all c.loop-next.touched (search rules) c.loop-next.invariant
