use Rattle.std.proofs.Common.{arith}
use Rattle.sx_tally.proofs.Spans.{front_step, front_end}
use Rattle.sx_tally.proofs.nodes.front.Goals as goal

pub overflow_add-total : goal.overflow_add-total
overflow_add-total c =
    let step = front_step c.args.sums.now c.args.len c.args.end c.loop-low.total c.loop-low.low c.loop-low.high c.odd.result c.odd-in-loop-low.result c.requires.tallied c.requires.within
    c.loop-low-test.true (c.loop-low.invariant.first c.loop-low-test.true) c.loop-low.invariant.top c.loop-low.invariant.so_far c.odd.ensures c.odd-in-loop-low.ensures in
    omega (arith, step.0)

pub overflow_add-total-in-loop-low : goal.overflow_add-total-in-loop-low
overflow_add-total-in-loop-low c =
    let step = front_step c.args.sums.now c.args.len c.args.end c.loop-low.total c.loop-low.low c.loop-low.high c.odd.result c.odd-in-loop-low.result c.requires.tallied c.requires.within
    c.loop-low-test.true (c.loop-low.invariant.first c.loop-low-test.true) c.loop-low.invariant.top c.loop-low.invariant.so_far c.odd.ensures c.odd-in-loop-low.ensures in
    omega (arith, step.0)

pub loop-low-preserved : goal.loop-low-preserved
loop-low-preserved c =
    let step = front_step c.args.sums.now c.args.len c.args.end c.loop-low.total c.loop-low.low c.loop-low.high c.odd.result c.odd-in-loop-low.result c.requires.tallied c.requires.within
    c.loop-low-test.true (c.loop-low.invariant.first c.loop-low-test.true) c.loop-low.invariant.top c.loop-low.invariant.so_far c.odd.ensures c.odd-in-loop-low.ensures in
    let first = c.loop-low.invariant.first c.loop-low-test.true in
    record {
      order = omega (arith, c.loop-low-test.true);
      first = λ below. omega (arith, first);
      top = omega (arith, c.loop-low.invariant.top);
      so_far = step.1;
    }

pub returns : goal.returns
returns c =
    front_end c.args.sums.now c.args.len c.args.end c.loop-low.total c.loop-low.low c.loop-low.high c.requires.tallied c.requires.within
    c.loop-low.invariant.order c.loop-low-test.false c.loop-low.invariant.so_far
