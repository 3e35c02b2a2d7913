-- Each turn counts the next slot.
use Rattle.std.proofs.Common.{◌<◌, length, arith}
use Rattle.sx_timeline_text.proofs.Counting.{tallied, at_most_one}
use Rattle.sx_timeline_text.proofs.tally.count_classes.Goals as goal

pub loop-i-preserved : goal.loop-i-preserved
loop-i-preserved c =
    let below : c.loop-i.i < length c.args.wal.now.slots = omega (arith, c.loop-i-test.true, c.slots-i-end.ensures) in
    record {
      counted = tallied _ _ _ _ _ _ _ _ _ _ _ _ below c.slot-class.ensures c.loop-i.invariant.counted
          c.is_committed.ensures c.one_if.ensures
          c.is_pending.ensures c.one_if-in-loop-i.ensures
          c.is_foreign.ensures c.one_if-in-loop-i-2.ensures
          c.is_broken.ensures c.one_if-in-loop-i-3.ensures;
      committed = at_most_one _ _ _ _ c.loop-i.invariant.committed c.one_if.ensures;
      pending = at_most_one _ _ _ _ c.loop-i.invariant.pending c.one_if-in-loop-i.ensures;
      foreign = at_most_one _ _ _ _ c.loop-i.invariant.foreign c.one_if-in-loop-i-2.ensures;
      broken = at_most_one _ _ _ _ c.loop-i.invariant.broken c.one_if-in-loop-i-3.ensures;
    }
