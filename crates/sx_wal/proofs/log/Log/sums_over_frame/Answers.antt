use Rattle.std.proofs.Common.{arith}
use Rattle.sx_wal.proofs.FrameLemmas.{frame_sums}
use Rattle.sx_wal.proofs.log.Log.sums_over_frame.Goals as goal

pub returns : goal.returns
returns c =
    frame_sums _ _ _ _ _ _ c.frame_at-at.result _ _ _ _ _ c.args.self.now.order c.frame_at-at.ensures.value (omega arith) (omega arith) (omega arith) (omega arith) c.sums-head.ensures c.sums.ensures
