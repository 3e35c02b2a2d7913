use Rattle.std.proofs.Common.{ap, arith, eqb}
use Rattle.sx_wal.proofs.FrameLemmas.{frame_sums}
use Rattle.sx_generations.proofs.continuing.Frames.sums_over.Goals as goal

pub returns : goal.returns
returns c =
    frame_sums _ _ _ _ _ _ c.frame_at-at.result _ _ _ _ _ (ap (λ n. eqb n 931071619) c.be32-big.ensures) c.frame_at-at.ensures.value (omega arith) (omega arith) (omega arith) (omega arith) c.sums-head.ensures c.sums.ensures
