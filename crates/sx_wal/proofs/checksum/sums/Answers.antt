use Rattle.std.proofs.Common.{rules}
use Rattle.sx_wal.specs.Checksum.{sums_of}
use Rattle.sx_wal.proofs.ChecksumLemmas.{loop_more}
use Rattle.sx_wal.proofs.checksum.sums.Goals as goal

pub loop-pair-init : goal.loop-pair-init
unfolding sums_of
loop-pair-init c = search rules

pub loop-pair-preserved : goal.loop-pair-preserved
loop-pair-preserved c = loop_more _ _ _ _ _ _ _ _ _ c.loop-pair-test.true c.ordered_word-x.ensures c.ordered_word-y.ensures c.loop-pair.invariant
