use Rattle.sx_wal.proofs.WalkLemmas.{Walked}
use Rattle.sx_wal.proofs.read.read_slots.Given as goal

abbrev pub invariant-loop-i : goal.invariant-loop-i
invariant-loop-i l = Walked l.log.page_size l.log.bytes.now l.slots.items l.commits.items l.committed l.run l.i
