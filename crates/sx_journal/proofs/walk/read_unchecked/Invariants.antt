use Rattle.sx_journal.proofs.Gradings.{AreUnchecked}
use Rattle.sx_journal.proofs.walk.read_unchecked.Given as goal

abbrev pub invariant-loop-i : goal.invariant-loop-i
invariant-loop-i l = AreUnchecked l.bytes l.page_size l.start l.entries l.i
