use Rattle.sx_journal.proofs.Gradings.{IsRead}
use Rattle.sx_journal.proofs.walk.read_records.Given as goal

abbrev pub invariant-loop-i : goal.invariant-loop-i
invariant-loop-i l = IsRead l.bytes l.page_size l.start l.nonce l.initial.entries l.entries l.i
