use Rattle.std.proofs.Common.{length}
use Rattle.sx_journal.proofs.Walked.{IsWalked}
use Rattle.sx_journal.proofs.Walks.{left}
use Rattle.sx_journal.proofs.walk.read_segments.Given as goal

abbrev pub invariant-loop-next : goal.invariant-loop-next
invariant-loop-next l = IsWalked l.bytes l.page_size l.sector l.next l.segments.items l.entries

abbrev pub decreases-loop-next : goal.decreases-loop-next
decreases-loop-next l = left (length l.bytes) l.next
