use Rattle.std.proofs.Common.{◌≡◌, ◌<◌, ◌+◌, length, map, not, count_by, option_copied, All}
use Rattle.sx_history.specs.Marks.{AreKept, AreLinkedBut}
use Rattle.sx_history.proofs.marks.note_chains.Given as goal

abbrev pub invariant-loop-rank : goal.invariant-loop-rank
invariant-loop-rank l = record {
  chains : length l.chains.items ≡ length l.numbers;
  ranks : All (λ rank. rank < length l.numbers) l.work.items;
  linked : AreLinkedBut l.numbers (map option_copied l.views) l.chains.items l.work.items;
  kept : AreKept l.initial.chains.items l.chains.items;
}

abbrev pub decreases-loop-rank : goal.decreases-loop-rank
decreases-loop-rank l = count_by not l.chains.items + length l.work.items
