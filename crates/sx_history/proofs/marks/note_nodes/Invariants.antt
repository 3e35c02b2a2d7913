use Rattle.std.proofs.Common.{◌≡◌, ◌<◌, ◌+◌, length, map, not, count_by, option_copied, All}
use Rattle.sx_history.specs.Marks.{AreKept, AreNamedBut, Grows}
use Rattle.sx_history.proofs.marks.note_nodes.Given as goal

abbrev pub invariant-loop-rank : goal.invariant-loop-rank
invariant-loop-rank l = record {
  nodes : length l.nodes.items ≡ length l.numbers;
  chains : length l.chains.items ≡ length l.numbers;
  ranks : All (λ rank. rank < length l.numbers) l.work.items;
  later : All (λ rank. rank < length l.numbers) l.later.items;
  named : AreNamedBut l.numbers (map option_copied l.views) l.usable l.nodes.items l.chains.items l.work.items;
  kept : AreKept l.initial.nodes.items l.nodes.items;
  chained : Grows l.initial.chains.items l.chains.items l.initial.later.items l.later.items;
}

abbrev pub decreases-loop-rank : goal.decreases-loop-rank
decreases-loop-rank l = count_by not l.nodes.items + length l.work.items
