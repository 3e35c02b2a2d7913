use Rattle.std.proofs.Common.{◌≡◌, ◌<◌, ◌++◌, List, length, All}
use Rattle.sx_node.specs.declared.targets.NodeTarget.{NodeTarget}
use Rattle.sx_history.specs.Closed.{IsNamed}
use Rattle.sx_history.specs.Marks.{Grows, IsNoted}
use Rattle.sx_history.proofs.marks.note_targets.Given as goal

abbrev pub invariant-loop-target : goal.invariant-loop-target
invariant-loop-target l = record {
  iterator : (goal.iterator-loop-target).can_next l.targets × (goal.iterator-loop-target).is_finite l.targets;
  nodes : length l.nodes.items ≡ length l.numbers;
  chains : length l.chains.items ≡ length l.numbers;
  ranks : All (λ rank. rank < length l.numbers) l.work.items;
  later : All (λ rank. rank < length l.numbers) l.later.items;
  grown : Grows l.initial.nodes.items l.nodes.items l.initial.work.items l.work.items;
  chained : Grows l.initial.chains.items l.chains.items l.initial.later.items l.later.items;
  named : (gone : List NodeTarget) × (l.initial.targets ≡ gone ++ l.targets) × All (IsNamed (IsNoted l.numbers l.nodes.items) (IsNoted l.numbers l.chains.items)) gone;
}
