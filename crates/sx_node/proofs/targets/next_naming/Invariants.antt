use Rattle.std.proofs.Common.{◌≡◌}
use Rattle.sx_node.specs.Targets.{cell_targets_from}
use Rattle.sx_node.proofs.targets.next_naming.Given as goal

abbrev pub invariant-loop-i : goal.invariant-loop-i
invariant-loop-i l = cell_targets_from l.node l.from ≡ cell_targets_from l.node l.i
