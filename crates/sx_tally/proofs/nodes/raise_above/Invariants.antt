use Rattle.std.proofs.Common.{◌≡◌, drop}
use Rattle.sx_tally.specs.Tallied.{IsRaising}
use Rattle.sx_tally.proofs.nodes.raise_above.Given as goal

abbrev pub invariant-loop-node : goal.invariant-loop-node
invariant-loop-node l = record {
  raising : IsRaising l.len l.node l.sums;
  counts : drop l.len l.sums ≡ drop l.len l.fn.sums;
}

abbrev pub decreases-loop-node : goal.decreases-loop-node
decreases-loop-node l = l.node
