use Rattle.std.proofs.Common.{◌*◌, ◌-◌, length}
use Rattle.sx_follow.specs.Keeping.{Keeps}
use Rattle.sx_follow.proofs.FallLemmas.{IsFallLoop}
use Rattle.sx_follow.proofs.falling.fall.Given as goal

abbrev pub invariant-loop-pair : goal.invariant-loop-pair
invariant-loop-pair g l = record {
  loop : IsFallLoop (g.N.Names.graph l.names) l.next l.falling;
  kept : Keeps l.initial.falling.lost l.initial.falling.sums l.falling.lost l.falling.sums;
}

-- the pairs that haven't been asked
abbrev pub decreases-loop-pair : goal.decreases-loop-pair
decreases-loop-pair g l = 5 * length (g.N.Names.graph l.names).held - l.next
