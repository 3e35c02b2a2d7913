use Rattle.std.proofs.Common.{◌*◌, ◌-◌, List, length}
use Rattle.sx_closure.specs.declared.pair.Pair.{Pair}
use Rattle.sx_closure.specs.declared.pair.Target.{Target}
use Rattle.sx_follow.specs.Risen.{IsRising, CanRise}
use Rattle.sx_follow.specs.Keeping.{Keeps}
use Rattle.sx_follow.proofs.RiseLemmas.{IsRiseLoop}
use Rattle.sx_follow.proofs.rising.rise.Given as goal

-- whatever the sums were of at the start, so many of the pairs that rose have been asked; and they were of something
abbrev pub invariant-loop-pair : goal.invariant-loop-pair
invariant-loop-pair g l = record {
  can : CanRise (g.N.Names.graph l.names) l.initial.rising;
  loop : (lost base : List Pair) (first : List Target) → IsRising (g.N.Names.graph l.names) lost base first l.initial.rising
      → IsRiseLoop (g.N.Names.graph l.names) lost base first l.next l.rising;
  kept : Keeps l.initial.rising.named l.initial.rising.sums l.rising.named l.rising.sums;
}

-- the pairs that haven't been asked
abbrev pub decreases-loop-pair : goal.decreases-loop-pair
decreases-loop-pair g l = 5 * length (g.N.Names.graph l.names).held - l.next
