use Rattle.std.proofs.Common.{length}
use Rattle.sx_prov.proofs.Claiming.{IsPut}
use Rattle.sx_prov.proofs.keyed.put_states.Given as goal

abbrev pub invariant-loop-span : goal.invariant-loop-span
invariant-loop-span l = IsPut l.content l.states l.map l.runs

abbrev pub decreases-loop-span : goal.decreases-loop-span
decreases-loop-span l = length l.runs
