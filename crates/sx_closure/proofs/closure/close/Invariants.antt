use Rattle.std.proofs.Common.{◌*◌, ◌-◌, length}
use Rattle.sx_closure.proofs.Closing.{IsClosing}
use Rattle.sx_closure.proofs.closure.close.Given as goal

abbrev pub invariant-loop-pair : goal.invariant-loop-pair
invariant-loop-pair g l = IsClosing (g.L.Links.graph l.links) l.next l.tally

-- the pairs that haven't been asked
abbrev pub decreases-loop-pair : goal.decreases-loop-pair
decreases-loop-pair g l = 5 * length (g.L.Links.graph l.links).held - l.next
