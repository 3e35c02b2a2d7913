use Rattle.std.proofs.Common.{◌≡◌}
use Rattle.sx_node.specs.Claims.{cell_claims_from}
use Rattle.sx_node.proofs.claims.next_readable.Given as goal

abbrev pub invariant-loop-i : goal.invariant-loop-i
invariant-loop-i l = cell_claims_from l.node l.from ≡ cell_claims_from l.node l.i
