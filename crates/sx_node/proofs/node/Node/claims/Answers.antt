-- What holds of each page that was read says where its claims lie and that they are few.
use Rattle.std.proofs.Common.{subst}
use Rattle.sx_node.specs.Nodes.{HoldsArray}
use Rattle.sx_node.proofs.ClaimLemmas.{claims_lie, few_claims}
use Rattle.sx_node.proofs.node.Node.claims.Goals as goal

pub returns-clause-few : goal.returns-clause-few
returns-clause-few c = few_claims c.args.self.now (subst HoldsArray c.self.view_is c.self.invariant)

pub returns-clause-within : goal.returns-clause-within
returns-clause-within c = claims_lie c.args.self.now (subst HoldsArray c.self.view_is c.self.invariant)
