-- The claims that stand in front of the cells, from each of them on.
use Rattle.std.specs.Prelude.{List, [], ◌++◌}
use Rattle.sx_node.specs.declared.claims.FixedPart.{FixedPart}
use Rattle.sx_node.specs.declared.claims.FixedPart.TheVariants.{Database, Header, Array, Done}
use Rattle.sx_node.specs.Nodes.{NodePage}
use Rattle.sx_node.specs.Claims.{Claim, database_claims, header_claims, array_claims}

-- the claims from that part on
abbrev pub fixed_from : NodePage → FixedPart → List Claim
fixed_from node Database = database_claims node ++ (header_claims node ++ array_claims node)
fixed_from node Header = header_claims node ++ array_claims node
fixed_from node Array = array_claims node
fixed_from node Done = []
