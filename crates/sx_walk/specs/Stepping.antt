-- What is known of a step to the next moment.
use Rattle.std.specs.Prelude.{ℕ, List, Some}
use Rattle.sx_closure.specs.Graph.{Graph, IsGraph}
use Rattle.sx_closure.specs.Tallying.{Table, IsTableOf}
use Rattle.sx_follow.specs.Sums.{Sums}
use Rattle.sx_follow.specs.Following.{HasFollowed}
use Rattle.sx_follow.specs.Widened.{widened}
use Rattle.sx_walk.specs.Walks.{SayOther}

-- the table is that of the graph, the sums are those of the graph over all numbers, and the table says another thing than before of the pages of these ranks at
-- most
pub record HasStepped (graph : Graph) (body : ℕ) (numbers : List ℕ) (before now : Table) (sums : Sums) (touched : List ℕ) : Type 0 where
  pub good : IsGraph graph
  pub wide : IsGraph (widened numbers graph)
  pub table : IsTableOf graph body now
  pub followed : HasFollowed (widened numbers graph) sums
  pub others : SayOther numbers before now (Some touched)
