-- What holds while pairs rise, and what in the end.
use Rattle.std.specs.Prelude.{◌≡◌, ◌&&◌, ◌||◌, true, false, List, ◌++◌}
use Rattle.std.specs.List.{flat_map}
use Rattle.sx_closure.specs.declared.pair.Pair.{Pair}
use Rattle.sx_closure.specs.declared.pair.Target.{Target}
use Rattle.sx_closure.specs.Graph.{is_in, is_named, Graph, is_held}
use Rattle.sx_follow.specs.Sums.{AreSums}
use Rattle.sx_follow.specs.Rising.{Rise}
use Rattle.sx_closure.proofs.Pairs.{Apart}
use Rattle.sx_follow.specs.Orders.{IsOrder}

-- the sums are those of some targets; the pairs that rose and those that were reached before are the held pairs that those
-- name, in an order
pub record IsRising (graph : Graph) (lost base : List Pair) (seen : List Target) (state : Rise) : Type 0 where
  pub held_is : state.sums.held ≡ graph.held
  pub are : AreSums seen state.sums
  pub met : List Pair
  pub order : IsOrder graph lost met
  pub parts : (pair : Pair) → is_in met pair ≡ (is_in state.todo pair || is_in base pair)
  pub marked : (pair : Pair) → is_in met pair ≡ (is_named seen pair && is_held graph.held pair.page)
  pub apart : Apart state.todo
  pub new : (pair : Pair) → is_in state.todo pair ≡ true → is_in base pair ≡ false

-- so it is of some targets
pub record CanRise (graph : Graph) (state : Rise) : Type 0 where
  pub lost : List Pair
  pub base : List Pair
  pub first : List Target
  pub rising : IsRising graph lost base first state

-- what the pairs that rose name was counted besides
abbrev pub HasRisen : Graph → List Pair → List Pair → List Target → Rise → Type 0
HasRisen graph lost base first state = IsRising graph lost base (flat_map graph.targets state.todo ++ first) state
