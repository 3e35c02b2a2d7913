-- What is kept while names are taken back: the sums, the pairs that lost a name, and those that fell with their last one, in
-- the order in which they fell.
use Rattle.std.specs.Prelude.{◌≡◌, ◌&&◌, ◌||◌, true, false, if◌then◌else◌, List, [], ◌∷◌, ◌++◌, fold}
use Rattle.std.specs.List.{flat_map}
use Rattle.sx_closure.specs.declared.pair.Pair.{Pair}
use Rattle.sx_closure.specs.declared.pair.Target.{Target}
use Rattle.sx_closure.specs.Graph.{is_in, is_named, Graph, is_held}
use Rattle.sx_closure.proofs.Pairs.{Apart}
use Rattle.sx_closure.proofs.Walks.{seen_by}
use Rattle.sx_follow.specs.Orders.{IsOrder}
use Rattle.sx_follow.specs.Sums.{Sums, taken, AreSums}
use Rattle.sx_follow.specs.Rising.{has_many}

pub record Fall : Type 0 where
  pub sums : Sums
  pub lost : List Pair
  pub todo : List Pair

-- one target taken back: where it was the only one that named its pair, the pair falls
unfoldable pub fell : Fall → Target → Fall
fell state target = record {
  sums = taken state.sums target;
  lost = state.lost ++ target.pair ∷ [];
  todo = if has_many 1 state.sums target.pair then state.todo ++ target.pair ∷ [] else state.todo;
}

unfoldable pub fell_all : Fall → List Target → Fall
fell_all state targets = fold fell state targets

-- with some targets still to be taken back, the sums are those of these and of what roots and reached pairs name; the
-- reached pairs are the held ones that those name, in an order but for those that lost a name or will; and those that fell
-- aren't among them
pub record IsFalling (graph : Graph) (pending : List Target) (state : Fall) : Type 0 where
  pub held_is : state.sums.held ≡ graph.held
  pub met : List Pair
  pub are : AreSums (pending ++ seen_by graph met) state.sums
  pub gone : List Pair
  pub order : IsOrder graph gone met
  pub lost : (pair : Pair) → is_in gone pair ≡ true → (is_in state.lost pair || is_named pending pair) ≡ true
  pub marked : (pair : Pair) → is_in met pair ≡ (is_named (pending ++ seen_by graph met) pair && is_held graph.held pair.page)
  pub apart : Apart state.todo
  pub fallen : (pair : Pair) → is_in state.todo pair ≡ true → is_in met pair ≡ false
  pub todo_held : (pair : Pair) → is_in state.todo pair ≡ true → is_held graph.held pair.page ≡ true

-- what the pairs that fell name is still to be taken back
abbrev pub CanFall : Graph → Fall → Type 0
CanFall graph state = IsFalling graph (flat_map graph.targets state.todo) state

-- all is taken back
abbrev pub HasFallen : Graph → Fall → Type 0
HasFallen graph state = IsFalling graph [] state
