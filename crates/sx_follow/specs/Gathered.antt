-- What comes and what goes between two graphs, gathered pair by pair.
use Rattle.std.specs.Prelude.{◌≡◌, ◌||◌, true, List, ◌++◌}
use Rattle.std.specs.List.{flat_map}
use Rattle.std.specs.List.Sorted.{IsPermutation}
use Rattle.sx_closure.specs.declared.pair.Pair.{Pair}
use Rattle.sx_closure.specs.declared.pair.Target.{Target}
use Rattle.sx_closure.specs.Graph.{is_in, is_named, Graph}
use Rattle.sx_closure.proofs.Walks.{seen_by}

-- what comes and what goes between two lists: with what comes the old targets are the new ones with what goes; a pair that
-- the old ones name goes or is named by the new ones; and what comes is named by the new ones
pub record IsChange (old new come gone : List Target) : Type 0 where
  pub counted : IsPermutation (come ++ old) (gone ++ new)
  pub lost : (pair : Pair) → is_named old pair ≡ true → (is_named gone pair || is_named new pair) ≡ true
  pub names : (pair : Pair) → is_named come pair ≡ true → is_named new pair ≡ true

-- so much comes and goes on the way from one graph to another, where the reached pairs name these targets by now
pub record IsGathered (before graph : Graph) (met : List Pair) (targets : Pair → List Target) (come gone : List Target) : Type 0 where
  pub roots : (pair : Pair) → is_named before.roots pair ≡ true → (is_named gone pair || is_named graph.roots pair) ≡ true
  pub lost : (source pair : Pair) → is_in met source ≡ true → is_named (before.targets source) pair ≡ true → (is_named gone pair || is_named (targets source) pair) ≡ true
  pub names : (pair : Pair) → is_named come pair ≡ true → is_named (seen_by graph met) pair ≡ true
  pub counted : IsPermutation (come ++ seen_by before met) (gone ++ (graph.roots ++ flat_map targets met))
