-- When the sums of one graph can be followed to another, and when they have been.
use Rattle.std.specs.Prelude.{◌≡◌, ℕ, ◌||◌, true, List, [], ◌++◌, length, Some}
use Rattle.std.specs.List.Sorted.{IsPermutation}
use Rattle.sx_closure.specs.declared.pair.Pair.{Pair}
use Rattle.sx_closure.specs.declared.pair.Target.{Target}
use Rattle.sx_closure.specs.Graph.{is_in, is_named, Graph, IsGraph, reached, references_to, dead_links}
use Rattle.sx_closure.specs.Chains.{one_reference}
use Rattle.sx_closure.specs.Tallying.{rank_of}
use Rattle.sx_closure.proofs.Walks.{seen_by}
use Rattle.sx_follow.specs.Orders.{IsOrder}
use Rattle.sx_follow.specs.declared.sums.Sum.{Sum}
use Rattle.sx_follow.specs.Sums.{nothing, plus, Sums, sum_at, AreSums}
use Rattle.sx_follow.specs.Climbing.{all_of}
use Rattle.sx_follow.specs.Ones.{the_one}

-- the sums are those over all targets of the graph: of the roots, and of the reached pairs, each asked once
pub record HasFollowed (graph : Graph) (all : Sums) : Type 0 where
  pub held_is : all.held ≡ graph.held
  pub met : List Pair
  pub order : IsOrder graph [] met
  pub same : (pair : Pair) → is_in met pair ≡ is_in (reached graph) pair
  pub are : AreSums (seen_by graph met) all

-- some targets come and others go between two graphs of the same held pages: what comes is named by a root or a pair that
-- was reached; what roots and those pairs name no more goes; and together with what goes they name what they named and
-- what comes
pub record CanFollow (graph : Graph) (all : Sums) (come gone : List Target) : Type 0 where
  pub before : Graph
  pub good : IsGraph before
  pub followed : HasFollowed before all
  pub held : before.held ≡ graph.held
  pub roots : (pair : Pair) → is_named before.roots pair ≡ true → (is_named gone pair || is_named graph.roots pair) ≡ true
  pub targets : (source pair : Pair) → is_in followed.met source ≡ true → is_named (before.targets source) pair ≡ true
      → (is_named gone pair || is_named (graph.targets source) pair) ≡ true
  pub names : (pair : Pair) → is_named come pair ≡ true → is_named (seen_by graph followed.met) pair ≡ true
  pub counted : IsPermutation (come ++ seen_by before followed.met) (gone ++ seen_by graph followed.met)

-- the sums of a page, of nothing where it isn't held
abbrev pub sum_of : Sums → ℕ → Sum
sum_of all page = sum_at all (rank_of all.held page)

-- the sums say of each page how many references it has, and of one with one they are its sums and tell which it is; and how
-- many links are dead
pub record AreReferences (graph : Graph) (all : Sums) : Type 0 where
  pub counts : (page : ℕ) → all_of (sum_of all page) ≡ length (references_to graph page)
  pub ones : (page : ℕ) (target : Target) → one_reference graph page ≡ Some target → sum_of all page ≡ plus nothing target
  pub told : (page : ℕ) → the_one all page ≡ one_reference graph page
  pub dead : all.dead ≡ length (dead_links graph)
