-- The references of a moment over more pages than it holds: the sums over such a list go on from one moment to another though
-- pages come into view and go out of it, since a page that isn't held names nothing.
use Rattle.std.specs.Prelude.{◌≡◌, ℕ, ◌+◌, true, false, cond, List, [], length, sum_by}
use Rattle.sx_closure.specs.declared.pair.Pair.{Pair}
use Rattle.sx_closure.specs.Graph.{Graph, is_held, references_to, dead_links}
use Rattle.sx_closure.specs.Chains.{one_reference}
use Rattle.sx_follow.specs.Sums.{Sums}
use Rattle.sx_follow.specs.Climbing.{all_of}
use Rattle.sx_follow.specs.Following.{sum_of}
use Rattle.sx_follow.specs.Ones.{the_one}

-- what there is, with these pages for the held ones
abbrev pub widened : List ℕ → Graph → Graph
widened numbers graph = record graph { held = numbers }

-- the held pages are among these, and those that aren't held name nothing
pub record IsWider (numbers : List ℕ) (graph : Graph) : Type 0 where
  pub held : (page : ℕ) → is_held graph.held page ≡ true → is_held numbers page ≡ true
  pub none : (pair : Pair) → is_held graph.held pair.page ≡ false → graph.targets pair ≡ []

-- how many references are kept of a page that isn't held
abbrev pub missing_count : List ℕ → Sums → ℕ → ℕ
missing_count held all page = cond (is_held held page) 0 (all_of (sum_of all page))

-- how many are kept of all such pages
abbrev pub missing_counts : List ℕ → Sums → ℕ
missing_counts held all = sum_by (missing_count held all) all.held

-- sums over more pages say of each held page how many references it has, and which is the one where it has no other; and how
-- many links are dead
pub record AreReferencesOf (graph : Graph) (all : Sums) : Type 0 where
  pub counts : (page : ℕ) → is_held graph.held page ≡ true → all_of (sum_of all page) ≡ length (references_to graph page)
  pub told : (page : ℕ) → is_held graph.held page ≡ true → the_one all page ≡ one_reference graph page
  pub dead : all.dead + missing_counts graph.held all ≡ length (dead_links graph)
