-- What a walk keeps of a moment, by which the next is followed.
use Rattle.std.specs.Prelude.{◌≡◌, ℕ, ◌-◌, ◌<◌, ℤ, List, map, Option, Some, None, is_some, ⊤}
use Rattle.sx_base.specs.declared.layout.Layout.{Layout}
use Rattle.sx_base.specs.Held.{held_pages}
use Rattle.sx_closure.specs.declared.pair.Target.{Target}
use Rattle.sx_closure.specs.Graph.{IsGraph}
use Rattle.sx_closure.specs.Tallying.{Table, IsTableOf}
use Rattle.sx_follow.specs.Sums.{Sums}
use Rattle.sx_follow.specs.Following.{HasFollowed}
use Rattle.sx_follow.specs.Widened.{widened}
use Rattle.sx_refs.specs.Pages.{all_roots, graph_of}
use Rattle.sx_walk.specs.Renewing.{unsaid_count}
use Rattle.sx_walk.specs.Turning.{HasUsable}
use Rattle.sx_refs.specs.Covering.{Covers}

-- the table, the sums over all numbers, the root targets and the counts of references to pages without a view are those of the
-- pages of some moment with these views by rank, of so many usable bytes
pub record IsKept (numbers : List ℕ) (views : List (Option (List ℕ))) (usable_bytes : ℕ) (table : Table) (sums : Sums) (trail : List Target) (missing : List ℕ) : Type 0 where
  pub size : ℕ
  pub view : ℕ → Option (List ℕ)
  pub layout : Layout
  pub roots : List ℤ
  pub bytes : layout.usable ≡ usable_bytes
  pub covered : Covers numbers view
  pub views_are : views ≡ map view numbers
  pub usable : (number : ℕ) → HasUsable usable_bytes (view number)
  pub within : (number : ℕ) → size < number → view number ≡ None
  pub from_one : view 0 ≡ None
  pub good : IsGraph (graph_of size view layout roots)
  pub wide : IsGraph (widened numbers (graph_of size view layout roots))
  pub table_is : IsTableOf (graph_of size view layout roots) (usable_bytes - 4) table
  pub followed : HasFollowed (widened numbers (graph_of size view layout roots)) sums
  pub trail_is : trail ≡ all_roots (held_pages size view) layout roots
  pub missing_is : missing ≡ map (unsaid_count (λ number. is_some (view number)) sums) numbers

-- so they are, where there are sums
abbrev pub IfKept : List ℕ → List (Option (List ℕ)) → ℕ → Table → Option Sums → List Target → List ℕ → Type 0
IfKept numbers views usable table None trail missing = ⊤
IfKept numbers views usable table (Some sums) trail missing = IsKept numbers views usable table sums trail missing
