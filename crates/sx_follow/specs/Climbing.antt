-- Ways of single references from a root to a page, as the sums tell them.
use Rattle.std.specs.Prelude.{◌≡◌, ℕ, ◌+◌, ◌==◌, not, Bool, true, false, if◌then◌else◌, List, slice_index_or, Option, Some, None}
use Rattle.std.specs.List.{All}
use Rattle.sx_closure.specs.declared.pair.Pair.{Pair}
use Rattle.sx_closure.specs.declared.pair.Source.{Source}
use Rattle.sx_closure.specs.declared.pair.Source.TheVariants.{Root, Cell, Page}
use Rattle.sx_follow.specs.declared.sums.Sum.{Sum}
use Rattle.sx_closure.specs.Graph.{is_in, Graph}
use Rattle.sx_closure.specs.Tallying.{rank_of}
use Rattle.sx_follow.specs.Sums.{nothing, many_of, Sums}

-- the page at which a source stands, whether in a cell or not
abbrev pub source_page : Source → Option ℕ
source_page Root = None
source_page (Cell page cell) = Some page
source_page (Page page) = Some page

-- roots stand in no page, and what a pair names stands in its page
pub record IsSourced (graph : Graph) : Type 0 where
  pub roots : All (λ target. source_page target.source ≡ None) graph.roots
  pub pairs : (pair : Pair) → All (λ target. source_page target.source ≡ Some pair.page) (graph.targets pair)

-- how many references there are
abbrev pub all_of : Sum → ℕ
all_of sum = sum.node + (sum.overflow + (sum.trunk + (sum.free_leaf + sum.pointer_map)))

-- where the one reference stands, a root in no page; or there isn't one
abbrev pub way_of : Sum → Option (Option ℕ)
way_of sum = if all_of sum == 1 then Some (if sum.kind == 0 then None else Some sum.page) else None

abbrev pub way_by : Sums → Option ℕ → Option (Option ℕ)
way_by all None = None
way_by all (Some rank) = way_of (slice_index_or all.sums rank nothing)

abbrev pub way_at : Sums → ℕ → Option (Option ℕ)
way_at all page = way_by all (rank_of all.held page)

-- so many single references lead to the page from a root
pub data HasWay : Sums → ℕ → Type 0 where
  from_root : (all : Sums) (page : ℕ) → way_at all page ≡ Some None → HasWay all page
  from_page : (all : Sums) (page above : ℕ) → way_at all page ≡ Some (Some above) → HasWay all above → HasWay all page

-- the page is held and a reference names the pair
abbrev pub marked_by : Sums → Pair → Option ℕ → Bool
marked_by all pair None = false
marked_by all pair (Some rank) = not (many_of (slice_index_or all.sums rank nothing) pair.role == 0)

abbrev pub is_marked_in : Sums → Pair → Bool
is_marked_in all pair = marked_by all pair (rank_of all.held pair.page)

-- to each page of these pairs that is named a way leads
abbrev pub AllHaveWays : Sums → List Pair → Type 0
AllHaveWays all pairs = (pair : Pair) → is_in pairs pair ≡ true → is_marked_in all pair ≡ true → HasWay all pair.page
