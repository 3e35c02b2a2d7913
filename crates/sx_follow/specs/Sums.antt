-- What is kept of the references to each held page as sums, so that each can be taken back: how many of each role, and the
-- sums of their sources' kinds, pages and cells and of the bytes behind a cell. Where there is one, the sums are that one's.
use Rattle.std.specs.Prelude.{◌≡◌, ℕ, ◌+◌, ◌-◌, ◌==◌, if◌then◌else◌, List, map, sum_by, slice_index_or, slice_set, Option, Some, None}
use Rattle.sx_base.specs.declared.role.Role.{Role}
use Rattle.sx_base.specs.declared.role.Role.TheVariants.{Node, Overflow, Trunk, FreeLeaf, PointerMap}
use Rattle.sx_closure.specs.declared.pair.Source.{Source}
use Rattle.sx_closure.specs.declared.pair.Source.TheVariants.{Root, Cell, Page}
use Rattle.sx_closure.specs.declared.pair.Target.{Target}
use Rattle.sx_closure.specs.Graph.{role_number, is_held}
use Rattle.sx_closure.specs.Tallying.{rank_of}
use Rattle.sx_follow.specs.declared.sums.Sum.{Sum}

-- ---- weights of a target

-- 1 where it is of the role
abbrev pub of_role : Role → Target → ℕ
of_role role target = if role_number role == role_number target.pair.role then 1 else 0

-- a number for the kind of its source
abbrev pub kind_of : Source → ℕ
kind_of Root = 0
kind_of (Cell page cell) = 1
kind_of (Page page) = 2

-- the page of its source, and the cell
abbrev pub page_in : Source → ℕ
page_in Root = 0
page_in (Cell page cell) = page
page_in (Page page) = page

abbrev pub cell_in : Source → ℕ
cell_in Root = 0
cell_in (Cell page cell) = cell
cell_in (Page page) = 0

-- ---- the sums of a page

-- the weight of a target where it names the page
abbrev pub weighed : (Target → ℕ) → ℕ → Target → ℕ
weighed weight page target = if target.pair.page == page then weight target else 0

-- the sum over those of some targets that name the page
abbrev pub total : (Target → ℕ) → ℕ → List Target → ℕ
total weight page seen = sum_by (weighed weight page) seen

abbrev pub summed : List Target → ℕ → Sum
summed seen page = record {
  node = total (of_role Node) page seen;
  overflow = total (of_role Overflow) page seen;
  trunk = total (of_role Trunk) page seen;
  free_leaf = total (of_role FreeLeaf) page seen;
  pointer_map = total (of_role PointerMap) page seen;
  kind = total (λ target. kind_of target.source) page seen;
  page = total (λ target. page_in target.source) page seen;
  cell = total (λ target. cell_in target.source) page seen;
  rest = total (λ target. target.rest) page seen;
}

-- with one target more, and with one taken back
abbrev pub plus : Sum → Target → Sum
plus sum target = record {
  node = sum.node + of_role Node target;
  overflow = sum.overflow + of_role Overflow target;
  trunk = sum.trunk + of_role Trunk target;
  free_leaf = sum.free_leaf + of_role FreeLeaf target;
  pointer_map = sum.pointer_map + of_role PointerMap target;
  kind = sum.kind + kind_of target.source;
  page = sum.page + page_in target.source;
  cell = sum.cell + cell_in target.source;
  rest = sum.rest + target.rest;
}

abbrev pub minus : Sum → Target → Sum
minus sum target = record {
  node = sum.node - of_role Node target;
  overflow = sum.overflow - of_role Overflow target;
  trunk = sum.trunk - of_role Trunk target;
  free_leaf = sum.free_leaf - of_role FreeLeaf target;
  pointer_map = sum.pointer_map - of_role PointerMap target;
  kind = sum.kind - kind_of target.source;
  page = sum.page - page_in target.source;
  cell = sum.cell - cell_in target.source;
  rest = sum.rest - target.rest;
}

-- nothing named the page
abbrev pub nothing : Sum
nothing = record { node = 0; overflow = 0; trunk = 0; free_leaf = 0; pointer_map = 0; kind = 0; page = 0; cell = 0; rest = 0 }

-- how many of a role
abbrev pub many_of : Sum → Role → ℕ
many_of sum Node = sum.node
many_of sum Overflow = sum.overflow
many_of sum Trunk = sum.trunk
many_of sum FreeLeaf = sum.free_leaf
many_of sum PointerMap = sum.pointer_map

-- ---- the sums of all held pages

pub record Sums : Type 0 where
  pub held : List ℕ
  pub sums : List Sum
  pub dead : ℕ

-- a target that isn't held
abbrev pub is_dead : List ℕ → Target → ℕ
is_dead held target = if is_held held target.pair.page then 0 else 1

abbrev pub sum_at : Sums → Option ℕ → Sum
sum_at all None = nothing
sum_at all (Some rank) = slice_index_or all.sums rank nothing

abbrev pub added_at : Sums → Target → Option ℕ → Sums
added_at all target None = record all { dead = all.dead + 1 }
added_at all target (Some rank) = record all { sums = slice_set all.sums rank (plus (slice_index_or all.sums rank nothing) target) }

unfoldable pub added : Sums → Target → Sums
added all target = added_at all target (rank_of all.held target.pair.page)

abbrev pub taken_at : Sums → Target → Option ℕ → Sums
taken_at all target None = record all { dead = all.dead - 1 }
taken_at all target (Some rank) = record all { sums = slice_set all.sums rank (minus (slice_index_or all.sums rank nothing) target) }

unfoldable pub taken : Sums → Target → Sums
taken all target = taken_at all target (rank_of all.held target.pair.page)

-- the sums are those over some counted targets
pub record AreSums (seen : List Target) (all : Sums) : Type 0 where
  pub sums : all.sums ≡ map (summed seen) all.held
  pub dead : all.dead ≡ sum_by (is_dead all.held) seen
