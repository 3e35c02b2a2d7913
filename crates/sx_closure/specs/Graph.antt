-- Which pages refer to which, over any pages and any targets. A pair is a page in a role; a target is a pair that is named
-- somewhere, with its source. A target that is a held page is a reference, any other is a dead link.
use Rattle.std.specs.Prelude.{◌≡◌, ℕ, zero, suc, ◌*◌, ◌^◌, ◌<◌, ◌≤◌, ◌==◌, ◌&&◌, ◌||◌, Bool, true, false, IsTrue, not, List, [], ◌∷◌, ◌++◌, length, filter, slice_index, Option, Some, None}
use Rattle.std.specs.List.{flat_map, list_any, All}
use Rattle.sx_base.specs.declared.role.Role.{Role}
use Rattle.sx_base.specs.declared.role.Role.TheVariants.{Node, Overflow, Trunk, FreeLeaf, PointerMap}
use Rattle.sx_closure.specs.declared.pair.Pair.{Pair}
use Rattle.sx_closure.specs.declared.pair.Source.{Source}
use Rattle.sx_closure.specs.declared.pair.Source.TheVariants.{Root, Cell, Page}
use Rattle.sx_closure.specs.declared.pair.Target.{Target}

-- the roles, numbered to tell them apart
abbrev pub role_number : Role → ℕ
role_number Node = 0
role_number Overflow = 1
role_number Trunk = 2
role_number FreeLeaf = 3
role_number PointerMap = 4

-- the same page in the same role
abbrev pub same_pair : Pair → Pair → Bool
same_pair one other = (one.page == other.page) && (role_number one.role == role_number other.role)

-- the pair is in the list
abbrev pub is_in : List Pair → Pair → Bool
is_in pairs pair = list_any (same_pair pair) pairs

-- some target of the list names the pair
abbrev pub is_named : List Target → Pair → Bool
is_named targets pair = list_any (λ target. same_pair pair target.pair) targets

-- what there is: the held pages, the root targets, and what each pair names
pub record Graph : Type 0 where
  pub held : List ℕ
  pub roots : List Target
  pub targets : Pair → List Target

-- the page is held
abbrev pub is_held : List ℕ → ℕ → Bool
is_held held page = list_any (λ number. number == page) held

-- a page in each role
abbrev pub roles_of : ℕ → List Pair
roles_of page =
    record { page = page; role = Node }
    ∷ record { page = page; role = Overflow }
    ∷ record { page = page; role = Trunk }
    ∷ record { page = page; role = FreeLeaf }
    ∷ record { page = page; role = PointerMap }
    ∷ []

-- the pairs: each held page in each role
unfoldable pub pairs_of : Graph → List Pair
pairs_of graph = flat_map roles_of graph.held

-- the pairs that are reached within so many rounds: at first those that a root target names; then, with each round, also
-- those that a target out of a pair reached before names
unfoldable pub reach : Graph → ℕ → List Pair
reach graph zero = filter (is_named graph.roots) (pairs_of graph)
reach graph (suc rounds) =
    filter (λ pair. is_in (reach graph rounds) pair || is_named (flat_map graph.targets (reach graph rounds)) pair) (pairs_of graph)

-- the reached pairs: after the first round only four roles are added
abbrev pub reached : Graph → List Pair
reached graph = reach graph (4 * length graph.held)

-- all targets: those of the roots, and those of the reached pairs, each pair asked once
abbrev pub all_targets : Graph → List Target
all_targets graph = graph.roots ++ flat_map graph.targets (reached graph)

-- the target is a page that is held
abbrev pub is_reference : List ℕ → Target → Bool
is_reference held target = is_held held target.pair.page

abbrev pub references : Graph → List Target
references graph = filter (is_reference graph.held) (all_targets graph)

-- the targets of the list that name the page
abbrev pub to_page : ℕ → List Target → List Target
to_page page targets = filter (λ target. target.pair.page == page) targets

-- the references to a page
abbrev pub references_to : Graph → ℕ → List Target
references_to graph page = to_page page (references graph)

-- the dead links
abbrev pub dead_links : Graph → List Target
dead_links graph = filter (λ target. not (is_reference graph.held target)) (all_targets graph)

-- the one target of a list that has no other
abbrev pub only : List Target → Option Target
only [] = None
only (target ∷ []) = Some target
only (target ∷ other ∷ more) = None

-- the numbers rise
abbrev pub Rises : List ℕ → Type 0
Rises held = (i j : ℕ) → i < j → j < length held → slice_index held i < slice_index held j

-- where the source is a page and no cell, it is that page
abbrev pub comes_from : ℕ → Source → Bool
comes_from page (Page number) = number == page
comes_from page Root = true
comes_from page (Cell number cell) = true

-- the source is no page, but a root or a cell
abbrev pub comes_from_no_page : Source → Bool
comes_from_no_page (Page number) = false
comes_from_no_page Root = true
comes_from_no_page (Cell number cell) = true

-- what holds of the graph of a database: the held pages rise and are of 32 bits, only a root names a page as a pointer
-- map, a page can't name more than it has bytes, and what comes from a page is named by that page
pub record IsGraph (graph : Graph) : Type 0 where
  pub rising : Rises graph.held
  pub few : length graph.held < 2 ^ 32
  pub no_maps : (pair : Pair) (target : Target) → is_named (graph.targets pair) target.pair ≡ true → role_number target.pair.role < 4
  pub some : (pair : Pair) → length (graph.targets pair) ≤ 2 ^ 17
  pub few_roots : length graph.roots < 2 ^ 62
  pub sources : (pair : Pair) → All (λ target. IsTrue (comes_from pair.page target.source)) (graph.targets pair)
  pub root_sources : All (λ target. IsTrue (comes_from_no_page target.source)) graph.roots
