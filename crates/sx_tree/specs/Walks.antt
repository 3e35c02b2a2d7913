-- A walk through a tree: the pages on its way, from the root down to the page in hand, each with its parts that are to come.
-- No clause of a public call names it.
use Rattle.std.specs.Prelude.{◌≡◌, if◌then◌else◌, ℕ, zero, suc, ◌+◌, ◌-◌, ◌<◌, ◌≤◌, Bool, true, false, filter, nat_le, nat_eq, List, [], ◌∷◌, ◌++◌, length, map, Option, Some, None, Result, Ok, Err}
use Rattle.std.specs.List.{flat_map, sum_by, list_any, IsDistinct}
use Rattle.std.specs.Map.{lookup}
use Rattle.std.specs.Option.{option_to_list}
use Rattle.sx_cell.specs.declared.cell.Kind.{Kind}
use Rattle.sx_node.specs.Nodes.{NodePage}
use Rattle.sx_tree.specs.declared.item.RowItem.{RowItem}
use Rattle.sx_tree.specs.declared.item.RowItem.TheVariants.{Fault}
use Rattle.sx_tree.specs.declared.item.TreeFault.{TreeFault}
use Rattle.sx_tree.specs.declared.parts.Part.{Part}
use Rattle.sx_tree.specs.declared.parts.Part.TheVariants.{Item, Child}
use Rattle.sx_tree.specs.Parts.{Visit, parts_of}
use Rattle.sx_tree.specs.Trees.{Tree, IsBounded, children, held_count, tree_pages, references}
use Rattle.sx_tree.specs.Rows.{part_items, items_of, opened, root_kind}

-- the items to come, where the first page has at most so many pages below it: those of the last page come first
abbrev pub come : Tree → ℕ → List Visit → List RowItem
come tree most [] = []
come tree most (visit ∷ below) = come tree (most - 1) below ++ flat_map (part_items (items_of tree most)) visit.rest

-- a fault in the place of the root
abbrev pub root_fault : ℕ → Option TreeFault → List RowItem
root_fault root None = []
root_fault root (Some kind) = Fault kind root 0 ∷ []

-- all items to come
abbrev pub to_come : Tree → Option TreeFault → List Visit → List RowItem
to_come tree fault way = root_fault tree.root fault ++ come tree (held_count tree) way

-- how many turns of the walk a part takes: one, and those of the page below
abbrev pub part_turns : (ℕ → ℕ) → Part → ℕ
part_turns below (Item item) = 1
part_turns below (Child number) = 1 + below number

-- those of a page that was opened
abbrev pub page_turns : (ℕ → ℕ) → Result NodePage TreeFault → ℕ
page_turns below (Err kind) = 0
page_turns below (Ok node) = 1 + sum_by (part_turns below) (parts_of node)

-- those of the page of a number
abbrev pub turns_of : Tree → ℕ → ℕ → ℕ
turns_of tree zero number = 0
turns_of tree (suc most) number = page_turns (turns_of tree most) (opened tree number)

-- how many turns are to come
abbrev pub turns : Tree → ℕ → List Visit → ℕ
turns tree most [] = 0
turns tree most (visit ∷ below) = turns tree (most - 1) below + (1 + sum_by (part_turns (turns_of tree most)) visit.rest)

-- what a page names, and what the root is named by
abbrev pub named_from : Tree → Option ℕ → List ℕ
named_from tree None = tree.root ∷ []
named_from tree (Some number) = children tree number

-- a page of the tree that a walk went into, from the page that names it
pub record IsVisit (tree : Tree) (from : Option ℕ) (visit : Visit) : Type 0 where
  pub named : list_any (nat_eq visit.number) (named_from tree from) ≡ true
  pub listed : list_any (nat_eq visit.number) (tree_pages tree) ≡ true
  pub node : NodePage
  pub entered : opened tree visit.number ≡ Ok node
  pub gone : List Part
  pub parts : parts_of node ≡ gone ++ visit.rest

-- each page of the way is named by the one before it
abbrev pub IsWay : Tree → Option ℕ → List Visit → Type 0
IsWay tree from [] = Unit {0}
IsWay tree from (visit ∷ below) = IsVisit tree from visit × IsWay tree (Some visit.number) below

-- the numbers of the pages on the way
abbrev pub numbers_of : List Visit → List ℕ
numbers_of way = map (λ visit. visit.number) way

-- what the table says of each page: nothing where it isn't one of the tree, else whether it is named more than once
abbrev pub said : Tree → ℕ → Option Bool
said tree number = if list_any (nat_eq number) (tree_pages tree) then Some (nat_le 2 (references tree number)) else None

-- a list has some number
abbrev pub has_some : List ℕ → Bool
has_some [] = false
has_some (number ∷ numbers) = true

-- those of these pages that name a child
abbrev pub namers : Tree → List ℕ → List ℕ
namers tree pages = filter (λ number. has_some (children tree number)) pages

-- the pages of a tree were found: the table says of each what is so, and there is room for a page below all that name a child
pub record IsFound (tree : Tree) (table : List (ℕ × Bool)) (room : ℕ) : Type 0 where
  pub says : (number : ℕ) → lookup (nat_eq number) table ≡ said tree number
  pub enough : length (namers tree (tree_pages tree)) < room

-- what a walk keeps: its table is that of the tree, and its way is one through the tree, with room for a page below
-- all that name a child
pub record IsWalk (tree : Tree) (table : List (ℕ × Bool)) (kind : Option Kind) (way : List Visit) (room : ℕ) : Type 0 where
  pub bounds : IsBounded tree
  pub says : (number : ℕ) → lookup (nat_eq number) table ≡ said tree number
  pub same_kind : kind ≡ root_kind tree
  pub enough : length (namers tree (tree_pages tree)) < room
  pub is_way : IsWay tree None way
  pub apart : IsDistinct nat_eq (numbers_of way)

-- what the rows in hand keep: the walk, and that the usable bytes are some of each page's
pub record IsRows (page_size : ℕ) (tree : Tree) (table : List (ℕ × Bool)) (kind : Option Kind) (way : List Visit) (room : ℕ) : Type 0 where
  pub least : 480 ≤ tree.usable
  pub within : tree.usable ≤ page_size
  pub small : page_size ≤ 65536
  pub walk : IsWalk tree table kind way room

-- the page in hand, or where the way began
abbrev pub top_of : Option ℕ → List Visit → Option ℕ
top_of from [] = from
top_of from (visit ∷ below) = top_of (Some visit.number) below

-- a child is one of the page in hand
abbrev pub IsNamed : Tree → List Visit → Part → Type 0
IsNamed tree way (Item item) = 1 ≤ length way
IsNamed tree way (Child number) = (1 ≤ length way) × (list_any (nat_eq number) (named_from tree (top_of None way)) ≡ true)

-- a part of the page in hand was followed: its items are the one that was given and what is more to come, and a turn is gone
pub record IsFollowed (tree : Tree) (old new : List Visit) (part : Part) (given : Option RowItem) : Type 0 where
  pub items : part_items (items_of tree (held_count tree + 1 - length old)) part ++ come tree (held_count tree) old
      ≡ option_to_list given ++ come tree (held_count tree) new
  pub turns : turns tree (held_count tree) new < part_turns (turns_of tree (held_count tree + 1 - length old)) part + turns tree (held_count tree) old
