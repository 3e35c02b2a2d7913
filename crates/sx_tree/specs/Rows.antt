-- The rows of a tree: what its pages lead to, in order, with a fault in the place of each page that can't be walked.
use Rattle.std.specs.Prelude.{ℕ, zero, suc, ◌+◌, Bool, true, false, not, nat_le, List, [], ◌∷◌, Option, Some, None, Result, Ok, Err, if◌then◌else◌}
use Rattle.std.specs.List.{flat_map}
use Rattle.sx_cell.specs.declared.cell.Kind.{Kind}
use Rattle.sx_cell.specs.Kinds.{is_table}
use Rattle.sx_node.specs.declared.node.NodeFault.{NodeFault}
use Rattle.sx_node.specs.declared.node.NodeFault.TheVariants.{BadFlag, BadArray as ArrayFault}
use Rattle.sx_node.specs.Nodes.{NodePage, node_of}
use Rattle.sx_tree.specs.declared.item.RowItem.{RowItem}
use Rattle.sx_tree.specs.declared.item.RowItem.TheVariants.{Fault}
use Rattle.sx_tree.specs.declared.item.TreeFault.{TreeFault}
use Rattle.sx_tree.specs.declared.item.TreeFault.TheVariants.{Absent, DoubleClaim, BadNode, BadArray, OtherKind}
use Rattle.sx_tree.specs.declared.parts.Part.{Part}
use Rattle.sx_tree.specs.declared.parts.Part.TheVariants.{Item, Child}
use Rattle.sx_tree.specs.Parts.{parts_of}
use Rattle.sx_tree.specs.Trees.{Tree, held_count, references}

-- the kind of a b-tree page
abbrev pub kind_in : Result NodePage NodeFault → Option Kind
kind_in (Ok node) = Some node.kind
kind_in (Err fault) = None

-- the kind of the page with these bytes, if it is held and a b-tree page
abbrev pub view_kind : ℕ → ℕ → Option (List ℕ) → Option Kind
view_kind usable number None = None
view_kind usable number (Some page) = kind_in (node_of page number usable)

-- the kind of the root, where it is a b-tree page
unfoldable pub root_kind : Tree → Option Kind
root_kind tree = view_kind tree.usable tree.root (tree.view tree.root)

-- one is a table page and the other an index page
abbrev pub differs : Bool → Bool → Bool
differs true other = not other
differs false other = other

-- a page is one of the other kind than the root, where the root is a b-tree page
abbrev pub is_other_kind : Option Kind → Kind → Bool
is_other_kind None kind = false
is_other_kind (Some root) kind = differs (is_table root) (is_table kind)

-- a b-tree page of the root's kind
abbrev pub sound_node : Option Kind → Result NodePage NodeFault → Result NodePage TreeFault
sound_node root (Err BadFlag) = Err BadNode
sound_node root (Err ArrayFault) = Err BadArray
sound_node root (Ok node) = if is_other_kind root node.kind then Err OtherKind else Ok node

-- the page that a walk goes into, or the first reason why it doesn't
abbrev pub page_in : ℕ → Option Kind → Bool → ℕ → Option (List ℕ) → Result NodePage TreeFault
page_in usable root shared number None = Err Absent
page_in usable root shared number (Some page) = if shared then Err DoubleClaim else sound_node root (node_of page number usable)

-- the page of a number as a walk finds it: the first of its faults, or the b-tree page
unfoldable pub opened : Tree → ℕ → Result NodePage TreeFault
opened tree number = page_in tree.usable (root_kind tree) (nat_le 2 (references tree number)) number (tree.view number)

-- the items of a part, where `below` gives those of a page
abbrev pub part_items : (ℕ → List RowItem) → Part → List RowItem
part_items below (Item item) = item ∷ []
part_items below (Child number) = below number

-- the items of a page that was opened, or its fault
abbrev pub page_items : (ℕ → List RowItem) → ℕ → Result NodePage TreeFault → List RowItem
page_items below number (Err kind) = Fault kind number 0 ∷ []
page_items below number (Ok node) = flat_map (part_items below) (parts_of node)

-- the items of a page, with those of at most so many pages one below the other
abbrev pub items_of : Tree → ℕ → ℕ → List RowItem
items_of tree zero number = []
items_of tree (suc most) number = page_items (items_of tree most) number (opened tree number)

-- the rows of a tree: no page stands below itself, so that the held pages and one that isn't are enough
abbrev pub rows_of : Tree → List RowItem
rows_of tree = items_of tree (held_count tree + 1) tree.root
