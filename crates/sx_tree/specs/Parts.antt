-- What a b-tree page leads to: items of its own, and pages whose items stand in their place ("B-tree Pages").
use Rattle.std.specs.Prelude.{ℕ, Bool, true, false, List, [], ◌∷◌, ◌++◌, ◌-◌, Option, Some, None, Result, Ok, Err, if◌then◌else◌}
use Rattle.std.specs.List.{flat_map, range_with_len}
use Rattle.std.specs.Option.{option_to_list}
use Rattle.sx_cell.specs.declared.cell.Kind.{Kind}
use Rattle.sx_cell.specs.declared.cell.Kind.TheVariants.{TableLeaf, TableInner, IndexLeaf, IndexInner}
use Rattle.sx_cell.specs.declared.cell.Cell.{Cell}
use Rattle.sx_cell.specs.declared.cell.CellFault.{CellFault}
use Rattle.sx_node.specs.Nodes.{NodePage, cell_count, cell_in, right_child}
use Rattle.sx_tree.specs.declared.item.RowItem.TheVariants.{Row, Fault}
use Rattle.sx_tree.specs.declared.item.TreeFault.TheVariants.{BadCell}
use Rattle.sx_tree.specs.declared.parts.Part.{Part}
use Rattle.sx_tree.specs.declared.parts.Part.TheVariants.{Item, Child}

-- rows stand in all cells but those of the interior pages of a table
abbrev pub has_row : Kind → Bool
has_row TableLeaf = true
has_row TableInner = false
has_row IndexLeaf = true
has_row IndexInner = true

-- the row of a cell, where it has one
abbrev pub row_parts : Kind → ℕ → ℕ → List Part
row_parts kind number index = if has_row kind then Item (Row number index) ∷ [] else []

-- a child, where there is one
abbrev pub child_parts : Option ℕ → List Part
child_parts None = []
child_parts (Some child) = Child child ∷ []

-- of a cell its child and then its row; where it can't be read, its fault
abbrev pub cell_parts : Kind → ℕ → ℕ → Result Cell CellFault → List Part
cell_parts kind number index (Err fault) = Item (Fault BadCell number index) ∷ []
cell_parts kind number index (Ok cell) = child_parts cell.child ++ row_parts kind number index

-- the parts of the cells from an index on, in the order of the cell pointer array
unfoldable pub parts_of_cells : NodePage → ℕ → List Part
parts_of_cells node index =
    flat_map (λ i. cell_parts node.kind node.number i (cell_in node i)) (range_with_len index (cell_count node - index))

-- the parts of a page: those of its cells, and then on an interior page the right-most child
abbrev pub parts_of : NodePage → List Part
parts_of node = parts_of_cells node 0 ++ child_parts (right_child node)

-- the child that a part is
abbrev pub child_of : Part → List ℕ
child_of (Item item) = []
child_of (Child child) = child ∷ []

-- the children among the parts of a page
abbrev pub part_children : NodePage → List ℕ
part_children node = flat_map child_of (parts_of node)

-- a page on the way of a walk: its number, and its parts that are to come
pub record Visit : Type 0 where
  pub number : ℕ
  pub rest : List Part

-- what is to come where that part, the cells from an index on and the right-most child are left
abbrev pub parts_from : NodePage → Option Part → ℕ → Option ℕ → List Part
parts_from node behind index right = option_to_list behind ++ (parts_of_cells node index ++ child_parts right)
