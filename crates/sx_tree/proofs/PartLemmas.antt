-- The parts of a page, taken one after the other.
use Rattle.std.proofs.Common.{◌≡◌, ℕ, suc, ◌+◌, ◌-◌, ◌<◌, ◌≤◌, true, false, [], ◌∷◌, ◌++◌, Option, Some, None, Ok, refl, ap, ◌∙◌, arith, rules, append_assoc}
use Rattle.std.specs.Prelude.{IsTrue, IsSome}
use Rattle.std.specs.List.{flat_map, range_with_len}
use Rattle.std.specs.Option.{option_to_list}
use Rattle.sx_cell.specs.declared.cell.Kind.{Kind}
use Rattle.sx_cell.specs.declared.cell.Kind.TheVariants.{TableLeaf, TableInner, IndexLeaf, IndexInner}
use Rattle.sx_cell.specs.declared.cell.Cell.{Cell}
use Rattle.sx_cell.specs.Cells.{HasRanges}
use Rattle.sx_cell.specs.Kinds.{has_child}
use Rattle.sx_node.specs.Nodes.{NodePage, cell_count, cell_in}
use Rattle.sx_tree.specs.declared.item.RowItem.TheVariants.{Row}
use Rattle.sx_tree.specs.declared.parts.Part.{Part}
use Rattle.sx_tree.specs.declared.parts.Part.TheVariants.{Item, Child}
use Rattle.sx_tree.specs.Parts.{cell_parts, child_parts, row_parts, parts_of_cells, parts_from}

leaf_case : (kind : Kind) (number index : ℕ) → (IsTrue (has_child kind) → ⊥) → row_parts kind number index ≡ Item (Row number index) ∷ []
leaf_case TableLeaf number index leaf = refl
leaf_case TableInner number index leaf = absurd (leaf (search rules))
leaf_case IndexLeaf number index leaf = refl
leaf_case IndexInner number index leaf = absurd (leaf (search rules))

none_inner : (child : Option ℕ) → child ≡ None → IsSome child → ⊥
none_inner None none some = let never : false ≡ true = some in cc
none_inner (Some child) none some = let never : Some child ≡ None = none in cc

-- a cell without a child is a row
pub leaf_parts : (kind : Kind) (usable number index : ℕ) (cell : Cell) → cell.child ≡ None → HasRanges kind usable cell
    → cell_parts kind number index (Ok cell) ≡ Item (Row number index) ∷ []
leaf_parts kind usable number index cell none ranges =
    ap (λ child. child_parts child ++ row_parts kind number index) none
    ∙ leaf_case kind number index (λ inner. none_inner cell.child none (ranges.child.1 inner))

some_inner : (child : Option ℕ) (found : ℕ) → child ≡ Some found → IsSome child
some_inner None found is = let never : None ≡ Some found = is in cc
some_inner (Some child) found is = search rules

-- one with a child is that, and then its row
pub inner_parts : (kind : Kind) (usable number index child : ℕ) (row : Option Part) (cell : Cell) → cell.child ≡ Some child → HasRanges kind usable cell
    → (IsTrue (has_child kind) → row_parts kind number index ≡ option_to_list row)
    → cell_parts kind number index (Ok cell) ≡ Child child ∷ option_to_list row
inner_parts kind usable number index child row cell some ranges behind =
    ap (λ found. child_parts found ++ row_parts kind number index) some
    ∙ ap (λ rest. Child child ∷ rest) (behind (ranges.child.0 (some_inner cell.child child some)))

-- behind the last index there are no cells
no_cells : (node : NodePage) (index : ℕ) → cell_count node ≤ index → parts_of_cells node index ≡ []
unfolding parts_of_cells
no_cells node index past =
    let none : cell_count node - index ≡ 0 = omega arith in
    ap (λ many. flat_map (λ i. cell_parts node.kind node.number i (cell_in node i)) (range_with_len index many)) none

more_cells : (node : NodePage) (index : ℕ) → index < cell_count node
    → parts_of_cells node index ≡ cell_parts node.kind node.number index (cell_in node index) ++ parts_of_cells node (index + 1)
unfolding parts_of_cells
more_cells node index below =
    let one : cell_count node - index ≡ suc (cell_count node - (index + 1)) = omega arith in
    ap (λ many. flat_map (λ i. cell_parts node.kind node.number i (cell_in node i)) (range_with_len index many)) one

-- behind the cells the right-most child is left
pub last_part : (node : NodePage) (index : ℕ) (right : Option ℕ) → cell_count node ≤ index
    → parts_from node None index right ≡ child_parts right
last_part node index right past = ap (λ cells. cells ++ child_parts right) (no_cells node index past)

-- a cell has a first part, and its row may be left
pub one_part : (node : NodePage) (index : ℕ) (part : Part) (row : Option Part) (right : Option ℕ) → index < cell_count node
    → cell_parts node.kind node.number index (cell_in node index) ≡ part ∷ option_to_list row
    → parts_from node None index right ≡ part ∷ parts_from node row (index + 1) right
one_part node index part row right below is =
    ap (λ cells. cells ++ child_parts right) (more_cells node index below)
    ∙ ap (λ first. (first ++ parts_of_cells node (index + 1)) ++ child_parts right) is
    ∙ ap (λ rest. part ∷ rest) (append_assoc (option_to_list row) (parts_of_cells node (index + 1)) (child_parts right))
