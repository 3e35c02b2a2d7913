-- The children of a page, as sx_node lists them: a leaf page has none, and the parts of a page have all of them.
use Rattle.std.proofs.Common.{◌≡◌, ℕ, zero, suc, ◌+◌, ◌-◌, ◌≤◌, Bool, true, false, List, [], ◌∷◌, ◌++◌, Option, Some, None, Result, Ok, Err, length, fold, refl, sym, ap, ◌∙◌, arith}
use Rattle.std.specs.Prelude.{IsTrue, IsSome}
use Rattle.std.specs.List.{flat_map, range_with_len}
use Rattle.std.proofs.lemmas.Grind.{flat_map-append}
use Rattle.sx_cell.specs.declared.cell.Kind.{Kind}
use Rattle.sx_cell.specs.declared.cell.Kind.TheVariants.{TableLeaf, TableInner, IndexLeaf, IndexInner}
use Rattle.sx_cell.specs.declared.cell.Cell.{Cell}
use Rattle.sx_cell.specs.declared.cell.CellFault.{CellFault}
use Rattle.sx_cell.specs.Kinds.{has_child}
use Rattle.sx_cell.specs.Local.{spilled}
use Rattle.sx_cell.proofs.CellLemmas.{has_ranges}
use Rattle.sx_node.specs.Nodes.{NodePage, IsNodeOf, node_of, cell_count, cell_in, pointer_at, right_child}
use Rattle.sx_node.specs.Targets.{child_target, overflow_target, cell_targets, cell_targets_from, right_target}
use Rattle.sx_tree.specs.Parts.{cell_parts, child_parts, row_parts, parts_of_cells, child_of, part_children}
use Rattle.sx_tree.specs.Tables.{noted}
use Rattle.sx_tree.specs.Trees.{child_in, children_of, node_children, view_children}

-- ---- of a cell the child alone is one
overflow_none : (index rest : ℕ) (page : Option ℕ) → flat_map child_in (overflow_target index rest page) ≡ []
overflow_none index rest None = refl
overflow_none index rest (Some page) = refl

abbrev listed : Option ℕ → List ℕ
listed None = []
listed (Some page) = page ∷ []

child_listed : (index : ℕ) (child : Option ℕ) → flat_map child_in (child_target index child) ≡ listed child
child_listed index None = refl
child_listed index (Some page) = refl

right_listed : (right : Option ℕ) → flat_map child_in (right_target right) ≡ listed right
right_listed None = refl
right_listed (Some page) = refl

cell_listed : (index : ℕ) (cell : Cell) → flat_map child_in (cell_targets index (Ok cell)) ≡ listed cell.child ++ []
cell_listed index cell =
    flat_map-append child_in (child_target index cell.child) (overflow_target index (spilled cell) cell.overflow)
    ∙ ap (λ l. l ++ flat_map child_in (overflow_target index (spilled cell) cell.overflow)) (child_listed index cell.child)
    ∙ ap (λ l. listed cell.child ++ l) (overflow_none index (spilled cell) cell.overflow)

-- ---- a leaf page names no child
child_case : (child : Option ℕ) (leaf : Bool) → leaf ≡ false → (IsSome child → IsTrue leaf) → listed child ≡ []
child_case None leaf is child = refl
child_case (Some n) leaf is child = let clash : true ≡ false = sym (child refl) ∙ is in cc

cell_case : (node : NodePage) (index : ℕ) (read : Result Cell CellFault) → 480 ≤ node.usable → node.usable ≤ length node.page
    → has_child node.kind ≡ false → cell_in node index ≡ read → flat_map child_in (cell_targets index read) ≡ []
cell_case node index (Err fault) least within leaf is = refl
cell_case node index (Ok cell) least within leaf is =
    let ranges = has_ranges node.kind node.page (pointer_at node index) node.usable cell least within is in
    cell_listed index cell ∙ ap (λ l. l ++ []) (child_case cell.child (has_child node.kind) leaf (λ some. ranges.child.0 some))

cells_case : (node : NodePage) (many index : ℕ) → 480 ≤ node.usable → node.usable ≤ length node.page → has_child node.kind ≡ false
    → flat_map child_in (flat_map (λ i. cell_targets i (cell_in node i)) (range_with_len index many)) ≡ []
cells_case node zero index least within leaf = refl
cells_case node (suc many) index least within leaf =
    flat_map-append child_in (cell_targets index (cell_in node index)) _
    ∙ ap (λ l. l ++ flat_map child_in (flat_map (λ i. cell_targets i (cell_in node i)) (range_with_len (index + 1) many)))
    (cell_case node index (cell_in node index) least within leaf refl)
    ∙ cells_case node many (index + 1) least within leaf

right_none : (node : NodePage) → has_child node.kind ≡ false → right_child node ≡ None
unfolding right_child
right_none node leaf = rw leaf refl

leaf_children : (node : NodePage) → 480 ≤ node.usable → node.usable ≤ length node.page → has_child node.kind ≡ false → children_of node ≡ []
unfolding cell_targets_from
leaf_children node least within leaf =
    flat_map-append child_in (cell_targets_from node 0) (right_target (right_child node))
    ∙ ap (λ right. flat_map child_in (cell_targets_from node 0) ++ flat_map child_in (right_target right)) (right_none node leaf)
    ∙ ap (λ l. l ++ []) (cells_case node (cell_count node - 0) 0 least within leaf)

pub leaf_none : (usable number : ℕ) (view : Option (List ℕ)) (page : List ℕ) (node : NodePage) → view ≡ Some page → Ok node ≡ node_of page number usable
    → IsNodeOf page number usable node → 480 ≤ usable → usable ≤ length page → has_child node.kind ≡ false → view_children usable number view ≡ []
leaf_none usable number view page node is read found least within leaf =
    ap (view_children usable number) is
    ∙ ap node_children (sym read)
    ∙ leaf_children node (omega (arith, found.same_usable, least)) (omega (arith, found.same_usable, ap length found.same_page, within)) leaf

-- so nothing is noted of one
pub leaf_noted : (held : ℕ → Bool) (table : List (ℕ × Bool)) (usable number : ℕ) (view : Option (List ℕ)) (page : List ℕ) (node : NodePage)
    → view ≡ Some page → Ok node ≡ node_of page number usable → IsNodeOf page number usable node → 480 ≤ usable → usable ≤ length page
    → has_child node.kind ≡ false → table ≡ fold (noted held) table (view_children usable number view)
leaf_noted held table usable number view page node is read found least within leaf =
    sym (ap (fold (noted held) table) (leaf_none usable number view page node is read found least within leaf))

-- ---- the children among the parts of a page are those that it names
row_case : (kind : Kind) (number index : ℕ) → flat_map child_of (row_parts kind number index) ≡ []
row_case TableLeaf number index = refl
row_case TableInner number index = refl
row_case IndexLeaf number index = refl
row_case IndexInner number index = refl

part_listed : (child : Option ℕ) → flat_map child_of (child_parts child) ≡ listed child
part_listed None = refl
part_listed (Some child) = refl

cell_same : (kind : Kind) (number index : ℕ) (read : Result Cell CellFault)
    → flat_map child_of (cell_parts kind number index read) ≡ flat_map child_in (cell_targets index read)
cell_same kind number index (Err fault) = refl
cell_same kind number index (Ok cell) =
    flat_map-append child_of (child_parts cell.child) (row_parts kind number index)
    ∙ ap (λ l. l ++ flat_map child_of (row_parts kind number index)) (part_listed cell.child)
    ∙ ap (λ l. listed cell.child ++ l) (row_case kind number index)
    ∙ sym (cell_listed index cell)

cells_same : (node : NodePage) (many index : ℕ)
    → flat_map child_of (flat_map (λ i. cell_parts node.kind node.number i (cell_in node i)) (range_with_len index many))
    ≡ flat_map child_in (flat_map (λ i. cell_targets i (cell_in node i)) (range_with_len index many))
cells_same node zero index = refl
cells_same node (suc many) index =
    flat_map-append child_of (cell_parts node.kind node.number index (cell_in node index)) _
    ∙ ap (λ l. l ++ flat_map child_of (flat_map (λ i. cell_parts node.kind node.number i (cell_in node i)) (range_with_len (index + 1) many)))
    (cell_same node.kind node.number index (cell_in node index))
    ∙ ap (λ l. flat_map child_in (cell_targets index (cell_in node index)) ++ l) (cells_same node many (index + 1))
    ∙ sym (flat_map-append child_in (cell_targets index (cell_in node index)) _)

pub parts_children : (node : NodePage) → part_children node ≡ children_of node
unfolding parts_of_cells cell_targets_from
parts_children node =
    flat_map-append child_of (parts_of_cells node 0) (child_parts (right_child node))
    ∙ ap (λ l. l ++ flat_map child_of (child_parts (right_child node))) (cells_same node (cell_count node - 0) 0)
    ∙ ap (λ l. flat_map child_in (cell_targets_from node 0) ++ l) (part_listed (right_child node) ∙ sym (right_listed (right_child node)))
    ∙ sym (flat_map-append child_in (cell_targets_from node 0) (right_target (right_child node)))
