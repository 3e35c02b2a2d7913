-- The lines of a b-tree page's cells, one after the other, and what stands behind them.
use Rattle.std.proofs.Common.{◌≡◌, ℕ, suc, ◌+◌, ◌-◌, ◌<◌, List, ◌∷◌, ◌++◌, Option, Some, map, ap, ◌∙◌, arith}
use Rattle.std.specs.List.{range_with_len}
use Rattle.sx_base.specs.declared.evidence.Span.{Span}
use Rattle.sx_node.specs.Nodes.{NodePage, cell_count, right_child}
use Rattle.sx_page_text.specs.NodeText.{cell_line, right_lines, block_lines}
use Rattle.sx_page_text.specs.Places.{cell_lines_from, node_lines_from}
use Rattle.sx_page_text.specs.Places.{IsPastCells}
use Rattle.sx_page_text.specs.declared.node_text.NodeLine.{NodeLine}
use Rattle.sx_page_text.specs.declared.node_text.NodeLine.TheVariants as lines

-- while cells are left, the next line is that of the next
pub next_cell : (node : NodePage) (next : NodeLine) (blocks : List Span) (index : ℕ) → next ≡ lines.Cell index → index < cell_count node
    → node_lines_from next node blocks ≡ cell_line node index ∷ (cell_lines_from node (index + 1) ++ (right_lines (right_child node) ++ block_lines 0 blocks))
next_cell node next blocks index is left =
    let one_less : cell_count node - index ≡ suc (cell_count node - (index + 1)) = omega arith in
    ap (λ (line : NodeLine). node_lines_from line node blocks) is
    ∙ ap (λ (n : ℕ). map (cell_line node) (range_with_len index n) ++ (right_lines (right_child node) ++ block_lines 0 blocks)) one_less

-- no cell is left
pub past_cells : (node : NodePage) (next : NodeLine) (blocks : List Span) → IsPastCells next (cell_count node)
    → node_lines_from next node blocks ≡ right_lines (right_child node) ++ block_lines 0 blocks
past_cells node (lines.Cell index) blocks past =
    let none : cell_count node - index ≡ 0 = omega arith in
    ap (λ (n : ℕ). map (cell_line node) (range_with_len index n) ++ (right_lines (right_child node) ++ block_lines 0 blocks)) none
past_cells node (lines.Header) blocks past = absurd past
past_cells node (lines.Freeblock number) blocks past = absurd past

-- and a right-most child is
pub next_right : (node : NodePage) (next : NodeLine) (blocks : List Span) (page : ℕ) → IsPastCells next (cell_count node) → right_child node ≡ Some page
    → node_lines_from next node blocks ≡ right_lines (Some page) ++ block_lines 0 blocks
next_right node next blocks page past is = past_cells node next blocks past ∙ ap (λ (o : Option ℕ). right_lines o ++ block_lines 0 blocks) is
