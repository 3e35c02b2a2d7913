-- The lines of a b-tree page from one on.
use Rattle.std.specs.Prelude.{ℕ, ◌-◌, ◌≤◌, List, ◌∷◌, ◌++◌, map}
use Rattle.std.specs.List.{range_with_len}
use Rattle.sx_base.specs.declared.evidence.Span.{Span}
use Rattle.sx_node.specs.Nodes.{NodePage, cell_count, right_child}
use Rattle.sx_page_text.specs.NodeText.{header_line, cell_line, right_lines, block_lines}
use Rattle.sx_page_text.specs.declared.node_text.NodeLine.{NodeLine}
use Rattle.sx_page_text.specs.declared.node_text.NodeLine.TheVariants as lines

-- the lines of the cells from an index on
abbrev pub cell_lines_from : NodePage → ℕ → List (List ℕ)
cell_lines_from node index = map (cell_line node) (range_with_len index (cell_count node - index))

-- the lines of a b-tree page from one on
abbrev pub node_lines_from : NodeLine → NodePage → List Span → List (List ℕ)
node_lines_from lines.Header node blocks = header_line node ∷ cell_lines_from node 0 ++ (right_lines (right_child node) ++ block_lines 0 blocks)
node_lines_from (lines.Cell index) node blocks = cell_lines_from node index ++ (right_lines (right_child node) ++ block_lines 0 blocks)
node_lines_from (lines.Freeblock number) node blocks = block_lines number blocks

-- how many freeblocks came before the next line
abbrev pub numbered : NodeLine → ℕ
numbered (lines.Freeblock number) = number
numbered line = 0

-- so many cells were written, and none is left
abbrev pub IsPastCells : NodeLine → ℕ → Type 0
IsPastCells (lines.Cell index) count = count ≤ index
IsPastCells line count = ⊥
