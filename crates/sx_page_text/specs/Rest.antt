-- How far the writing of `page` has come: the lines to come.
use Rattle.std.specs.Prelude.{ℕ, Bool, List, [], ◌∷◌, Option}
use Rattle.sx_base.specs.declared.evidence.Place.{Place}
use Rattle.sx_node.specs.Nodes.{cell_count}
use Rattle.sx_page_text.specs.NodeText.{node_fault_line}
use Rattle.sx_page_text.specs.Page.{source_line}
use Rattle.sx_page_text.specs.Places.{node_lines_from, IsPastCells}
use Rattle.sx_page_text.specs.declared.node_lines.NodeLines.{NodeLines}
use Rattle.sx_page_text.specs.declared.page.PageLines.{PageLines}
use Rattle.sx_page_text.specs.declared.page.PageLine.{PageLine}
use Rattle.sx_page_text.specs.declared.page.PageLine.TheVariants.{First, Body}
use Rattle.sx_page_text.specs.declared.page_body.PageBody.{PageBody}
use Rattle.sx_page_text.specs.declared.page_body.PageBody.TheVariants.{End, Fault, Node}

-- the lines of a b-tree page to come
abbrev pub node_rest : NodeLines → List (List ℕ)
node_rest one = node_lines_from one.next one.node one.blocks

-- no cell is left, and what stands behind the cells is next
abbrev pub IsBehindCells : NodeLines → Type 0
IsBehindCells one = IsPastCells one.next (cell_count one.node)

-- the lines behind the first to come
abbrev pub body_rest : PageBody → List (List ℕ)
body_rest End = []
body_rest (Fault fault) = node_fault_line fault ∷ []
body_rest (Node lines) = node_rest lines

-- the lines from one on
abbrev pub page_lines_from : PageLine → ℕ → Option Place → Bool → PageBody → List (List ℕ)
page_lines_from First number source uncertain body = source_line number source uncertain ∷ body_rest body
page_lines_from Body number source uncertain body = body_rest body

-- the lines to come
abbrev pub page_rest : PageLines → List (List ℕ)
page_rest lines = page_lines_from lines.next lines.number lines.source lines.uncertain lines.body
