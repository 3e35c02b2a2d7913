use Rattle.std.proofs.Common.{◌<◌, rules}
use Rattle.sx_node.specs.Nodes.{cell_count}
use Rattle.sx_page_text.specs.NodeText.{cell_line}
use Rattle.sx_page_text.proofs.NodeCells.{next_cell}
use Rattle.sx_page_text.proofs.node_lines.NodeLinesLines.next_line.Goals as goal

pub returns-in_ok-put_cell_line-in-Cell : goal.returns-in_ok-put_cell_line-in-Cell
returns-in_ok-put_cell_line-in-Cell c =
    let left : c.in-Cell.index < cell_count c.args.self.now.node = search rules in
    (cell_line c.args.self.now.node c.in-Cell.index, next_cell c.args.self.now.node c.args.self.now.next c.args.self.now.blocks c.in-Cell.index c.in-Cell.is left, c.in_ok-put_cell_line-in-Cell.ensures)
