use Rattle.std.proofs.Common.{◌≡◌, ◌++◌, Some, codes, sym, ◌∙◌}
use Rattle.std.specs.Fmt.{decimal}
use Rattle.sx_node.specs.Nodes.{right_child}
use Rattle.sx_page_text.proofs.NodeCells.{next_right}
use Rattle.sx_page_text.proofs.node_lines.NodeLines.next_behind_cells.Goals as goal

pub returns-in_ok-put_right_line-in-Some : goal.returns-in_ok-put_right_line-in-Some
returns-in_ok-put_right_line-in-Some c =
    let is : right_child c.args.self.now.node ≡ Some c.in-Some.page = sym c.right.ensures ∙ c.in-Some.is in
    (codes "right " ++ decimal c.in-Some.page, next_right c.args.self.now.node c.args.self.now.next c.args.self.now.blocks c.in-Some.page c.requires is, c.in_ok-put_right_line-in-Some.ensures)
