use Rattle.std.proofs.Common.{◌∙◌, sym}
use Rattle.sx_map_text.proofs.Begun.{some_line}
use Rattle.sx_map_text.proofs.map_lines.begin_page.Goals as goal

pub unreachable-requires : goal.unreachable-requires
unreachable-requires c =
    let none = rw c.if-not-branch.true at c.in_ok-next_line.ensures in
    some_line c.args.page c.args.map c.requires (sym c.new-lines.ensures ∙ none)
