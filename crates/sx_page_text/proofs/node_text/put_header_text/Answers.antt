use Rattle.std.proofs.Common.{append_assoc}
use Rattle.sx_page_text.specs.NodeText.{header_text}
use Rattle.sx_page_text.proofs.node_text.put_header_text.Goals as goal

pub returns : goal.returns
unfolding header_text
returns c = let cleared = c.clear.ensures.bytes in simp append_assoc (simp (append_assoc, cleared) at c.writeln.ensures.bytes)
