use Rattle.std.proofs.Common.{append_assoc}
use Rattle.sx_map_text.specs.Map.{totals_line}
use Rattle.sx_map_text.proofs.totals.put_totals_line.Goals as goal

pub returns : goal.returns
unfolding totals_line
returns c = let cleared = c.clear.ensures.bytes in simp append_assoc (simp (append_assoc, cleared) at c.writeln.ensures.bytes)
