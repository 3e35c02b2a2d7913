use Rattle.std.proofs.Common.{append_assoc}
use Rattle.sx_carve_text.specs.Spilled.{completed_line}
use Rattle.sx_carve_text.proofs.spilled.put_completed_count.Goals as goal

pub returns : goal.returns
unfolding completed_line
returns c = let cleared = c.clear.ensures.bytes in simp append_assoc (simp (append_assoc, cleared) at c.writeln.ensures.bytes)
