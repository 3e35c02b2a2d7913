use Rattle.std.proofs.Common.{append_assoc}
use Rattle.sx_timeline_text.specs.Timeline.{log_text}
use Rattle.sx_timeline_text.proofs.timeline.put_log_line.Goals as goal

pub returns : goal.returns
unfolding log_text
returns c = let cleared = c.clear.ensures.bytes in simp append_assoc (simp (append_assoc, cleared) at c.writeln.ensures.bytes)
