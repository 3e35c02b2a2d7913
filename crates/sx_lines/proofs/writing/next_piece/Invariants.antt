use Rattle.std.proofs.Common.{length, string_bytes}
use Rattle.sx_lines.proofs.Fronts.{IsCollected}
use Rattle.sx_lines.proofs.writing.next_piece.Given as goal

abbrev pub invariant-loop-lines : goal.invariant-loop-lines
invariant-loop-lines g l = IsCollected (g.L.Lines.lines l.initial.lines) (g.L.Lines.lines l.lines) (string_bytes l.piece)

abbrev pub decreases-loop-lines : goal.decreases-loop-lines
decreases-loop-lines g l = length (g.L.Lines.lines l.lines)
