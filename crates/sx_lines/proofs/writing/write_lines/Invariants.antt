use Rattle.std.proofs.Common.{◌≤◌, length}
use Rattle.sx_lines.proofs.Fronts.{IsWritten}
use Rattle.sx_lines.proofs.writing.write_lines.Given as goal

abbrev pub invariant-loop-piece : goal.invariant-loop-piece
invariant-loop-piece g l = record {
  written : IsWritten (g.W.Sink.taken l.initial.out) (g.W.Sink.taken l.out) (g.L.Lines.lines l.initial.lines) (g.L.Lines.lines l.lines);
  later : g.W.Sink.faults l.initial.out ≤ g.W.Sink.faults l.out;
}

abbrev pub decreases-loop-piece : goal.decreases-loop-piece
decreases-loop-piece g l = length (g.L.Lines.lines l.lines)
