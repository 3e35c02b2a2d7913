use Rattle.std.proofs.Common.{◌≡◌, ◌++◌}
use Rattle.std.specs.Prelude.{string_bytes}
use Rattle.sx_show_text.specs.Columns.{missing_text}
use Rattle.sx_show_text.proofs.Names.{bytes_of}
use Rattle.sx_show_text.proofs.values.put_marks.Given as goal

abbrev pub invariant-loop-place : goal.invariant-loop-place
invariant-loop-place l =
    string_bytes l.line ++ missing_text (bytes_of l.names) l._place ≡ string_bytes l.fn.line ++ missing_text (bytes_of l.names) l.count
