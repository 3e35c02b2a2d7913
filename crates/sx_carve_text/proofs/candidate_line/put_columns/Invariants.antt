use Rattle.std.proofs.Common.{◌≡◌, ◌++◌, length}
use Rattle.std.specs.Prelude.{string_bytes}
use Rattle.sx_carve_text.specs.Carve.{columns_text}
use Rattle.sx_carve_text.proofs.candidate_line.put_columns.Given as goal

abbrev pub invariant-loop-column : goal.invariant-loop-column
invariant-loop-column l = string_bytes l.line ++ columns_text l.encoding l.columns ≡ string_bytes l.fn.line ++ columns_text l.encoding l.fn.columns

abbrev pub decreases-loop-column : goal.decreases-loop-column
decreases-loop-column l = length l.columns
