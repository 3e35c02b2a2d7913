use Rattle.std.proofs.Common.{◌≡◌, ◌++◌, length}
use Rattle.std.specs.Prelude.{string_bytes}
use Rattle.sx_carve_text.specs.Spilled.{values_text}
use Rattle.sx_carve_text.proofs.whole_line.put_values.Given as goal

abbrev pub invariant-loop-value : goal.invariant-loop-value
invariant-loop-value l = string_bytes l.line ++ values_text l.encoding l.values ≡ string_bytes l.fn.line ++ values_text l.encoding l.fn.values

abbrev pub decreases-loop-value : goal.decreases-loop-value
decreases-loop-value l = length l.values
