use Rattle.std.proofs.Common.{◌≡◌, ◌+◌, ◌++◌, length}
use Rattle.std.specs.Prelude.{string_bytes}
use Rattle.sx_show_text.specs.Columns.{values_text}
use Rattle.sx_show_text.proofs.values.put_values.Given as goal

abbrev pub invariant-loop-value : goal.invariant-loop-value
invariant-loop-value l = record {
  written : string_bytes l.line ++ values_text l.encoding l.rowid l.alias l.place l.values
      ≡ string_bytes l.fn.line ++ values_text l.encoding l.rowid l.alias 0 l.columns;
  counted : l.place + length l.values ≡ length l.columns;
}

abbrev pub decreases-loop-value : goal.decreases-loop-value
decreases-loop-value l = length l.values
