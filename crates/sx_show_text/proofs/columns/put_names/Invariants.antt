use Rattle.std.proofs.Common.{◌≡◌, ◌++◌, drop}
use Rattle.std.specs.Prelude.{string_bytes}
use Rattle.sx_show_text.specs.Columns.{names_text}
use Rattle.sx_show_text.proofs.Names.{bytes_of}
use Rattle.sx_show_text.proofs.columns.put_names.Given as goal

abbrev pub invariant-loop-place : goal.invariant-loop-place
invariant-loop-place l =
    string_bytes l.line ++ names_text (bytes_of (drop l.place l.names)) ≡ string_bytes l.fn.line ++ names_text (bytes_of l.names)
