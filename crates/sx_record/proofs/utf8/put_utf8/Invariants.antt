use Rattle.std.proofs.Common.{◌≡◌, ◌++◌, length}
use Rattle.std.specs.String.{string_bytes}
use Rattle.sx_record.specs.Utf8.{utf8_text}
use Rattle.sx_record.proofs.utf8.put_utf8.Given as goal

abbrev pub invariant-loop-rest : goal.invariant-loop-rest
invariant-loop-rest l = string_bytes l.line ++ utf8_text l.rest ≡ string_bytes l.initial.line ++ utf8_text l.bytes

abbrev pub decreases-loop-rest : goal.decreases-loop-rest
decreases-loop-rest l = length l.rest
