use Rattle.std.proofs.Common.{◌≡◌, ◌++◌, length}
use Rattle.std.specs.String.{string_bytes}
use Rattle.sx_bytes.specs.Decoding.{units_of, odd_byte}
use Rattle.sx_record.specs.Utf16.{units_text}
use Rattle.sx_record.proofs.utf16.put_utf16.Given as goal

abbrev pub invariant-loop-unit : goal.invariant-loop-unit
invariant-loop-unit l = record {
  units : string_bytes l.line ++ units_text (units_of l.encoding l.rest) ≡ string_bytes l.initial.line ++ units_text (units_of l.encoding l.bytes);
  last : odd_byte l.rest ≡ odd_byte l.bytes;
}

abbrev pub decreases-loop-unit : goal.decreases-loop-unit
decreases-loop-unit l = length l.rest
