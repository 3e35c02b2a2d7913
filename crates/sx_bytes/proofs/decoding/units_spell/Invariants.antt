use Rattle.std.proofs.Common.{◌≡◌, length}
use Rattle.std.specs.Char.Utf16.{utf16_chars}
use Rattle.sx_bytes.specs.Decoding.{units_of, is_spelled}
use Rattle.sx_bytes.proofs.decoding.units_spell.Given as goal

abbrev pub invariant-loop-unit : goal.invariant-loop-unit
invariant-loop-unit l = is_spelled (utf16_chars (units_of l.encoding l.rest)) l.left ≡ is_spelled (utf16_chars (units_of l.encoding l.bytes)) l.word

abbrev pub decreases-loop-unit : goal.decreases-loop-unit
decreases-loop-unit l = length l.rest
