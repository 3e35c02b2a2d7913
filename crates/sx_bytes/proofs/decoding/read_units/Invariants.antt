use Rattle.std.proofs.Common.{◌≡◌, ◌++◌, length}
use Rattle.sx_bytes.specs.Decoding.{units_of}
use Rattle.sx_bytes.proofs.decoding.read_units.Given as goal

abbrev pub invariant-loop-unit : goal.invariant-loop-unit
invariant-loop-unit l = l.units.items ++ units_of l.encoding l.rest ≡ units_of l.encoding l.bytes

abbrev pub decreases-loop-unit : goal.decreases-loop-unit
decreases-loop-unit l = length l.rest
