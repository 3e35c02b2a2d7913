use Rattle.std.proofs.Common.{◌≡◌, ◌+◌, length, drop}
use Rattle.sx_record.specs.Standing.{Stands}
use Rattle.sx_record.proofs.utf8.standing_len.Given as goal

abbrev pub invariant-loop-rest : goal.invariant-loop-rest
invariant-loop-rest l = record {
  stands : Stands l.bytes l.len;
  left : l.rest ≡ drop l.len l.bytes;
  within : l.len + length l.rest ≡ length l.bytes;
}

abbrev pub decreases-loop-rest : goal.decreases-loop-rest
decreases-loop-rest l = length l.rest
