use Rattle.std.proofs.Common.{◌≡◌, ◌^◌, ◌<◌, ◌≤◌, drop}
use Rattle.sx_bytes.specs.Varints.{varint_from, varint_at}
use Rattle.sx_bytes.proofs.varints.longer_varint.Given as goal

abbrev pub invariant-loop-read : goal.invariant-loop-read
invariant-loop-read l = record {
  short : l.read ≤ 8;
  fits : l.value < 128 ^ l.read;
  same : varint_from l.read l.value (drop l.read l.bytes) ≡ varint_at l.bytes;
}
