use Rattle.std.proofs.Common.{◌≡◌, ◌-◌, ◌*◌, drop}
use Rattle.sx_wal.specs.Checksum.{sums_over, sums_of}
use Rattle.sx_wal.proofs.checksum.sums.Given as goal

-- the pairs that are left lead from the sums so far to those of all bytes
abbrev pub invariant-loop-pair : goal.invariant-loop-pair
invariant-loop-pair l =
    sums_over l.big (l.pair-end - l.pair) (l.first, l.second) (drop (8 * l.pair) l.bytes) ≡ sums_of l.big l.fn.s l.bytes
