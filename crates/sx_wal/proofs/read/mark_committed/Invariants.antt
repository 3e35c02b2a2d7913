use Rattle.std.proofs.Common.{◌≡◌, ◌++◌, map, take, drop}
use Rattle.sx_wal.specs.Walk.{as_committed}
use Rattle.sx_wal.proofs.read.mark_committed.Given as goal

abbrev pub invariant-loop-i : goal.invariant-loop-i
invariant-loop-i l = l.slots ≡ map as_committed (take l.i l.initial.slots) ++ drop l.i l.initial.slots
