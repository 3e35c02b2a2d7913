use Rattle.std.proofs.Common.{◌≡◌, map, take}
use Rattle.sx_generations.specs.Confirmed.{nonce_of}
use Rattle.sx_generations.proofs.nonces.nonces_of.Given as goal

abbrev pub invariant-loop-i : goal.invariant-loop-i
invariant-loop-i l = l.nonces.items ≡ map (nonce_of l.fn.page_size l.bytes) (take l.i l.journal.entries)
