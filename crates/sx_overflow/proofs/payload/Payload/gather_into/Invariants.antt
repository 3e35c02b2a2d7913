use Rattle.std.proofs.Common.{◌≡◌, ◌+◌, ◌≤◌, ◌++◌, true, length, vec_len, vec_capacity}
use Rattle.std.specs.List.{concat}
use Rattle.sx_overflow.proofs.payload.Payload.gather_into.Given as goal

abbrev pub invariant-loop-piece : goal.invariant-loop-piece
invariant-loop-piece g l = record {
  joined : l.bytes.items ++ concat l.self.pieces ≡ l.fn.bytes.items ++ concat l.fn.self.pieces;
  room : vec_len l.bytes + length (concat l.self.pieces) ≤ vec_capacity l.bytes;
  sound : l.fn.self.whole ≡ true;
  whole : l.self.whole ≡ l.fn.self.whole;
}

abbrev pub decreases-loop-piece : goal.decreases-loop-piece
decreases-loop-piece g l = length l.self.pieces
