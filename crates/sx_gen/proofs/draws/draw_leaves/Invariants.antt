use Rattle.std.proofs.Common.{◌≡◌, map}
use Rattle.std.specs.List.{range_with_len}
use Rattle.sx_gen.specs.Draws.{state_after, taken_leaf}
use Rattle.sx_gen.proofs.draws.draw_leaves.Given as goal

abbrev pub invariant-loop-k : goal.invariant-loop-k
invariant-loop-k l = record {
  state : l.draws.state ≡ state_after l.fn.draws.state l._k;
  so_far : l.taken.items ≡ map (taken_leaf l.fn.draws.state l.leaves) (range_with_len 0 l._k);
}
