use Rattle.std.proofs.Common.{◌≡◌, map}
use Rattle.std.specs.List.{range_with_len}
use Rattle.sx_gen.specs.Draws.{state_after, letter}
use Rattle.sx_gen.proofs.draws.draw_letters.Given as goal

abbrev pub invariant-loop-k : goal.invariant-loop-k
invariant-loop-k l = record {
  state : l.draws.state ≡ state_after l.fn.draws.state l.k;
  so_far : l.drawn.items ≡ map (letter l.fn.draws.state) (range_with_len 0 l.k);
}
