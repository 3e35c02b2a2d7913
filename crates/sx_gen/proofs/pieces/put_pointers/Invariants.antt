use Rattle.std.proofs.Common.{◌≡◌, ◌+◌, ◌-◌, ◌*◌, ◌++◌}
use Rattle.std.specs.Int.{w16, to_be_bytes}
use Rattle.std.specs.List.{flat_map, range_with_len}
use Rattle.sx_gen.proofs.pieces.put_pointers.Given as goal

abbrev pub invariant-loop-i : goal.invariant-loop-i
invariant-loop-i l = record {
  place : l.start + l.size * l._i ≡ 4096;
  so_far : l.out.items ≡ l.fn.out.items ++ flat_map (λ i. to_be_bytes w16 (4096 - l.size * (i + 1))) (range_with_len 0 l._i);
}
