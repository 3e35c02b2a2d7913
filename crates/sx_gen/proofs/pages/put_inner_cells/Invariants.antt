use Rattle.std.proofs.Common.{◌≡◌, ◌-◌, ◌++◌}
use Rattle.std.specs.List.{flat_map, range_with_len}
use Rattle.sx_gen.specs.Pages.{inner_cell}
use Rattle.sx_gen.proofs.pages.put_inner_cells.Given as goal

abbrev pub invariant-loop-k : goal.invariant-loop-k
invariant-loop-k l = l.out.items ≡ l.fn.out.items ++ flat_map (λ k. inner_cell (l.count - 1 - k)) (range_with_len 0 l.k)
