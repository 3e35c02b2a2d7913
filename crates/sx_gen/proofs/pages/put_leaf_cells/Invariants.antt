use Rattle.std.proofs.Common.{◌≡◌, ◌+◌, ◌-◌, ◌*◌, ◌++◌}
use Rattle.std.specs.List.{flat_map, range_with_len}
use Rattle.sx_gen.specs.Pages.{row_cell, rows_of_leaf}
use Rattle.sx_gen.proofs.pages.put_leaf_cells.Given as goal

abbrev pub invariant-loop-k : goal.invariant-loop-k
invariant-loop-k l =
    l.out.items ≡ l.fn.out.items ++ flat_map (λ k. row_cell l.letters (rows_of_leaf * l.leaf + (19 - k))) (range_with_len 0 l.k)
