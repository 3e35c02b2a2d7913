use Rattle.std.proofs.Common.{◌≡◌, ◌++◌}
use Rattle.std.specs.List.{flat_map, range_with_len}
use Rattle.sx_gen.specs.Pages.{leaf_page, rows_of_leaf}
use Rattle.sx_gen.proofs.pages.put_leaf_pages.Given as goal

abbrev pub invariant-loop-leaf : goal.invariant-loop-leaf
invariant-loop-leaf l = l.out.items ≡ l.fn.out.items ++ flat_map (λ leaf. leaf_page l.letters leaf rows_of_leaf) (range_with_len 0 l.leaf)
