use Rattle.std.proofs.Common.{◌+◌, ◌-◌, ◌*◌}
use Rattle.sx_gen.specs.Pages.{row_cell, rows_of_leaf}
use Rattle.sx_gen.proofs.Lists.{piece_more}
use Rattle.sx_gen.proofs.pages.put_leaf_cells.Goals as goal

pub loop-k-preserved : goal.loop-k-preserved
loop-k-preserved c =
    piece_more (λ k. row_cell c.args.letters.now (rows_of_leaf * c.args.leaf + (19 - k))) c.loop-k.k _ _ _ c.loop-k.invariant c.in_ok-put_row_cell.ensures
