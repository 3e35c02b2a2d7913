use Rattle.std.proofs.Common.{◌-◌}
use Rattle.sx_gen.specs.Pages.{inner_cell}
use Rattle.sx_gen.proofs.Lists.{piece_more}
use Rattle.sx_gen.proofs.pages.put_inner_cells.Goals as goal

pub loop-k-preserved : goal.loop-k-preserved
loop-k-preserved c =
    piece_more (λ k. inner_cell (c.args.count - 1 - k)) c.loop-k.k _ _ _ c.loop-k.invariant c.in_ok-put_inner_cell.ensures
