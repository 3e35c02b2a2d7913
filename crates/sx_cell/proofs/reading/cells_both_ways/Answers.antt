use Rattle.sx_cell.proofs.CellLemmas.{stands_taken, stands_again}
use Rattle.sx_cell.proofs.FaultLemmas.{long_taken, long_again}
use Rattle.sx_cell.proofs.OutsideLemmas.{outside_taken, outside_again}
use Rattle.sx_cell.proofs.reading.cells_both_ways.Goals as goal

pub returns-clause-stands : goal.returns-clause-stands
returns-clause-stands c kind page at usable cell held =
    (stands_taken kind page at usable cell held, stands_again kind page at usable cell held)

pub returns-clause-too_long : goal.returns-clause-too_long
returns-clause-too_long c kind page at usable held = (long_taken kind page at usable, long_again kind page at usable)

pub returns-clause-outside : goal.returns-clause-outside
returns-clause-outside c kind page at usable held =
    (outside_taken kind page at usable held, outside_again kind page at usable held)
