use Rattle.sx_cell.proofs.CellLemmas.{read_ranges}
use Rattle.sx_cell.proofs.reading.cells_lie_in_page.Goals as goal

pub returns : goal.returns
returns c = read_ranges
