-- What holds of each cell holds of the one that was read.
use Rattle.std.proofs.Common.{◌≡◌, rules}
use Rattle.sx_cell.specs.Reading.{cell_of}
use Rattle.sx_cell.proofs.CellLemmas.{found_ranges, found_read}
use Rattle.sx_cell.proofs.reading.read_cell.Goals as goal

pub returns-clause-ranges : goal.returns-clause-ranges
unfolding cell_of
returns-clause-ranges c =
    let exact : c.read_front.result ≡ cell_of c.args.kind c.args.page.now c.args.at c.args.usable = search rules in
    found_ranges c.args.kind c.args.page.now c.args.at c.args.usable c.read_front.result c.requires.least c.requires.within exact

pub returns-clause-read : goal.returns-clause-read
unfolding cell_of
returns-clause-read c =
    let exact : c.read_front.result ≡ cell_of c.args.kind c.args.page.now c.args.at c.args.usable = search rules in
    found_read c.args.kind c.args.page.now c.args.at c.args.usable c.read_front.result c.requires.within exact
