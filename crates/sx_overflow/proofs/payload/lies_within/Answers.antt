use Rattle.sx_overflow.proofs.CellRanges.{is_within}
use Rattle.sx_overflow.proofs.payload.lies_within.Goals as goal

pub returns : goal.returns
returns c = is_within c.args.page.now c.args.usable c.args.cell.now c.requires.least c.requires.held c.requires.read
