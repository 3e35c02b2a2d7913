use Rattle.std.proofs.Common.{ap, arith, length}
use Rattle.sx_images.specs.Images.{Table}
use Rattle.sx_images.proofs.Imaged.{count_is}
use Rattle.sx_images.proofs.table.ImageTable.count.Goals as goal

pub returns : goal.returns
returns c =
    let stored = ap (λ (t : Table). length t.stored) c.self.view_is in
    let is = count_is c.args.self.now in
    omega (arith, stored, is, c.pages.ensures, c.len.ensures)
