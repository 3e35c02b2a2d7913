use Rattle.std.proofs.Common.{subst}
use Rattle.sx_images.specs.Read.{IsTable}
use Rattle.sx_images.proofs.Ordered.{images_before}
use Rattle.sx_images.proofs.table.ImageTable.images_stand_in_order.Goals as goal

pub returns : goal.returns
returns c = λ i j first second before is also.
    images_before c.args.self.now i j first second (subst IsTable c.self.view_is c.self.invariant) before is also
