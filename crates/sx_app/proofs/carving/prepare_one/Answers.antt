use Rattle.std.proofs.Common.{ap, ◌∙◌}
use Rattle.sx_images.specs.Images.{Table}
use Rattle.sx_app.proofs.Layouts.{image_size_is}
use Rattle.sx_app.proofs.carving.prepare_one.Goals as goal

pub sweep-requires : goal.sweep-requires
sweep-requires c = ap (λ (t : Table). t.page_size) c.in_ok-images.ensures.told ∙ image_size_is c.args.case.now
