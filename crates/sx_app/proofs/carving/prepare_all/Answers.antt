use Rattle.std.proofs.Common.{ap, ◌∙◌}
use Rattle.sx_images.specs.Images.{Table}
use Rattle.sx_app.proofs.Layouts.{image_size_is}
use Rattle.sx_app.proofs.carving.prepare_all.Goals as goal

pub sweep_all-requires : goal.sweep_all-requires
sweep_all-requires c = ap (λ (t : Table). t.page_size) c.in_ok-images.ensures.told ∙ image_size_is c.args.case.now
