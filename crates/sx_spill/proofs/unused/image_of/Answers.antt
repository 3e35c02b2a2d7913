use Rattle.std.proofs.Common.{Some, ap, ◌∙◌}
use Rattle.std.proofs.lemmas.Option.{slice_get_within}
use Rattle.sx_images.specs.Images.{images_of}
use Rattle.sx_spill.proofs.unused.image_of.Goals as goal

pub returns-in-Some-Image-clause-there : goal.returns-in-Some-Image-clause-there
returns-in-Some-Image-clause-there c =
    let holds = (c.place_of.ensures.image c.in-Some-Image.image c.in-Some-Image.field-0-1).0 (c.in-Some-Image.is ∙ ap Some c.in-Some-Image.field-0-is) in
    slice_get_within (images_of c.args.images.now) c.in-Some-Image.image holds.image holds.there
