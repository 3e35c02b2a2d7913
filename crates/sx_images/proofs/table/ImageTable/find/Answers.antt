use Rattle.std.proofs.Common.{◌∙◌, sym}
use Rattle.sx_images.proofs.Imaged.{begun_both_ways}
use Rattle.sx_images.proofs.table.ImageTable.find.Goals as goal

pub returns : goal.returns
returns c = λ i.
    let both = begun_both_ways c.place_of.result i in
    let held = c.place_of.ensures.image i 0 in
    (λ is. held.0 (both.0 (sym c.begun.ensures ∙ is)), λ holds. c.begun.ensures ∙ both.1 (held.1 holds))
