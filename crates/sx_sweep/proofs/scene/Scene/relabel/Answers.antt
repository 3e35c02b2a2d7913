use Rattle.std.proofs.Common.{◌≤◌, sym, ◌∙◌, arith}
use Rattle.sx_images.specs.Images.{images_of}
use Rattle.sx_sweep.proofs.LabelLemmas.{told_fits, passes_same, passes_hidden}
use Rattle.sx_sweep.proofs.scene.Scene.relabel.Goals as goal

pub returns-in_default : goal.returns-in_default
returns-in_default c =
    let sweep = c.args.self.now.sweep.now in
    passes_hidden sweep.case sweep.moment sweep.numbers c.args.self.now.table.now c.args.self.now.layout.now c.args.self.now.images.now c.args.known.now.owned c.args.known.now.sums c.hide.new.self c.args.rank
    c.requires.rank c.in_default.ensures c.requires.known c.hide.ensures

pub show-requires-clause-page : goal.show-requires-clause-page
show-requires-clause-page c =
    let sweep = c.args.self.now.sweep.now in
    let small : sweep.case.header.page_size ≤ 65536 = omega (arith, c.args.self.now.pages, c.args.self.now.laid.size.greatest) in
    told_fits sweep.case (images_of c.args.self.now.images.now) c.args.known.now.owned c.in-Some-same_labels.labelled small
    (c.requires.known.told c.args.rank c.in-Some-same_labels.labelled (sym c.last.ensures ∙ c.in-Some-same_labels.ensures.0))

pub returns-in-Some-same_labels : goal.returns-in-Some-same_labels
returns-in-Some-same_labels c =
    let sweep = c.args.self.now.sweep.now in
    passes_same sweep.case sweep.moment sweep.numbers c.args.self.now.table.now c.args.self.now.layout.now c.args.self.now.images.now c.args.known.now.owned c.args.known.now.sums c.show.new.self c.args.rank
    c.number-no.result c.in-Some.place c.page_key-key.result c.in-Some-same_labels.labelled c.requires.rank c.number-no.ensures c.in-Some.ensures c.page_key-key.ensures.exact c.requires.known
    (sym c.last.ensures ∙ c.in-Some-same_labels.ensures.0) c.in-Some-same_labels.ensures.1 c.in-Some-same_labels.ensures.2 c.show.ensures
