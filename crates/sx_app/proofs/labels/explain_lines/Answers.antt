use Rattle.std.proofs.Common.{◌<◌, Some, ap, subst, sym, ◌∙◌}
use Rattle.sx_app.proofs.Layouts.{image_size_is}
use Rattle.sx_app.proofs.labels.explain_lines.Goals as goal

pub physical_label-requires-clause-within : goal.physical_label-requires-clause-within
physical_label-requires-clause-within c = λ i b is.
    let holds = (c.in-Some.ensures.image i b).0 (ap Some is) in
    let size = ap (λ table. table.page_size) c.requires.images ∙ image_size_is c.args.case.now ∙ ap (λ case. case.header.page_size) (sym c.requires.case) in
    subst (λ size. b < size) size holds.within
