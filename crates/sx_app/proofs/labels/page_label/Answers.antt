use Rattle.std.proofs.Common.{sym, subst, ◌<◌}
use Rattle.sx_moment.specs.Gathered.{size_at}
use Rattle.sx_moment.specs.Heads.{layout_of}
use Rattle.sx_moment.specs.Views.{view_of}
use Rattle.sx_app.specs.Labels.{roots_at}
use Rattle.sx_app.proofs.Layouts.{page_label_is, page_size_is}
use Rattle.sx_app.proofs.labels.page_label.Goals as goal

pub returns-clause-told : goal.returns-clause-told
returns-clause-told c =
    let case = c.args.snapshot.now.case.now in
    let moment = c.args.snapshot.now.moment in
    page_label_is (size_at case moment) (view_of case moment) c.layout.result (layout_of case moment) (roots_at case moment) c.args.refs.now c.args.page c.args.byte
    c.label_at.result c.in_ok-map.map c.layout.ensures.layout c.in_ok-map.ensures.labels c.requires.refs
    (subst (λ size. c.args.byte < size) (sym (page_size_is case moment)) c.requires.within) c.label_at.ensures
