use Rattle.std.proofs.Common.{◌≡◌, ◌∙◌, ap, length}
use Rattle.sx_base.specs.declared.layout.Layout.{Layout}
use Rattle.sx_moment.specs.Heads.{layout_of}
use Rattle.sx_app.proofs.Counting.{drained}
use Rattle.sx_app.proofs.Carved.{are_of, count_is, fits}
use Rattle.sx_app.proofs.carving.count_candidates.Goals as goal

pub over-candidates-requires-clause-fit : goal.over-candidates-requires-clause-fit
over-candidates-requires-clause-fit c =
    let last = c.args.snapshot.now.moment in
    fits c.args.case.now c.requires.made.0 last c.args.made.now c.layout.result c.as_slice.result.now c.requires.made.1 c.layout.ensures.ranges
    (c.layout.ensures.layout ∙ ap (λ case. layout_of case last) c.requires.case) c.as_slice.ensures.value

pub over-candidates-requires-clause-images : goal.over-candidates-requires-clause-images
over-candidates-requires-clause-images c =
    rw (c.evidence.ensures.database, c.evidence.ensures.wal, c.evidence.ensures.journal) (are_of c.args.case.now c.args.made.now.images c.requires.made.1.images)

pub returns : goal.returns
returns c =
    let last = c.args.snapshot.now.moment in
    let counted : c.count.result ≡ length c.over-candidates.result = c.count.ensures.ran.2 ∙ drained c.over-candidates.result c.count.ensures.ran.0 c.count.ensures.ran.1 in
    λ moments is. counted ∙ ap length c.over-candidates.ensures.all
    ∙ count_is c.args.case.now moments last c.args.made.now c.layout.result.usable c.as_slice.result.now _ _ _ is
    (ap (λ (l : Layout). l.usable) (c.layout.ensures.layout ∙ ap (λ case. layout_of case last) c.requires.case))
    c.as_slice.ensures.value c.evidence.ensures.database c.evidence.ensures.wal c.evidence.ensures.journal
