use Rattle.std.proofs.Common.{ap, ◌∙◌}
use Rattle.sx_moment.specs.Heads.{layout_of, encoding_at}
use Rattle.sx_base.specs.declared.layout.Layout.{Layout}
use Rattle.sx_app.proofs.Carved.{are_of, fits, lines_are}
use Rattle.sx_app.proofs.carving.carve_lines.Goals as goal

pub new-requires-clause-fit : goal.new-requires-clause-fit
new-requires-clause-fit c =
    let last = c.args.snapshot.now.moment in
    fits c.args.case.now c.requires.made.0 last c.args.made.now c.layout.result c.as_slice.result.now c.requires.made.1 c.layout.ensures.ranges
    (c.layout.ensures.layout ∙ ap (λ case. layout_of case last) c.requires.case) c.as_slice.ensures.value

pub new-requires-clause-images : goal.new-requires-clause-images
new-requires-clause-images c =
    rw (c.evidence.ensures.database, c.evidence.ensures.wal, c.evidence.ensures.journal) (are_of c.args.case.now c.args.made.now.images c.requires.made.1.images)

pub returns : goal.returns
returns c = λ moments is.
    let last = c.args.snapshot.now.moment in
    c.new.ensures
    ∙ lines_are c.args.case.now moments last c.args.made.now c.encoding.result c.layout.result.usable c.as_slice.result.now _ _ _ is
    (c.encoding.ensures ∙ ap (λ case. encoding_at case last) c.requires.case)
    (ap (λ (l : Layout). l.usable) (c.layout.ensures.layout ∙ ap (λ case. layout_of case last) c.requires.case))
    c.as_slice.ensures.value c.evidence.ensures.database c.evidence.ensures.wal c.evidence.ensures.journal
