use Rattle.std.proofs.Common.{ap, ◌∙◌}
use Rattle.sx_moment.specs.Heads.{layout_of, encoding_at}
use Rattle.sx_base.specs.declared.layout.Layout.{Layout}
use Rattle.sx_spill.specs.Unused.{unused_by}
use Rattle.sx_app.proofs.Carved.{are_of, fits, spill_fits, spilled_are}
use Rattle.sx_app.proofs.carving.spill_lines.Goals as goal

pub over-spill-requires : goal.over-spill-requires
over-spill-requires c =
    let last = c.args.snapshot.now.moment in
    spill_fits c.args.case.now c.args.snapshot.now.case.now c.requires.made.0 last c.args.made.now c.layout-layout.result c.requires.made.1 c.layout-layout.ensures.ranges
    (c.layout-layout.ensures.layout ∙ ap (λ case. layout_of case last) c.requires.case) c.requires.case

pub new-requires-clause-fit : goal.new-requires-clause-fit
new-requires-clause-fit c =
    let last = c.args.snapshot.now.moment in
    fits c.args.case.now c.requires.made.0 last c.args.made.now c.layout-layout.result c.as_slice.result.now c.requires.made.1 c.layout-layout.ensures.ranges
    (c.layout-layout.ensures.layout ∙ ap (λ case. layout_of case last) c.requires.case) c.as_slice.ensures.value

pub new-requires-clause-images : goal.new-requires-clause-images
new-requires-clause-images c =
    rw (c.evidence.ensures.database, c.evidence.ensures.wal, c.evidence.ensures.journal) (are_of c.args.case.now c.args.made.now.images c.requires.made.1.images)

pub returns : goal.returns
returns c = λ moments is.
    let last = c.args.snapshot.now.moment in
    c.new.ensures
    ∙ spilled_are c.args.case.now c.args.snapshot.now.case.now moments last c.args.made.now c.encoding.result c.layout-layout.result.usable c.as_slice.result.now _ _ _ (unused_by c.over-spill.result) is
    (c.encoding.ensures ∙ ap (λ case. encoding_at case last) c.requires.case)
    (ap (λ (l : Layout). l.usable) (c.layout-layout.ensures.layout ∙ ap (λ case. layout_of case last) c.requires.case))
    c.as_slice.ensures.value c.evidence.ensures.database c.evidence.ensures.wal c.evidence.ensures.journal c.over-spill.ensures c.requires.case
