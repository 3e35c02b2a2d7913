use Rattle.std.proofs.Common.{Ok, ap, sym, ◌∙◌}
use Rattle.sx_app.specs.Carving.{carve_at}
use Rattle.sx_app.proofs.commands.carve_prepared.Goals as goal

pub returns-then-spill : goal.returns-then-spill
returns-then-spill g c = λ moments last is made.
    let case = c.args.case.now in
    c.finish.ensures (Ok (carve_at case moments last c.args.spill))
    (ap Ok (ap (λ moment. carve_at case moments moment c.args.spill) is ∙ ap (carve_at case moments c.args.snapshot.now.moment) c.if-spill.true
    ∙ sym (c.spill_lines-lines.ensures moments made)))

pub returns-else-spill : goal.returns-else-spill
returns-else-spill g c = λ moments last is made.
    let case = c.args.case.now in
    c.finish-else-spill.ensures (Ok (carve_at case moments last c.args.spill))
    (ap Ok (ap (λ moment. carve_at case moments moment c.args.spill) is ∙ ap (carve_at case moments c.args.snapshot.now.moment) c.if-spill.false
    ∙ sym (c.carve_lines-lines.ensures moments made)))
