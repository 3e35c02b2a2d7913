-- A drill owes the same over every store, and none was asked.
use Rattle.sx_app.proofs.examination.carry_out.Goals as goal

pub returns-in-Drill-clause-examined : goal.returns-in-Drill-clause-examined
returns-in-Drill-clause-examined g c =
    rw c.in-Drill.is
    (c.run_drill.ensures (g.S.Store.contents c.args.store.now) (g.S.Store.faults c.args.store.now) (g.S.Store.absent c.args.store.now) (g.S.Store.given c.args.store.now))
