-- The runs lie apart still, and hold the places of the run besides.
use Rattle.sx_owned.proofs.RunLemmas.{extended, apart_kept}
use Rattle.sx_owned.proofs.Tables.{on_ok}
use Rattle.sx_owned.proofs.places.Places.add.Goals as goal

pub invariant_of-self : goal.invariant_of-self
invariant_of-self c = apart_kept c.add_run.result c.self.inside.runs.items c.add_run.new.runs.items c.args.run c.self.invariant c.requires c.add_run.ensures.ok c.add_run.ensures.err

pub returns-clause-ok : goal.returns-clause-ok
returns-clause-ok c =
    on_ok c.add_run.result
    (λ is. rw (← c.self.view_is) (extended c.self.inside.runs.items c.add_run.new.runs.items c.args.run c.self.invariant c.requires is))
    c.add_run.ensures.ok
