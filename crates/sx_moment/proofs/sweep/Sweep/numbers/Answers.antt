use Rattle.sx_moment.proofs.Swept.{viewed_ranked}
use Rattle.sx_moment.proofs.sweep.Sweep.numbers.Goals as goal

pub returns-clause-all : goal.returns-clause-all
returns-clause-all c =
    let s = c.self.inside in
    rw (← c.self.view_is) (λ moment listed number viewed. viewed_ranked s.snapshot.case.now s.ranks moment number c.self.invariant.ranked c.sources-sources.ensures.gathered listed viewed)
