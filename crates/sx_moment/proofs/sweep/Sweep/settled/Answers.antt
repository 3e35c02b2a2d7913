use Rattle.sx_moment.proofs.Swept.{turns_settled, swept_settled}
use Rattle.sx_moment.proofs.sweep.Sweep.settled.Goals as goal

pub settle-requires : goal.settle-requires
settle-requires c =
    let s = c.self.inside in
    turns_settled s.snapshot.case.now s.place s.snapshot.moment s.ranks s.origins.items s.changes.settled s.changes.turns c.self.invariant

pub invariant_of-self : goal.invariant_of-self
invariant_of-self c =
    let s = c.self.inside in
    rw c.settle.ensures.settled
    (swept_settled s.snapshot.case.now s.place s.snapshot.moment s.ranks s.origins.items s.changes.settled s.changes.turns c.settle.new.self.turns c.self.invariant c.settle.ensures.turns)
