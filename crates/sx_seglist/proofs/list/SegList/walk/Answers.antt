use Rattle.sx_seglist.proofs.Walking.{runs_are}
use Rattle.sx_seglist.proofs.list.SegList.walk.Goals as goal

pub returns : goal.returns
returns c = rw (← c.self.view_is, c.new.ensures, c.as_slice.ensures.value) (runs_are c.self.inside.items.items c.self.inside.from c.self.invariant)
