-- One set has the place besides, or nothing changes.
use Rattle.std.proofs.Common.{arith}
use Rattle.sx_owned.proofs.Tables.{on_ok, begins}
use Rattle.sx_owned.proofs.owned.OwnedRuns.block.Goals as goal

pub returns-clause-ok : goal.returns-clause-ok
returns-clause-ok c =
    on_ok c.add.result
    (λ more. rw (← c.self.view_is)
    (begins c.self.inside.page_size c.self.inside.owned.items c.self.inside.blocks.items c.args.image c.args.at c.index_mut-places.result.now c.add.new.self
    (let here = (rw (← c.self.view_is) at c.requires.image) in let same = c.self.invariant.same in omega arith) c.index_mut-places.ensures.value more))
    c.add.ensures.ok
