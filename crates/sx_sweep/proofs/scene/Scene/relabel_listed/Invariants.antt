use Rattle.std.proofs.Common.{take}
use Rattle.sx_moment.specs.Turns.{is_among}
use Rattle.sx_sweep.specs.Passing.{Passes}
use Rattle.sx_sweep.proofs.scene.Scene.relabel_listed.Given as goal

abbrev pub invariant-loop-rank : goal.invariant-loop-rank
invariant-loop-rank l =
    Passes l.self.sweep.now.case l.self.sweep.now.moment l.self.sweep.now.numbers l.self.table.now l.self.layout.now l.self.images.now l.fn.known.owned l.known.owned l.fn.known.sums l.known.sums
    (is_among (take l.rank-index l.ranks))
