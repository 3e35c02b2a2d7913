use Rattle.std.proofs.Common.{◌≡◌, take, fold}
use Rattle.sx_closure.specs.Tallying.{numbered}
use Rattle.sx_closure.proofs.tally.Tally.table.Given as goal

abbrev pub invariant-loop-pair : goal.invariant-loop-pair
invariant-loop-pair l = l.table ≡ fold (numbered l.body) l.initial.table (take l.pair-index l.fn.self.met)
