use Rattle.std.proofs.Common.{take}
use Rattle.sx_follow.specs.Climbing.{AllHaveWays}
use Rattle.sx_follow.proofs.sums.Sums.all_have_ways.Given as goal

abbrev pub invariant-loop-pair : goal.invariant-loop-pair
invariant-loop-pair l = AllHaveWays l.self (take l.pair-index l.pairs)
