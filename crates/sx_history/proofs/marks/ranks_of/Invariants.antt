use Rattle.std.proofs.Common.{◌≡◌, take}
use Rattle.sx_history.proofs.marks.ranks_of.Given as goal

abbrev pub invariant-loop-rank : goal.invariant-loop-rank
invariant-loop-rank l = l.ranks.items ≡ take l.rank-index l.changed
