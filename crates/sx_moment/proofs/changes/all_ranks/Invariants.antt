use Rattle.std.proofs.Common.{◌≡◌}
use Rattle.std.specs.List.{range_with_len}
use Rattle.sx_moment.proofs.changes.all_ranks.Given as goal

-- the ranks so far stand there
abbrev pub invariant-loop-rank : goal.invariant-loop-rank
invariant-loop-rank l = l.all.items ≡ range_with_len 0 l.rank
