use Rattle.sx_moment.proofs.Seen.{IsCounted}
use Rattle.sx_moment.proofs.counts.counts_at_commits.Given as goal

abbrev pub invariant-loop-k : goal.invariant-loop-k
invariant-loop-k l = IsCounted l.sources l.images l.k l.seen l.counts.items
