use Rattle.std.proofs.Common.{◌≡◌, true, is_some, take}
use Rattle.sx_walk.specs.Renewing.{has_rank}
use Rattle.sx_walk.specs.Missing.{Recounts}
use Rattle.sx_walk.proofs.missing.recount_ranks.Given as goal

abbrev pub invariant-loop-rank : goal.invariant-loop-rank
invariant-loop-rank g l =
    Recounts (λ number. is_some (g.P.PageViews.view l.pages number)) (λ page. has_rank l.numbers (take l.rank-index l.changed) page ≡ true) l.sums l.numbers l.initial.missing l.missing
