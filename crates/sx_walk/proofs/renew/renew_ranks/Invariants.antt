use Rattle.std.proofs.Common.{◌≡◌, true, is_some, take}
use Rattle.sx_walk.specs.Renewing.{has_rank, Renews}
use Rattle.sx_walk.proofs.renew.renew_ranks.Given as goal

abbrev pub invariant-loop-rank : goal.invariant-loop-rank
invariant-loop-rank g l =
    Renews (λ number. is_some (g.P.PageViews.view l.pages number)) (λ page. has_rank l.numbers (take l.rank-index l.changed) page ≡ true) l.sums l.numbers l.initial.table l.table
    l.initial.touched.items l.touched.items
