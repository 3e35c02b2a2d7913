use Rattle.std.proofs.Common.{◌≡◌, true, is_some, take}
use Rattle.sx_follow.specs.Keeping.{has_page}
use Rattle.sx_walk.specs.Renewing.{Renews}
use Rattle.sx_walk.proofs.renew.renew_all.Given as goal

abbrev pub invariant-loop-pair : goal.invariant-loop-pair
invariant-loop-pair g l =
    Renews (λ number. is_some (g.P.PageViews.view l.pages number)) (λ page. has_page (take l.pair-index l.pairs) page ≡ true) l.sums l.numbers l.initial.table l.table l.initial.touched.items l.touched.items
