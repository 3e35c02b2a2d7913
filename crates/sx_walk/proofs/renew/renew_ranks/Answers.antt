use Rattle.std.proofs.Common.{◌≡◌, ◌+◌, ℕ, true, is_some, take, get_or}
use Rattle.sx_walk.specs.Renewing.{has_rank}
use Rattle.sx_walk.proofs.RenewLemmas.{renews_more, one_more_rank}
use Rattle.sx_walk.proofs.renew.renew_ranks.Goals as goal

pub loop-rank-preserved : goal.loop-rank-preserved
loop-rank-preserved g c =
    let changed = c.args.changed.now in
    let numbers = c.args.numbers.now in
    let i = c.loop-rank.rank-index in
    renews_more (λ (number : ℕ). is_some (g.P.PageViews.view c.args.pages.now number)) (λ (page : ℕ). has_rank numbers (take i changed) page ≡ true)
    (λ (page : ℕ). page ≡ get_or numbers (get_or changed i 0) 0) (λ (page : ℕ). has_rank numbers (take (i + 1) changed) page ≡ true)
    c.args.sums.now numbers c.args.table.now c.loop-rank.table c.renew.new.table c.args.touched.now.items c.loop-rank.touched.items c.renew.new.touched.items
    (λ page there. one_more_rank numbers changed i page c.loop-rank-test.true there) c.loop-rank.invariant (c.in_ok-renew.ensures c.if-not-branch.false)
