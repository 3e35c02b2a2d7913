use Rattle.std.proofs.Common.{ℕ, is_some}
use Rattle.sx_walk.proofs.RenewLemmas.{renews_both}
use Rattle.sx_walk.proofs.renew.renew_table.Goals as goal

pub returns-clause-renewed : goal.returns-clause-renewed
returns-clause-renewed g c =
    renews_both (λ (number : ℕ). is_some (g.P.PageViews.view c.args.pages.now number)) c.args.followed.now.named.items c.args.followed.now.lost.items c.deref.result.now c.deref-2.result.now
    c.args.changed.now c.args.followed.now.sums c.args.numbers.now
    c.args.table.now c.renew_all.new.table c.renew_all-2.new.table c.renew_ranks.new.table c.put_dead.new.self c.args.dead c.new-touched.result.items c.renew_all.new.touched.items
    c.renew_all-2.new.touched.items c.renew_ranks.new.touched.items
    c.new-touched.ensures.items c.deref.ensures.value c.deref-2.ensures.value (c.in_ok-renew_all.ensures c.if-not-branch.false) (c.in_ok-renew_all-2.ensures c.if-not-branch-2.false)
    (c.in_ok-renew_ranks.ensures c.if-not-branch-3.false) c.put_dead.ensures
