use Rattle.std.proofs.Common.{ℕ, is_some}
use Rattle.sx_walk.proofs.RenewLemmas.{renews_one}
use Rattle.sx_walk.proofs.renew.renew.Goals as goal

pub returns : goal.returns
returns g c = λ fits.
    renews_one (λ (number : ℕ). is_some (g.P.PageViews.view c.args.pages.now number)) c.args.sums.now c.args.numbers.now c.args.table.now c.put.new.self c.args.no c.said_count-count.result c.in-Some.one c.args.touched.now.items c.note.new.touched.items
    c.requires c.said_count-count.ensures c.in-Some.ensures c.put.ensures.value (c.put.ensures.held c.if-not-put.false) (c.in_ok-fits.ensures fits)
