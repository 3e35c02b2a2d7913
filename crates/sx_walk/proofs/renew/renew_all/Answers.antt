use Rattle.std.proofs.Common.{◌≡◌, ◌+◌, ℕ, true, is_some, take, get_or}
use Rattle.sx_base.specs.declared.role.Role.TheVariants.{Node}
use Rattle.sx_closure.specs.declared.pair.Pair.{Pair}
use Rattle.sx_follow.specs.Keeping.{has_page}
use Rattle.sx_walk.proofs.RenewLemmas.{renews_more, one_more_page}
use Rattle.sx_walk.proofs.renew.renew_all.Goals as goal

pub loop-pair-preserved : goal.loop-pair-preserved
loop-pair-preserved g c =
    let pairs = c.args.pairs.now in
    let i = c.loop-pair.pair-index in
    let none : Pair = record { page = 0; role = Node } in
    renews_more (λ (number : ℕ). is_some (g.P.PageViews.view c.args.pages.now number)) (λ (page : ℕ). has_page (take i pairs) page ≡ true) (λ (page : ℕ). page ≡ (get_or pairs i none).page) (λ (page : ℕ). has_page (take (i + 1) pairs) page ≡ true)
    c.args.sums.now c.args.numbers.now c.args.table.now c.loop-pair.table c.renew.new.table c.args.touched.now.items c.loop-pair.touched.items c.renew.new.touched.items
    (λ page there. one_more_page pairs i none page c.loop-pair-test.true there) c.loop-pair.invariant (c.in_ok-renew.ensures c.if-not-branch.false)
