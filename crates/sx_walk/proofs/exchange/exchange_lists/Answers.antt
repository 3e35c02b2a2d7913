use Rattle.std.proofs.Common.{◌-◌, length, take, drop, refl}
use Rattle.sx_walk.proofs.Exchanging.{lists_exchanged}
use Rattle.sx_walk.proofs.exchange.exchange_lists.Goals as goal

pub returns : goal.returns
returns c =
    let old = c.args.old.now in
    let new = c.args.new.now in
    let front = c.alike-front.result in
    lists_exchanged old new c.args.come.now c.give_all.new.receiver c.args.gone.now c.give_all-2.new.receiver front c.alike_at_end-back.result
    (take (length old - front) (drop front old)) (take (length new - front) (drop front new)) c.alike-front.ensures.alike refl refl
    c.alike_at_end-back.ensures.alike c.in_ok-give_all.ensures c.in_ok-give_all-2.ensures
