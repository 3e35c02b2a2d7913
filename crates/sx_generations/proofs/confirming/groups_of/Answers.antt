use Rattle.std.proofs.Common.{◌∙◌, arith, length}
use Rattle.sx_generations.specs.Confirmed.{confirms}
use Rattle.sx_generations.proofs.Records.{made_all, made_few}
use Rattle.sx_generations.proofs.Streaks.{within_get}
use Rattle.sx_generations.proofs.confirming.groups_of.Goals as goal

pub bounds-nonces-streak : goal.bounds-nonces-streak
bounds-nonces-streak c =
    let it = within_get (confirms c.args.nonces.now.items.now) (length c.args.nonces.now.items.now) c.loop-streak.streak-index c.deref-streak-items.result.now (record { first = 0; len = 0 }) (c.deref-streak-items.ensures.value ∙ c.in_ok-streaks.ensures) c.loop-streak-test.true in
    let two = it.two in
    let within = it.within in
    omega arith

pub invariant_of-result : goal.invariant_of-result
invariant_of-result c = made_few _ _ _ _ c.loop-streak.invariant (c.deref-streak-items.ensures.value ∙ c.in_ok-streaks.ensures) c.args.nonces.now.few

pub returns : goal.returns
returns c = made_all _ _ _ _ c.loop-streak.invariant c.loop-streak-test.false (c.deref-streak-items.ensures.value ∙ c.in_ok-streaks.ensures)
