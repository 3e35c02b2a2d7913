use Rattle.std.proofs.Common.{◌≡◌, Some, None, rules}
use Rattle.sx_follow.specs.Climbing.{way_at}
use Rattle.sx_follow.specs.Climbing.HasWay.{from_root, from_page}
use Rattle.sx_follow.proofs.sums.Sums.steps_left.Goals as goal

pub returns-in-Some-None : goal.returns-in-Some-None
returns-in-Some-None c =
    let at : way_at c.args.self.now c.loop-left.at ≡ Some None = search rules in
    c.loop-left.invariant (from_root c.args.self.now c.loop-left.at at)

pub loop-left-preserved : goal.loop-left-preserved
loop-left-preserved c =
    let at : way_at c.args.self.now c.loop-left.at ≡ Some (Some c.in_ok-at-in-Some-Some.at) = search rules in
    λ way. c.loop-left.invariant (from_page c.args.self.now c.loop-left.at c.in_ok-at-in-Some-Some.at at way)
