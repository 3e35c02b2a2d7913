use Rattle.std.proofs.Common.{◌≡◌, ◌-◌, length, drop}
use Rattle.sx_walk.proofs.exchange.alike_at_end.Given as goal

abbrev pub invariant-loop-back : goal.invariant-loop-back
invariant-loop-back l = drop (length l.some - l.back) l.some ≡ drop (length l.others - l.back) l.others
