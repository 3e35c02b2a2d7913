use Rattle.std.proofs.Common.{◌≡◌, map, take}
use Rattle.sx_generations.specs.Confirmed.{group_of}
use Rattle.sx_generations.proofs.confirming.groups_of.Given as goal

abbrev pub invariant-loop-streak : goal.invariant-loop-streak
invariant-loop-streak l = l.groups.items ≡ map (group_of l.nonces.items.now) (take l.streak-index l.streak-items)
