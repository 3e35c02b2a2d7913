use Rattle.std.proofs.Common.{◌≡◌, take}
use Rattle.sx_moment.specs.Images.{past_only, first_slot}
use Rattle.sx_moment.specs.Gathering.{firsts_of}
use Rattle.sx_moment.proofs.gathering.past_of_slots.Given as goal

-- those of the pages so far
abbrev pub invariant-loop-i : goal.invariant-loop-i
invariant-loop-i l = l.items.items ≡ firsts_of (past_only l.sources (first_slot l.sources)) (take l.i l.pages)
