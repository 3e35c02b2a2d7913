use Rattle.std.proofs.Common.{◌≡◌}
use Rattle.sx_moment.specs.Changes.{AreMarked}
use Rattle.sx_moment.specs.Turning.{AreOrigins, slot_base, slots_hold, is_within}
use Rattle.sx_moment.proofs.turning.put_slots.Given as goal

-- the slots so far are put
abbrev pub invariant-loop-i : goal.invariant-loop-i
invariant-loop-i l = record {
  origins : AreOrigins (slot_base l.sources l.i) l.ranks l.origins.items;
  marked : AreMarked (is_within (slots_hold l.sources l.from l.i) l.step.within l.ranks) l.step.turn l.initial.changes.turns l.changes.turns;
  settled : l.changes.settled ≡ l.initial.changes.settled;
}
