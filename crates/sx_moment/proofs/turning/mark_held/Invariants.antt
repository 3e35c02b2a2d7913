use Rattle.std.proofs.Common.{◌≡◌}
use Rattle.sx_moment.specs.Changes.{AreMarked}
use Rattle.sx_moment.specs.Turning.{is_held}
use Rattle.sx_moment.proofs.turning.mark_held.Given as goal

-- those of the ranks so far are marked
abbrev pub invariant-loop-rank : goal.invariant-loop-rank
invariant-loop-rank l = record {
  marked : AreMarked (is_held l.origins l.from l.rank) l.turn l.initial.changes.turns l.changes.turns;
  settled : l.changes.settled ≡ l.initial.changes.settled;
}
