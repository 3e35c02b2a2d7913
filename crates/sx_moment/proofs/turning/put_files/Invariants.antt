use Rattle.std.proofs.Common.{◌≡◌, ◌&&◌, nat_lt}
use Rattle.sx_base.specs.declared.moment.Moment.TheVariants.{File}
use Rattle.sx_moment.specs.Changes.{AreMarked}
use Rattle.sx_moment.specs.Turning.{is_turned, is_within}
use Rattle.sx_moment.proofs.Stepped.{AreFiled}
use Rattle.sx_moment.proofs.turning.put_files.Given as goal

-- the ranks so far have the page of the file
abbrev pub invariant-loop-rank : goal.invariant-loop-rank
invariant-loop-rank l = record {
  filed : AreFiled l.sources l.ranks l.origins.items l.rank;
  marked : AreMarked (λ other. nat_lt other l.rank && is_within (is_turned l.sources File) l.step.within l.ranks other) l.step.turn l.initial.changes.turns l.changes.turns;
  settled : l.changes.settled ≡ l.initial.changes.settled;
}
