use Rattle.std.proofs.Common.{◌≡◌, ◌<◌, ℕ, None, length, slice_index, slice_index_or}
use Rattle.sx_moment.specs.Turning.{base_of}
use Rattle.sx_moment.proofs.sweep.origins_at.Given as goal

-- those of the ranks so far stand there
abbrev pub invariant-loop-rank : goal.invariant-loop-rank
invariant-loop-rank l = record {
  long : length l.origins.items ≡ l.rank;
  each : (other : ℕ) → other < l.rank → slice_index_or l.origins.items other None ≡ base_of l.snapshot.case.now l.snapshot.moment (slice_index l.ranks other);
}
