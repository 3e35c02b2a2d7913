use Rattle.std.proofs.Common.{◌≡◌, ◌++◌}
use Rattle.std.specs.List.{flat_map, range_with_len}
use Rattle.sx_gen.specs.Log.{log_head, sums_through, commit_frame}
use Rattle.sx_gen.proofs.frames.make_log.Given as goal

abbrev pub invariant-loop-k : goal.invariant-loop-k
invariant-loop-k l = record {
  sums : l.through ≡ sums_through l.seed l.letters l.leaves l.taken l.k;
  so_far : l.log.items ≡ log_head l.seed ++ flat_map (commit_frame l.seed l.letters l.leaves l.taken) (range_with_len 0 l.k);
}
