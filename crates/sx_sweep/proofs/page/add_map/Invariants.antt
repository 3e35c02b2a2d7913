use Rattle.std.proofs.Common.{length}
use Rattle.sx_sweep.specs.Growth.{nowhere, Growing}
use Rattle.sx_sweep.specs.Told.{owning_in, runs_own, only_in, RunsIn}
use Rattle.sx_sweep.proofs.page.add_map.Given as goal

abbrev pub invariant-loop-span : goal.invariant-loop-span
invariant-loop-span l = record {
  growing : Growing l.fn.owned l.owned (only_in l.image (owning_in l.map)) nowhere (only_in l.image (runs_own l.runs)) nowhere;
  within : RunsIn l.fn.owned.page_size l.runs;
}

abbrev pub decreases-loop-span : goal.decreases-loop-span
decreases-loop-span l = length l.runs
