use Rattle.std.proofs.Common.{◌≡◌, ◌-◌, ◌≤◌, length}
use Rattle.sx_carve.specs.Scan.{run_rest}
use Rattle.sx_carve.proofs.run.next_in_run.Given as goal

abbrev pub invariant-loop-at : goal.invariant-loop-at
invariant-loop-at l = record {
  behind : l.fn.from ≤ l.at;
  within : l.at ≤ length l.run;
  same : run_rest l.ctx.usable l.ctx.shapes.now l.owned l.image l.run l.fn.from ≡ run_rest l.ctx.usable l.ctx.shapes.now l.owned l.image l.run l.at;
}

abbrev pub decreases-loop-at : goal.decreases-loop-at
decreases-loop-at l = length l.run - l.at
