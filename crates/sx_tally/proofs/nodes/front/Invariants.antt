use Rattle.std.proofs.Common.{◌≡◌, ◌+◌, ◌-◌, ◌*◌, ◌<◌, ◌≤◌}
use Rattle.sx_tally.proofs.Spans.{span}
use Rattle.sx_tally.proofs.nodes.front.Given as goal

-- what is left of the front is a run of sums
abbrev pub invariant-loop-low : goal.invariant-loop-low
invariant-loop-low l = record {
  order : l.low ≤ l.high;
  first : l.low < l.high → 1 ≤ l.low;
  top : l.high ≤ 2 * l.len;
  so_far : l.total + span l.sums l.low (l.high - l.low) ≡ span l.sums l.len l.end;
}

abbrev pub decreases-loop-low : goal.decreases-loop-low
decreases-loop-low l = l.high - l.low
