use Rattle.std.proofs.Common.{◌-◌}
use Rattle.sx_prov.proofs.Searching.{IsNear}
use Rattle.sx_prov.proofs.map.PageMap.label_at.Given as goal

abbrev pub invariant-loop-high : goal.invariant-loop-high
invariant-loop-high l = IsNear l.self-inside.runs.items l.offset l.low l.high

abbrev pub decreases-loop-high : goal.decreases-loop-high
decreases-loop-high l = l.high - l.low
