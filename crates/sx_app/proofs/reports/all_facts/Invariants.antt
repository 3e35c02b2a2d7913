use Rattle.std.proofs.Common.{◌≡◌, map, take}
use Rattle.sx_moment.specs.Gathered.{moments_of}
use Rattle.sx_app.specs.Reports.{moment_facts}
use Rattle.sx_app.proofs.reports.all_facts.Given as goal

-- those of the first moments
abbrev pub invariant-loop-i : goal.invariant-loop-i
invariant-loop-i l = l.facts.items ≡ map (moment_facts l.case) (take l.i (moments_of l.case))
