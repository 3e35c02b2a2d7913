use Rattle.std.proofs.Common.{◌∙◌, replicate, ap}
use Rattle.sx_moment.specs.Ranks.{AreRanked}
use Rattle.sx_moment.proofs.Swept.{swept_first}
use Rattle.sx_moment.proofs.case.Case.sweep.Goals as goal

pub invariant_of-result : goal.invariant_of-result
invariant_of-result c =
    let same = c.snapshot_at-snapshot.ensures.case in
    let ranked : AreRanked c.snapshot_at-snapshot.result.case.now c.in_ok-ranks.ranks = rw same c.in_ok-ranks.ensures in
    let there = rw (← same) at c.snapshot_at-snapshot.ensures.moment in
    swept_first c.snapshot_at-snapshot.result.case.now c.snapshot_at-snapshot.result.moment c.in_ok-ranks.ranks c.in_ok-origins.origins.items c.in_ok-changes.changes.settled c.in_ok-changes.changes.turns
    there ranked c.in_ok-origins.ensures (c.in_ok-changes.ensures.0 ∙ ap (λ n. replicate n 1) c.len.ensures.value) c.in_ok-changes.ensures.1
