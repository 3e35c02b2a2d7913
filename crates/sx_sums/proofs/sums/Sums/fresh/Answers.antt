-- No page was labelled.
use Rattle.sx_sums.proofs.Summing.{fresh_sums}
use Rattle.sx_sums.proofs.sums.Sums.fresh.Goals as goal

pub invariant_of-result : goal.invariant_of-result
invariant_of-result c = fresh_sums c.args.ranks c.in_ok-entries.entries.items c.ranges.ranks.fits (c.in_ok-entries.ensures.items_if_clones_equal (λ y h. h))
