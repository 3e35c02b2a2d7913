use Rattle.sx_tally.proofs.Spans.{zeros_tallied, zeros_are}
use Rattle.sx_tally.proofs.tally.Tally.zeros.Goals as goal

pub invariant_of-result : goal.invariant_of-result
invariant_of-result c = zeros_tallied c.args.len c.in_ok-sums.sums.items (c.in_ok-sums.ensures.items_if_clones_equal (λ y h. h))

pub returns : goal.returns
returns c = zeros_are c.args.len c.in_ok-sums.sums.items (c.in_ok-sums.ensures.items_if_clones_equal (λ y h. h))
