use Rattle.std.proofs.Common.{◌≡◌, is_some, take, map, sum}
use Rattle.sx_walk.specs.Renewing.{unsaid_count}
use Rattle.sx_walk.proofs.missing.Missing.of.Given as goal

abbrev pub invariant-loop-number : goal.invariant-loop-number
invariant-loop-number g l = record {
  are : l.counts.items ≡ map (unsaid_count (λ number. is_some (g.P.PageViews.view l.pages number)) l.sums) (take l.number-index l.numbers);
  summed : l.total ≡ sum l.counts.items;
}
