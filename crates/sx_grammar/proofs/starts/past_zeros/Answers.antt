-- At each place that is passed over four zeros stand.
use Rattle.sx_grammar.proofs.StartLemmas.{zeros_passed}
use Rattle.sx_grammar.proofs.starts.past_zeros.Goals as goal

pub returns-then-end-at-ge4-clause-none : goal.returns-then-end-at-ge4-clause-none
returns-then-end-at-ge4-clause-none c = zeros_passed c.args.run.now c.args.at c.loop-end.end c.loop-end.invariant.within c.loop-end.invariant.zeros
