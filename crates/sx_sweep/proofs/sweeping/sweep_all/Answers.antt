use Rattle.sx_sweep.proofs.AllLemmas.{fresh_known}
use Rattle.sx_sweep.proofs.sweeping.sweep_all.Goals as goal

pub add_moments-requires-clause-known : goal.add_moments-requires-clause-known
add_moments-requires-clause-known c =
    fresh_known c.in_ok-sweep.sweep.case c.in_ok-sweep.sweep.numbers c.args.images.now c.in_ok-pass.pass.known.owned c.in_ok-pass.pass.known.sums c.ranks.result c.ranks.ensures c.in_ok-pass.ensures.fresh
    c.in_ok-pass.ensures.sums
