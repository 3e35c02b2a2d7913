use Rattle.sx_walk.proofs.RenumberLemmas.{renumbers_step}
use Rattle.sx_walk.proofs.renumber.number_on.Goals as goal

pub returns-then-not-branch-clause-renumbers : goal.returns-then-not-branch-clause-renumbers
returns-then-not-branch-clause-renumbers g c =
    renumbers_step c.args.numbers.now c.loop.touched.items c.put_rank.new.touched.items c.loop.at c.args.table.now c.loop.table c.number.new.table
    c.in_ok-put_rank.ensures.grows c.loop.invariant.listed c.loop.invariant.renumbers c.number.ensures

pub loop-preserved : goal.loop-preserved
loop-preserved g c = record {
  grows = λ item there. c.in_ok-put_rank.ensures.grows item (c.loop.invariant.grows item there);
  listed = c.in_ok-put_rank.ensures.listed c.if-not-branch.false;
  renumbers =
      renumbers_step c.args.numbers.now c.loop.touched.items c.put_rank.new.touched.items c.loop.at c.args.table.now c.loop.table c.number.new.table
      c.in_ok-put_rank.ensures.grows c.loop.invariant.listed c.loop.invariant.renumbers c.number.ensures;
}
