use Rattle.sx_walk.proofs.RenumberLemmas.{renumbers_both}
use Rattle.sx_walk.proofs.renumber.number_listed.Goals as goal

pub loop-place-preserved : goal.loop-place-preserved
loop-place-preserved g c = record {
  grows = λ item there. c.in_ok-number_if.ensures.grows item (c.loop-place.invariant.grows item there);
  renumbers =
      renumbers_both c.args.numbers.now c.loop-place.touched.items c.number_if.new.touched.items c.args.table.now c.loop-place.table c.number_if.new.table
      c.in_ok-number_if.ensures.grows c.loop-place.invariant.renumbers c.in_ok-number_if.ensures.renumbers;
}
