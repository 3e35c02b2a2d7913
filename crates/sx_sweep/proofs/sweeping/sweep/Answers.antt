use Rattle.std.proofs.Common.{arith, length-drop}
use Rattle.sx_base.specs.declared.moment.Moment.TheVariants.{Journal}
use Rattle.sx_images.specs.Images.{images_of}
use Rattle.sx_sweep.specs.Owning.{owned_under, block_under}
use Rattle.sx_sweep.proofs.SweepLemmas.{sweep_step, sweep_end, all_owned, all_begun}
use Rattle.sx_sweep.proofs.sweeping.sweep.Goals as goal

pub loop-moment-preserved : goal.loop-moment-preserved
loop-moment-preserved c =
    sweep_step c.args.case.now (images_of c.args.images.now) c.args.moments.now c.in_ok-owned.owned c.loop-moment.owned c.add_moment.new.owned c.loop-moment.moment-index Journal c.loop-moment-test.true
    c.loop-moment.invariant c.in_ok-add_moment.ensures

pub returns-clause-owned : goal.returns-clause-owned
returns-clause-owned c =
    all_owned c.in_ok-owned.owned c.loop-moment.owned (owned_under c.args.case.now (images_of c.args.images.now) c.args.moments.now) (block_under c.args.case.now (images_of c.args.images.now) c.args.moments.now) c.count.result c.page_size.result c.in_ok-owned.ensures
    (sweep_end c.args.case.now (images_of c.args.images.now) c.args.moments.now c.in_ok-owned.owned c.loop-moment.owned c.loop-moment.moment-index (omega (arith, length-drop c.loop-moment.moment-index c.args.moments.now)) c.loop-moment.invariant)

pub returns-clause-block : goal.returns-clause-block
returns-clause-block c =
    all_begun c.in_ok-owned.owned c.loop-moment.owned (owned_under c.args.case.now (images_of c.args.images.now) c.args.moments.now) (block_under c.args.case.now (images_of c.args.images.now) c.args.moments.now) c.count.result c.page_size.result c.in_ok-owned.ensures
    (sweep_end c.args.case.now (images_of c.args.images.now) c.args.moments.now c.in_ok-owned.owned c.loop-moment.owned c.loop-moment.moment-index (omega (arith, length-drop c.loop-moment.moment-index c.args.moments.now)) c.loop-moment.invariant)
