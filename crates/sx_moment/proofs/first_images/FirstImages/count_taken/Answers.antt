use Rattle.std.proofs.Common.{◌<◌, length, arith, rules, ap}
use Rattle.sx_moment.proofs.Listed.{taken_few, taken_yes}
use Rattle.sx_moment.specs.Firsts.{below}
use Rattle.sx_moment.proofs.first_images.FirstImages.count_taken.Goals as goal

pub overflow_add-count : goal.overflow_add-count
overflow_add-count c =
    let few = taken_few (below c.args.bound) c.args.size _ c.self.invariant in
    let within : c.loop-i.i < length c.self.inside.items.items = search rules in
    let here = taken_yes (below c.args.bound) c.args.size c.self.inside.items.items c.loop-i.i c.index.result.now within (search rules) (search rules) in
    let more = ap length here in
    omega (arith, few, more, c.loop-i.invariant, c.ranges.size.fits)
