use Rattle.std.proofs.Common.{◌≤◌, length, arith}
use Rattle.sx_moment.specs.Firsts.{IsSearchedAbove}
use Rattle.sx_moment.proofs.Seen.{within_few}
use Rattle.sx_moment.proofs.first_images.FirstImages.within.Goals as goal

pub overflow_cast-result : goal.overflow_cast-result
overflow_cast-result c =
    let searched : IsSearchedAbove c.args.size c.self.inside.items.items c.place_above.result = rw (← c.deref.ensures.value) c.place_above.ensures.searched in
    let bound : c.place_above.result ≤ length c.self.inside.items.items = rw (← c.deref.ensures.value) c.place_above.ensures.bound in
    let few = within_few c.args.size c.place_above.result c.self.inside.items.items c.self.invariant bound searched in
    omega (arith, few, c.ranges.size.fits)
