use Rattle.std.proofs.Common.{◌≤◌, length, rules}
use Rattle.sx_moment.specs.Firsts.{below, IsSearchedAbove}
use Rattle.sx_moment.proofs.Listed.{found_above}
use Rattle.sx_moment.proofs.first_images.FirstImages.taken_after.Goals as goal

pub loop-i-init : goal.loop-i-init
loop-i-init c =
    let within : c.place_above-above.result ≤ length c.self.inside.items.items = search rules in
    let searched : IsSearchedAbove c.args.after c.self.inside.items.items c.place_above-above.result = rw (← c.deref.ensures.value) c.place_above-above.ensures.searched in
    found_above c.args.after (below c.args.bound) c.args.size c.place_above-above.result c.self.inside.items.items within searched
