-- The image that is the view is the one that is found.
use Rattle.std.proofs.Common.{◌<◌, arith}
use Rattle.sx_images.specs.Images.{images_of}
use Rattle.sx_sweep.specs.Passing.{key_begins}
use Rattle.sx_sweep.specs.Told.{owning_in}
use Rattle.sx_sweep.proofs.PageLemmas.{found_only, found_there, found_none}
use Rattle.sx_sweep.proofs.LabelLemmas.{view_none, view_grows}
use Rattle.sx_sweep.proofs.WalkLemmas.{on_ok}
use Rattle.sx_sweep.proofs.relabel.add_view.Goals as goal

pub returns-in_default : goal.returns-in_default
returns-in_default c =
    let some : 0 < c.args.images.now.page_size = omega (arith, c.requires.same, c.requires.long, c.requires.least, c.requires.within) in
    view_none (images_of c.args.images.now) c.args.place c.args.owned.now (owning_in c.args.map.now) (key_begins c.args.key c.args.view.now)
    (λ image. found_none c.args.images.now c.args.place some c.in_default.ensures image)

pub add_map-requires-clause-image : goal.add_map-requires-clause-image
add_map-requires-clause-image c = omega (arith, found_there c.args.images.now c.args.place c.in-Some.image c.in-Some.ensures, c.requires.count)

pub add_begun-requires-clause-image : goal.add_begun-requires-clause-image
add_begun-requires-clause-image c = omega (arith, found_there c.args.images.now c.args.place c.in-Some.image c.in-Some.ensures, c.requires.count, c.in_ok-add_map.ensures.count)

pub returns : goal.returns
returns c =
    let some : 0 < c.args.images.now.page_size = omega (arith, c.requires.same, c.requires.long, c.requires.least, c.requires.within) in
    on_ok c.add_begun.result
    (view_grows (images_of c.args.images.now) c.args.place c.in-Some.image c.args.owned.now c.add_map.new.owned c.add_begun.new.owned (owning_in c.args.map.now) (key_begins c.args.key c.args.view.now)
    (found_only c.args.images.now c.args.place c.in-Some.image some c.in-Some.ensures) c.in_ok-add_map.ensures)
    c.add_begun.ensures
