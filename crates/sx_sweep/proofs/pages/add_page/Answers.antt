-- The image that is the page's view is the one that is found.
use Rattle.std.proofs.Common.{◌<◌, sym, ap, ◌∙◌, arith}
use Rattle.sx_images.specs.Images.{images_of}
use Rattle.sx_moment.specs.Views.{view_of, source_of}
use Rattle.sx_sweep.specs.Owning.{is_viewed}
use Rattle.sx_sweep.proofs.PageLemmas.{found_only, found_there, found_none}
use Rattle.sx_sweep.proofs.WalkLemmas.{page_none, page_grows, on_ok}
use Rattle.sx_sweep.proofs.pages.add_page.Goals as goal

pub returns-in_default : goal.returns-in_default
returns-in_default c =
    let case = c.args.snapshot.now.case.now in
    let moment = c.args.snapshot.now.moment in
    page_none c.args.refs.now c.args.layout.now (view_of case moment) (source_of case moment) (images_of c.args.images.now) c.args.no c.args.owned.now
    (λ image. ap (λ place. is_viewed (images_of c.args.images.now) place image) (sym c.in_default.ensures))

pub returns-in_default-find : goal.returns-in_default-find
returns-in_default-find c =
    let case = c.args.snapshot.now.case.now in
    let moment = c.args.snapshot.now.moment in
    let some : 0 < c.args.images.now.page_size = omega (arith, c.requires.swept.same, c.requires.swept.layout_is.least, c.requires.swept.layout_is.within) in
    page_none c.args.refs.now c.args.layout.now (view_of case moment) (source_of case moment) (images_of c.args.images.now) c.args.no c.args.owned.now
    (λ image. ap (λ place. is_viewed (images_of c.args.images.now) place image) (sym c.in-Some.ensures) ∙ found_none c.args.images.now c.in-Some.place some c.in_default-find.ensures image)

pub add_owned-requires-clause-image : goal.add_owned-requires-clause-image
add_owned-requires-clause-image c = omega (arith, found_there c.args.images.now c.in-Some.place c.in-Some-find.image c.in-Some-find.ensures, c.requires.swept.count)

pub add_begun-requires-clause-image : goal.add_begun-requires-clause-image
add_begun-requires-clause-image c =
    omega (arith, found_there c.args.images.now c.in-Some.place c.in-Some-find.image c.in-Some-find.ensures, c.requires.swept.count, c.in_ok-add_owned.ensures.count)

pub returns : goal.returns
returns c =
    let case = c.args.snapshot.now.case.now in
    let moment = c.args.snapshot.now.moment in
    let some : 0 < c.args.images.now.page_size = omega (arith, c.requires.swept.same, c.requires.swept.layout_is.least, c.requires.swept.layout_is.within) in
    on_ok c.add_begun.result
    (page_grows c.args.refs.now c.args.layout.now (view_of case moment) (source_of case moment) (images_of c.args.images.now) c.args.no c.in-Some-find.image c.args.owned.now c.add_owned.new.owned c.add_begun.new.owned
    (λ image. ap (λ place. is_viewed (images_of c.args.images.now) place image) (sym c.in-Some.ensures) ∙ found_only c.args.images.now c.in-Some.place c.in-Some-find.image some c.in-Some-find.ensures image)
    c.in_ok-add_owned.ensures)
    c.add_begun.ensures
