-- The next page that is held, and those above it.
use Rattle.std.proofs.Common.{sym, arith}
use Rattle.sx_images.specs.Images.{images_of}
use Rattle.sx_moment.specs.Gathered.{size_at}
use Rattle.sx_moment.specs.Views.{view_of}
use Rattle.sx_sweep.proofs.PageLemmas.{next_above}
use Rattle.sx_sweep.proofs.WalkLemmas.{pages_step, pages_end}
use Rattle.sx_sweep.proofs.pages.add_pages.Goals as goal

pub loop-no-smaller : goal.loop-no-smaller
loop-no-smaller c =
    let case = c.args.snapshot.now.case.now in
    let moment = c.args.snapshot.now.moment in
    let next = next_above (size_at case moment) (view_of case moment) c.loop-no.after c.in-Some.no (sym c.in-Some.ensures) in
    omega (arith, next.0, next.1)

pub loop-no-preserved : goal.loop-no-preserved
loop-no-preserved c =
    let case = c.args.snapshot.now.case.now in
    let moment = c.args.snapshot.now.moment in
    let next = next_above (size_at case moment) (view_of case moment) c.loop-no.after c.in-Some.no (sym c.in-Some.ensures) in
    record {
      within = next.1;
      growing =
          pages_step c.args.refs.now c.args.layout.now case moment (images_of c.args.images.now) c.args.owned.now c.loop-no.owned c.add_page.new.owned c.loop-no.after c.in-Some.no (sym c.in-Some.ensures)
          c.loop-no.invariant.growing c.in_ok-add_page.ensures;
    }

pub returns : goal.returns
returns c =
    let case = c.args.snapshot.now.case.now in
    let moment = c.args.snapshot.now.moment in
    pages_end c.args.refs.now c.args.layout.now case moment (images_of c.args.images.now) c.args.owned.now c.loop-no.owned c.loop-no.after c.loop-no.invariant.within (sym c.in_default.ensures)
    c.loop-no.invariant.growing
