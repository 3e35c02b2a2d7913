use Rattle.std.proofs.Common.{◌+◌, refl, sym, ◌∙◌}
use Rattle.sx_images.specs.Images.{images_of}
use Rattle.sx_sweep.proofs.AllLemmas.{known_on, step_growing, step_totals, first_growing, first_totals, last_grows, last_totals}
use Rattle.sx_sweep.proofs.passing.add_moments.Goals as goal

pub loop-alloc-init : goal.loop-alloc-init
loop-alloc-init c =
    let sweep = c.args.sweep.now in
    record {
      case_is = c.add_moment.ensures.case;
      numbers_are = c.add_moment.ensures.numbers;
      known = c.in_ok-behind.ensures.known;
      before = c.in_ok-behind.ensures.before;
      growing =
          step_growing sweep.case sweep.case (images_of c.args.images.now) c.args.pass.now.known.owned c.args.pass.now.known.owned c.add_moment.new.pass.known.owned 0 sweep.place c.add_moment.new.sweep.place
          sweep.moment refl (sym c.requires.first) c.add_moment.ensures.place c.add_moment.ensures.there (first_growing sweep.case (images_of c.args.images.now) c.args.pass.now.known.owned) c.in_ok-behind.ensures.grows;
      totals =
          step_totals sweep.case sweep.case c.args.pass.now.totals.items c.add_moment.new.pass.totals.items 0 sweep.place c.add_moment.new.sweep.place sweep.moment refl (sym c.requires.first)
          c.add_moment.ensures.place c.add_moment.ensures.there (first_totals sweep.case c.args.pass.now.totals.items c.requires.none) c.in_ok-behind.ensures.totals;
    }

pub loop-alloc-preserved : goal.loop-alloc-preserved
loop-alloc-preserved c =
    let sweep = c.args.sweep.now in
    let last = c.loop-alloc.sweep in
    let next = c.next.new.self in
    let on = c.next.ensures.next c.loop-alloc-test.true in
    let same_case = on.case ∙ c.loop-alloc.invariant.case_is in
    let same_numbers = on.numbers ∙ c.loop-alloc.invariant.numbers_are in
    record {
      case_is = c.add_moment-in-loop-alloc.ensures.case ∙ same_case;
      numbers_are = c.add_moment-in-loop-alloc.ensures.numbers ∙ same_numbers;
      known =
          known_on next.case sweep.case next.numbers sweep.numbers c.args.images.now c.add_moment-in-loop-alloc.new.pass.known.owned c.add_moment-in-loop-alloc.new.pass.known.sums
          (sym same_case) (sym same_numbers) c.in_ok-behind-2.ensures.known;
      before = c.in_ok-behind-2.ensures.before;
      growing =
          step_growing sweep.case next.case (images_of c.args.images.now) c.args.pass.now.known.owned c.loop-alloc.pass.known.owned c.add_moment-in-loop-alloc.new.pass.known.owned (last.place + 1) next.place
          c.add_moment-in-loop-alloc.new.sweep.place next.moment same_case (sym on.place) c.add_moment-in-loop-alloc.ensures.place c.add_moment-in-loop-alloc.ensures.there c.loop-alloc.invariant.growing
          c.in_ok-behind-2.ensures.grows;
      totals =
          step_totals sweep.case next.case c.loop-alloc.pass.totals.items c.add_moment-in-loop-alloc.new.pass.totals.items (last.place + 1) next.place c.add_moment-in-loop-alloc.new.sweep.place next.moment
          same_case (sym on.place) c.add_moment-in-loop-alloc.ensures.place c.add_moment-in-loop-alloc.ensures.there c.loop-alloc.invariant.totals c.in_ok-behind-2.ensures.totals;
    }

pub returns-clause-grows : goal.returns-clause-grows
returns-clause-grows c =
    let sweep = c.args.sweep.now in
    last_grows sweep.case c.loop-alloc.sweep.case (images_of c.args.images.now) c.args.pass.now.known.owned c.loop-alloc.pass.known.owned c.loop-alloc.sweep.place c.next.result c.loop-alloc.invariant.case_is
    c.next.ensures.more c.loop-alloc-test.false c.loop-alloc.invariant.growing

pub returns-clause-totals : goal.returns-clause-totals
returns-clause-totals c =
    let sweep = c.args.sweep.now in
    last_totals sweep.case c.loop-alloc.sweep.case c.loop-alloc.pass.totals.items c.loop-alloc.sweep.place c.next.result c.loop-alloc.invariant.case_is
    c.next.ensures.more c.loop-alloc-test.false c.loop-alloc.invariant.totals
