use Rattle.std.proofs.Common.{◌<◌, ◌≤◌, refl, sym, subst, ◌∙◌, arith}
use Rattle.sx_closure.specs.Graph.{Rises}
use Rattle.sx_moment.specs.Views.{view_of}
use Rattle.sx_refs.specs.Covering.{Covers}
use Rattle.sx_sweep.proofs.MomentLemmas.{rises, covered, goes_over}
use Rattle.sx_sweep.proofs.headed.go_over_first.Goals as goal

pub start-requires : goal.start-requires
start-requires c κs =
    let sweep = c.args.sweep.now in
    let some : 0 < c.args.layout.now.page_size = omega (arith, c.requires.laid.least, c.requires.laid.within) in
    let within : c.args.layout.now.usable ≤ sweep.case.header.page_size = omega (arith, c.requires.laid.within, c.requires.pages) in
    let small : sweep.case.header.page_size ≤ 65536 = omega (arith, c.requires.laid.size.greatest, c.requires.pages) in (
      (refl, tt),
      (
        subst Rises (sym c.numbers-numbers.ensures.value) (rises sweep.numbers c.numbers-numbers.ensures.ranked.rising),
        (
          subst (λ list. Covers list (view_of sweep.case sweep.moment)) (sym c.numbers-numbers.ensures.value) (covered sweep.case sweep.moment sweep.numbers c.numbers-numbers.ensures.all c.requires.listed),
          (some, (c.requires.laid.least, (within, small))),
        ),
      ),
    )

pub returns : goal.returns
returns c =
    let sweep = c.args.sweep.now in
    goes_over sweep.case sweep.moment sweep.numbers c.table.result.now c.args.layout.now c.args.roots.now c.args.images.now c.args.known.now.owned c.relabel_all.new.known.owned c.relabel_all.new.known.sums c.in_ok-walk.walk
    (c.in_ok-walk.ensures.numbers ∙ c.numbers-numbers.ensures.value) c.in_ok-walk.ensures.stands c.table.ensures c.in_ok-relabel_all.ensures
