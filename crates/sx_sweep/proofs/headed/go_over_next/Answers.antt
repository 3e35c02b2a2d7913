use Rattle.std.proofs.Common.{◌<◌, ◌≤◌, length, refl, sym, subst, ◌∙◌, arith}
use Rattle.std.proofs.lemmas.Bool.{eqb-true}
use Rattle.std.specs.List.{All}
use Rattle.sx_moment.specs.Views.{view_of}
use Rattle.sx_refs.specs.Covering.{Covers}
use Rattle.sx_walk.specs.Walks.{StandBut}
use Rattle.sx_sweep.proofs.MomentLemmas.{covered, all_ranks, stands, still_but, goes_over}
use Rattle.sx_sweep.proofs.headed.go_over_next.Goals as goal

pub advance-requires : goal.advance-requires
advance-requires c κs =
    let sweep = c.args.sweep.now in
    let numbers = c.requires.reached.numbers_are in
    let changed = c.changed.ensures.value in
    let some : 0 < c.args.layout.now.page_size = omega (arith, c.requires.laid.least, c.requires.laid.within) in
    let within : c.args.layout.now.usable ≤ sweep.case.header.page_size = omega (arith, c.requires.laid.within, c.requires.pages) in
    let small : sweep.case.header.page_size ≤ 65536 = omega (arith, c.requires.laid.size.greatest, c.requires.pages) in (
      (refl, tt),
      (
        subst (λ list. Covers list (view_of sweep.case sweep.moment)) (sym numbers) (covered sweep.case sweep.moment sweep.numbers c.numbers-numbers.ensures.all c.requires.listed),
        (
          subst (λ list. All (λ rank. rank < length c.args.walk.numbers) list) (sym changed)
              (subst (λ list. All (λ rank. rank < length list) sweep.changed) (sym numbers) (all_ranks sweep c.changed.ensures.changed)),
          (
            subst (λ list. StandBut list c.args.walk (view_of sweep.case sweep.moment)) (sym changed)
                (stands sweep c.args.walk c.changed.ensures.changed numbers c.requires.reached.views_are),
            (some, (c.requires.laid.least, (within, small))),
          ),
        ),
      ),
    )

pub relabel_changed-requires-clause-others : goal.relabel_changed-requires-clause-others
relabel_changed-requires-clause-others c same =
    let sweep = c.args.sweep.now in
    still_but sweep c.args.walk c.advance.new.self c.args.usable c.args.layout.now.usable c.args.known.now.sums c.table.result.now _ c.changed.ensures.changed c.requires.reached
    (c.in_ok-advance.ensures.numbers ∙ c.requires.reached.numbers_are) c.in_ok-advance.ensures.touched (eqb-true c.args.usable c.args.layout.now.usable same) c.table.ensures c.touched.ensures

pub returns : goal.returns
returns c =
    let sweep = c.args.sweep.now in
    goes_over sweep.case sweep.moment sweep.numbers c.table.result.now c.args.layout.now c.args.roots.now c.args.images.now c.args.known.now.owned c.relabel_changed.new.known.owned c.relabel_changed.new.known.sums c.advance.new.self
    (c.in_ok-advance.ensures.numbers ∙ c.requires.reached.numbers_are) c.in_ok-advance.ensures.stands c.table.ensures c.in_ok-relabel_changed.ensures
