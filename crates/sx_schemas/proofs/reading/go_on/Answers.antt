use Rattle.std.proofs.Common.{◌<◌, length, refl, sym, subst}
use Rattle.std.specs.List.{All}
use Rattle.sx_moment.specs.Views.{view_of}
use Rattle.sx_history.specs.Standing.{Covers, StandBut}
use Rattle.sx_schemas.proofs.Behind.{covered, all_ranks, stands}
use Rattle.sx_schemas.proofs.reading.go_on.Goals as goal

pub advance-requires : goal.advance-requires
advance-requires c κs =
    let sweep = c.args.sweep.now in
    let numbers = c.requires.behind.numbers_are in
    let changed = c.changed.ensures.value in (
      (refl, tt),
      (
        subst (λ list. Covers list (view_of sweep.case sweep.moment)) (sym numbers) (covered sweep.case sweep.moment sweep.numbers c.numbers-numbers.ensures.all c.requires.listed),
        (
          subst (λ list. All (λ rank. rank < length c.args.walk.numbers) list) (sym changed)
              (subst (λ list. All (λ rank. rank < length list) sweep.changed) (sym numbers) (all_ranks sweep c.changed.ensures.changed)),
          (
            subst (λ list. StandBut list c.args.walk.numbers c.args.walk.views (view_of sweep.case sweep.moment)) (sym changed)
                (stands sweep c.args.walk.numbers c.args.walk.views c.changed.ensures.changed numbers c.requires.behind.views_are),
            (c.requires.least, (c.requires.within, c.requires.small)),
          ),
        ),
      ),
    )
