use Rattle.std.proofs.Common.{refl, sym, subst}
use Rattle.std.specs.List.Sorted.{IsStrictlyIncreasing}
use Rattle.sx_moment.specs.Views.{view_of}
use Rattle.sx_history.specs.Standing.{Covers}
use Rattle.sx_schemas.proofs.Behind.{covered}
use Rattle.sx_schemas.proofs.reading.begin.Goals as goal

pub start-requires : goal.start-requires
start-requires c κs =
    let sweep = c.args.sweep.now in
    let same = sym c.numbers-numbers.ensures.value in (
      (refl, tt),
      (
        subst IsStrictlyIncreasing same c.numbers-numbers.ensures.ranked.rising,
        (
          subst (λ list. Covers list (view_of sweep.case sweep.moment)) same (covered sweep.case sweep.moment sweep.numbers c.numbers-numbers.ensures.all c.requires.listed),
          (c.requires.least, (c.requires.within, c.requires.small)),
        ),
      ),
    )
