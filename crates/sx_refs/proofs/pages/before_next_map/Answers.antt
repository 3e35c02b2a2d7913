use Rattle.std.proofs.Common.{arith}
use Rattle.sx_refs.proofs.Steps.{none_at_first, none_from, below_place}
use Rattle.sx_refs.proofs.pages.before_next_map.Goals as goal
use Rattle.sx_refs.proofs.pages.before_next_map.Goals.{then-lock-no-via-then-lock-no, then-lock-no-via-else-lock-no+then-last-lock}

pub returns-then-no-lt2-clause-none : goal.returns-then-no-lt2-clause-none
returns-then-no-lt2-clause-none c = λ page above within. none_at_first c.args.layout.now page (omega (arith, within))

pub returns-then-lock-no-clause-above : goal.returns-then-lock-no-clause-above
returns-then-lock-no-clause-above c =
    c.last_below-last.ensures.last c.args.no
    (below_place c.args.no c.from.result c.from-step.result (omega arith) c.from.ensures (omega (arith, c.from-step.ensures))) (omega arith)

pub returns-then-lock-no-clause-none : goal.returns-then-lock-no-clause-none
returns-then-lock-no-clause-none c = λ page above within.
    none_from c.args.layout.now c.args.no page c.from.result c.from-step.result c.last_below-last.result (omega arith) c.from.ensures c.from-step.ensures above within
    c.last_below-last.ensures.below
    (λ e.
    elim c.then-lock-no.branch [
      | then-lock-no-via-then-lock-no w ↦ omega (arith, e, above, c.lock_page-lock.ensures)
      | then-lock-no-via-else-lock-no+then-last-lock w ↦ omega (arith, e, within, c.lock_page-lock.ensures)
    ])

pub returns-clause-none : goal.returns-clause-none
returns-clause-none c = λ page above within.
    none_from c.args.layout.now c.args.no page c.from.result c.from-step.result c.last_below-last.result (omega arith) c.from.ensures c.from-step.ensures above
    (omega (arith, within)) c.last_below-last.ensures.below (λ e. omega (arith, e, within, c.lock_page-lock.ensures))
