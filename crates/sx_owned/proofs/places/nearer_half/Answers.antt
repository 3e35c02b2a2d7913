-- The runs of one half all end before the place, or all begin behind it.
use Rattle.sx_owned.proofs.Holding.{halves, behind_holds, front_holds, front_apart, behind_apart}
use Rattle.sx_owned.proofs.places.nearer_half.Goals as goal

pub returns-then-first-at-clause-owned : goal.returns-then-first-at-clause-owned
returns-then-first-at-clause-owned c =
    behind_holds c.args.runs.now c.split_at.result.0.now c.split_at.result.1.now c.in-Some.field-0-1.now c.in-Some.first.now c.args.at
    (halves c.args.runs.now c.split_at.result.0.now c.split_at.result.1.now _ c.split_at.ensures.front c.split_at.ensures.back c.requires.apart)
    c.in-Some.ensures.cases.0 c.if-first-at.true

pub returns-then-first-at-clause-apart : goal.returns-then-first-at-clause-apart
returns-then-first-at-clause-apart c =
    behind_apart c.args.runs.now c.split_at.result.0.now c.split_at.result.1.now
    (halves c.args.runs.now c.split_at.result.0.now c.split_at.result.1.now _ c.split_at.ensures.front c.split_at.ensures.back c.requires.apart)

pub returns-else-first-at-clause-owned : goal.returns-else-first-at-clause-owned
returns-else-first-at-clause-owned c =
    front_holds c.args.runs.now c.split_at.result.0.now c.split_at.result.1.now c.in-Some.field-0-1.now c.in-Some.first.now c.args.at
    (halves c.args.runs.now c.split_at.result.0.now c.split_at.result.1.now _ c.split_at.ensures.front c.split_at.ensures.back c.requires.apart)
    c.in-Some.ensures.cases.0 c.if-first-at.false

pub returns-else-first-at-clause-apart : goal.returns-else-first-at-clause-apart
returns-else-first-at-clause-apart c =
    front_apart c.args.runs.now c.split_at.result.0.now c.split_at.result.1.now
    (halves c.args.runs.now c.split_at.result.0.now c.split_at.result.1.now _ c.split_at.ensures.front c.split_at.ensures.back c.requires.apart)
