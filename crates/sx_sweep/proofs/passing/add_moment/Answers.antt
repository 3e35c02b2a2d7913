use Rattle.std.proofs.Common.{is_some, subst, sym, ◌∙◌}
use Rattle.sx_schemas.proofs.Behind.{read_behind}
use Rattle.sx_sweep.specs.Passing.{IsReached}
use Rattle.sx_sweep.proofs.AllLemmas.{is_there, head_here, totals_more, before_settled}
use Rattle.sx_sweep.proofs.passing.add_moment.Goals as goal

pub returns-clause-totals : goal.returns-clause-totals
returns-clause-totals c =
    let sweep = c.args.sweep.now in
    let snapshot = c.snapshot.result in
    totals_more sweep.case sweep.moment c.head.result c.args.pass.now.totals.items c.add_headed.new.pass.totals.items
    (c.head.ensures ∙ head_here sweep.case snapshot.case.now sweep.moment snapshot.moment c.snapshot.ensures.case c.snapshot.ensures.moment)
    (is_there (is_some c.head.result) c.is_none.result c.is_none.ensures c.if-is_none.false) c.in_ok-behind.ensures.totals

pub returns-clause-before : goal.returns-clause-before
returns-clause-before c =
    let sweep = c.args.sweep.now in
    let settled = c.settled.ensures in (
      before_settled sweep c.settled.new.self c.in_ok-behind.behind.walk c.add_headed.new.pass.usable c.add_headed.new.pass.known.sums settled.case settled.numbers settled.settled
          c.moment-moment.ensures.there
          (subst (λ u. IsReached sweep.case sweep.moment sweep.numbers c.in_ok-behind.behind.walk u c.add_headed.new.pass.known.sums) (sym c.in_ok-behind.ensures.usable) c.in_ok-behind.ensures.headed.reached),
      read_behind sweep c.settled.new.self c.in_ok-behind.behind.schemas settled.case settled.numbers settled.settled c.moment-moment.ensures.there c.in_ok-behind.ensures.read,
    )
