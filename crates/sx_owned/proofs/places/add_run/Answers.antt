-- Nothing is touched, or what is touched becomes one run.
use Rattle.std.proofs.Common.{arith}
use Rattle.sx_owned.proofs.Adding.{merged_is, inserted, replaced}
use Rattle.sx_owned.proofs.Tables.{on_ok}
use Rattle.sx_owned.proofs.places.add_run.Goals as goal

pub returns-then-first-last-clause-ok : goal.returns-then-first-last-clause-ok
returns-then-first-last-clause-ok c =
    let is = merged_is c.as_slice.result.now c.args.runs.now.items c.args.run c.merged-first.result.2 c.merged-first.result.0 c.merged-first.result.1
    c.as_slice.ensures.value c.merged-first.ensures.same c.merged-first.ensures.rises c.merged-first.ensures.within in
    on_ok c.insert_run.result
    (λ new. inserted c.args.runs.now.items c.insert_run.new.runs.items c.args.run c.merged-first.result.2 c.merged-first.result.0 c.merged-first.result.1 is.same c.if-first-last.true new)
    c.insert_run.ensures.ok

pub returns-clause-ok : goal.returns-clause-ok
returns-clause-ok c =
    let is = merged_is c.as_slice.result.now c.args.runs.now.items c.args.run c.merged-first.result.2 c.merged-first.result.0 c.merged-first.result.1
    c.as_slice.ensures.value c.merged-first.ensures.same c.merged-first.ensures.rises c.merged-first.ensures.within in
    replaced c.args.runs.now.items c.close_gap.new.runs.items c.args.run c.merged-first.result.2 c.merged-first.result.0 c.merged-first.result.1
    is.same (let rises = is.rises in omega (arith, c.if-first-last.false)) is.within c.close_gap.ensures
