use Rattle.std.proofs.Common.{◌≤◌, ◌∙◌, arith}
use Rattle.sx_owned.proofs.RunLemmas.{apart_next, skipped_next}
use Rattle.sx_owned.proofs.unowned.next_gap.Goals as goal

pub returns-then-at-first-clause-apart : goal.returns-then-at-first-clause-apart
returns-then-at-first-clause-apart c = apart_next c.loop-first.at c.loop-first.left.now c.in-Some.others.now c.in-Some.first.now c.in-Some.ensures.cases.0 c.loop-first.invariant.apart

pub loop-first-preserved : goal.loop-first-preserved
loop-first-preserved c =
    let past : c.in-Some.first.now.start ≤ c.loop-first.at = omega arith in
    record {
      same = skipped_next c.loop-first.at c.args.end c.loop-first.left.now c.in-Some.others.now c.in-Some.first.now c.in-Some.ensures.cases.0 past ∙ c.loop-first.invariant.same;
      apart = apart_next c.loop-first.at c.loop-first.left.now c.in-Some.others.now c.in-Some.first.now c.in-Some.ensures.cases.0 c.loop-first.invariant.apart;
    }
