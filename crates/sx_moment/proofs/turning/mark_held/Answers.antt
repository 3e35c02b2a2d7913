use Rattle.std.proofs.Common.{◌≡◌, ◌∙◌, refl, arith, subst}
use Rattle.sx_moment.specs.Changes.{AreMarked}
use Rattle.sx_moment.specs.Turning.{is_held}
use Rattle.sx_moment.proofs.Stepped.{held_none, held_more}
use Rattle.sx_moment.proofs.turning.mark_held.Goals as goal

pub loop-rank-init : goal.loop-rank-init
loop-rank-init c = record {
  marked = held_none c.args.from c.args.turn c.args.origins.now c.args.changes.now.turns;
  settled = refl;
}

pub mark_if-requires-clause-rank : goal.mark_if-requires-clause-rank
mark_if-requires-clause-rank c = omega (arith, c.loop-rank.invariant.marked.long, c.requires.long, c.requires.end)

pub mark_if-requires-clause-later : goal.mark_if-requires-clause-later
mark_if-requires-clause-later c = omega (arith, c.loop-rank.invariant.settled, c.requires.later)

pub loop-rank-preserved : goal.loop-rank-preserved
loop-rank-preserved c = record {
  marked = held_more c.is_some.result c.args.from c.loop-rank.rank c.args.turn c.args.origins.now c.args.changes.now.turns c.loop-rank.changes.turns c.mark_if.new.changes.turns
      c.loop-rank.auto.rank c.is_some.ensures c.loop-rank.invariant.marked c.mark_if.ensures.marked;
  settled = c.mark_if.ensures.settled ∙ c.loop-rank.invariant.settled;
}

pub returns : goal.returns
returns c =
    let all : c.loop-rank.rank ≡ c.args.end = omega (arith, c.loop-rank-test.false, c.loop-rank.auto.rank-end c.requires.order) in
    record {
      marked = subst (λ n. AreMarked (is_held c.args.origins.now c.args.from n) c.args.turn c.args.changes.now.turns c.loop-rank.changes.turns) all c.loop-rank.invariant.marked;
      settled = c.loop-rank.invariant.settled;
    }
