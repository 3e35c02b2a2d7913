use Rattle.std.proofs.Common.{arith}
use Rattle.sx_follow.proofs.FallLemmas.{fall_start, fall_more, fall_few, fall_end}
use Rattle.sx_follow.proofs.KeepLemmas.{keeps_same, fall_keeps}
use Rattle.sx_follow.proofs.falling.fall.Goals as goal

pub loop-pair-init : goal.loop-pair-init
loop-pair-init g c =
    let first = c.args.falling.now in
    record { loop = fall_start (g.N.Names.graph c.args.names.now) first c.requires; kept = keeps_same first.lost first.sums }

pub overflow_add-next : goal.overflow_add-next
overflow_add-next g c =
    let few = fall_few (g.N.Names.graph c.args.names.now) c.loop-pair.next c.loop-pair.falling c.loop-pair.invariant.loop in
    omega (arith, few, c.in-Some.ensures.0, (g.met.N.Names.sound c.args.names.now).few)

pub loop-pair-smaller : goal.loop-pair-smaller
loop-pair-smaller g c =
    let few = fall_few (g.N.Names.graph c.args.names.now) c.loop-pair.next c.loop-pair.falling c.loop-pair.invariant.loop in
    omega (arith, few, c.in-Some.ensures.0)

pub loop-pair-preserved : goal.loop-pair-preserved
loop-pair-preserved g c =
    let graph = g.N.Names.graph c.args.names.now in
    record {
      loop = fall_more graph c.loop-pair.next c.loop-pair.falling c.give.new.receiver c.in-Some.pair (g.met.N.Names.sound c.args.names.now)
          c.loop-pair.invariant.loop c.in-Some.ensures c.in_ok-give.ensures;
      kept = fall_keeps c.args.falling.now c.loop-pair.falling c.give.new.receiver (graph.targets c.in-Some.pair) c.loop-pair.invariant.kept c.in_ok-give.ensures;
    }

pub returns-clause-fallen : goal.returns-clause-fallen
returns-clause-fallen g c =
    fall_end (g.N.Names.graph c.args.names.now) c.loop-pair.next c.loop-pair.falling c.loop-pair.invariant.loop c.in_default.ensures
