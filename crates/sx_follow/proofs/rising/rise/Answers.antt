use Rattle.std.proofs.Common.{arith}
use Rattle.sx_follow.proofs.RiseLemmas.{rise_start, rise_more, rise_few, rise_end}
use Rattle.sx_follow.proofs.KeepLemmas.{keeps_same, rise_keeps}
use Rattle.sx_follow.proofs.rising.rise.Goals as goal

pub loop-pair-init : goal.loop-pair-init
loop-pair-init g c =
    let graph = g.N.Names.graph c.args.names.now in
    let first = c.args.rising.now in
    record {
      can = c.requires;
      loop = λ lost base seen start. rise_start graph lost base seen first start;
      kept = keeps_same first.named first.sums;
    }

pub overflow_add-next : goal.overflow_add-next
overflow_add-next g c =
    let graph = g.N.Names.graph c.args.names.now in
    let can = c.loop-pair.invariant.can in
    let few = rise_few graph can.lost can.base can.first c.loop-pair.next c.loop-pair.rising (c.loop-pair.invariant.loop can.lost can.base can.first can.rising) in
    omega (arith, few, c.in-Some.ensures.0, (g.met.N.Names.sound c.args.names.now).few)

pub loop-pair-smaller : goal.loop-pair-smaller
loop-pair-smaller g c =
    let graph = g.N.Names.graph c.args.names.now in
    let can = c.loop-pair.invariant.can in
    let few = rise_few graph can.lost can.base can.first c.loop-pair.next c.loop-pair.rising (c.loop-pair.invariant.loop can.lost can.base can.first can.rising) in
    omega (arith, few, c.in-Some.ensures.0)

pub loop-pair-preserved : goal.loop-pair-preserved
loop-pair-preserved g c =
    let graph = g.N.Names.graph c.args.names.now in
    record {
      can = c.loop-pair.invariant.can;
      loop = λ lost base first start. rise_more graph lost base first c.loop-pair.next c.loop-pair.rising c.give.new.receiver c.in-Some.pair
          (g.met.N.Names.sound c.args.names.now) (c.loop-pair.invariant.loop lost base first start) c.in-Some.ensures c.in_ok-give.ensures;
      kept = rise_keeps c.args.rising.now c.loop-pair.rising c.give.new.receiver (graph.targets c.in-Some.pair) c.loop-pair.invariant.kept c.in_ok-give.ensures;
    }

pub returns-clause-risen : goal.returns-clause-risen
returns-clause-risen g c = λ lost base first start.
    rise_end (g.N.Names.graph c.args.names.now) lost base first c.loop-pair.next c.loop-pair.rising (c.loop-pair.invariant.loop lost base first start) c.in_default.ensures
