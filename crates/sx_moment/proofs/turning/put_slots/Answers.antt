use Rattle.std.proofs.Common.{◌≡◌, ◌∙◌, refl, arith, subst}
use Rattle.sx_moment.specs.Changes.{AreMarked}
use Rattle.sx_moment.specs.Turning.{AreOrigins, slot_base, slots_hold, is_within}
use Rattle.sx_moment.proofs.Stepped.{slots_none, slots_marked}
use Rattle.sx_moment.proofs.turning.put_slots.Goals as goal

pub loop-i-init : goal.loop-i-init
loop-i-init c = record {
  origins = c.requires.origins;
  marked = slots_none c.args.sources.now c.args.from c.args.step.within c.args.step.turn c.args.ranks.now c.args.changes.now.turns;
  settled = refl;
}

pub put_slot-requires : goal.put_slot-requires
put_slot-requires c = record {
  there = omega (arith, c.loop-i-test.true, c.requires.there);
  origins = c.loop-i.invariant.origins;
  long = c.loop-i.invariant.marked.long ∙ c.requires.long;
  later = omega (arith, c.loop-i.invariant.settled, c.requires.later);
}

pub loop-i-preserved : goal.loop-i-preserved
loop-i-preserved c = record {
  origins = c.put_slot.ensures.origins;
  marked = slots_marked c.args.sources.now c.args.from c.loop-i.i c.args.step.within c.args.step.turn c.args.ranks.now c.args.changes.now.turns c.loop-i.changes.turns c.put_slot.new.changes.turns
      c.loop-i.auto.i c.loop-i.invariant.marked c.put_slot.ensures.marked;
  settled = c.put_slot.ensures.settled ∙ c.loop-i.invariant.settled;
}

pub returns : goal.returns
returns c =
    let all : c.loop-i.i ≡ c.args.end = omega (arith, c.loop-i-test.false, c.loop-i.auto.i-end c.requires.order) in
    record {
      origins = subst (λ n. AreOrigins (slot_base c.args.sources.now n) c.args.ranks.now c.loop-i.origins.items) all c.loop-i.invariant.origins;
      marked = subst (λ n. AreMarked (is_within (slots_hold c.args.sources.now c.args.from n) c.args.step.within c.args.ranks.now) c.args.step.turn c.args.changes.now.turns c.loop-i.changes.turns) all c.loop-i.invariant.marked;
      settled = c.loop-i.invariant.settled;
    }
