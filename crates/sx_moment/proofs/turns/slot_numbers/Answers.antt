use Rattle.std.proofs.Common.{◌≡◌, ap, arith}
use Rattle.sx_wal.specs.declared.slot.Slot.{Slot}
use Rattle.sx_moment.specs.Gathered.{slot_at}
use Rattle.sx_moment.proofs.Turned.{run_none, run_more, run_end}
use Rattle.sx_moment.proofs.turns.slot_numbers.Goals as goal

pub loop-i-init : goal.loop-i-init
loop-i-init c = record {
  order = omega arith;
  same = run_none (λ j. (slot_at c.args.sources.now j).page) c.args.from c.in_ok-pages.pages.items c.in_ok-pages.ensures.items;
}

pub loop-i-preserved : goal.loop-i-preserved
loop-i-preserved c = record {
  order = omega (arith, c.loop-i.invariant.order);
  same = run_more (λ j. (slot_at c.args.sources.now j).page) c.args.from c.loop-i.i c.slot.result.page c.loop-i.pages.items c.push.new.self.items
      c.loop-i.invariant.order c.loop-i.invariant.same (ap (λ (s : Slot). s.page) c.slot.ensures) c.in_ok-push.ensures.items;
}

pub returns : goal.returns
returns c =
    let at_end : c.loop-i.i ≡ c.args.end = omega (arith, c.loop-i-test.false, c.loop-i.auto.i-end c.requires.order) in
    run_end (λ j. (slot_at c.args.sources.now j).page) c.args.from c.args.end c.loop-i.i c.loop-i.pages.items at_end c.loop-i.invariant.same
