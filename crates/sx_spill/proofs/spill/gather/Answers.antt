use Rattle.std.proofs.Common.{◌≡◌, ◌+◌, ◌-◌, length, take, drop, refl, sym, ap, ◌∙◌, arith, length-append, length-take}
use Rattle.sx_spill.specs.Unused.{unused_by}
use Rattle.sx_spill.proofs.GatherLemmas.{gathered_more, gathered_none, gathered_all}
use Rattle.sx_spill.proofs.spill.gather.Goals as goal

pub returns-in_default-clause-payload : goal.returns-in_default-clause-payload
returns-in_default-clause-payload c =
    gathered_none (unused_by c.args.pages.now) c.loop.at c.loop.left (c.args.need - c.loop.counter) c.loop.bytes.items _ (sym c.in_default.ensures.view) c.loop.invariant.joined

pub loop-preserved : goal.loop-preserved
loop-preserved c =
    let page = c.in-Some.page.now in
    let len = c.min-len.result in
    let piece = take (4 + len - 4) (drop 4 page) in
    let cut : 4 + len - 4 ≡ len = omega arith in
    let grown = c.in_ok-extend_from_slice-2.ensures.items in
    let usable = c.usable.ensures.usable in
    record {
      joined = gathered_more (unused_by c.args.pages.now) c.loop.at c.be32-at.result c.loop.left (c.loop.left - len) len c.from-room.result (c.args.need - (c.loop.counter + 1)) c.loop.counter c.args.need
          page piece c.loop.bytes.items c.extend_from_slice-in-loop.new.self.items _ c.loop-test.true refl (sym c.in-Some.ensures.view)
          (omega (arith, usable, c.usable.ensures.least)) c.in-Some.ensures.whole (c.from-room.ensures ∙ ap (λ n. n - 4) usable) c.min-len.ensures refl
          (ap (λ k. take k (drop 4 page)) cut) grown c.be32-at.ensures c.loop.invariant.joined;
      few = omega (arith, ap length grown, length-append c.loop.bytes.items piece, length-take (4 + len - 4) (drop 4 page), c.min-len.ensures, c.loop.invariant.few);
    }

pub returns-clause-payload : goal.returns-clause-payload
returns-clause-payload c =
    let none : c.args.need - c.loop.counter ≡ 0 = omega arith in
    gathered_all (unused_by c.args.pages.now) c.loop.at c.loop.left (c.args.need - c.loop.counter) c.loop.bytes.items _ none c.loop.invariant.joined
