use Rattle.std.proofs.Common.{◌+◌, ◌≤◌, cond, Some, refl, ap, ◌∙◌, arith}
use Rattle.std.specs.Ordering.{nat_cmp}
use Rattle.std.specs.BTreeMap.{get}
use Rattle.sx_spill.specs.Unused.{unused_by}
use Rattle.sx_spill.proofs.TrailLemmas.{same_page, back_few, back_more}
use Rattle.sx_spill.proofs.trail.come_back.Goals as goal

pub overflow_add-len : goal.overflow_add-len
overflow_add-len c =
    let back = c.loop-number.invariant in
    let few : c.loop-number.len + 1 ≤ c.most-most.result
    = back_few (unused_by c.args.pages.now).view c.args.link back.0 c.loop-number.len c.in-Some.number c.most-most.result c.pop.new.self.items c.loop-number.trail.items
    (get nat_cmp c.loop-number.known) c.most-most.ensures c.in-Some.ensures.items back.1 in
    omega (arith, few)

pub loop-number-preserved : goal.loop-number-preserved
loop-number-preserved c =
    let back = c.loop-number.invariant in
    let old = get nat_cmp c.loop-number.known in
    let len = c.loop-number.len + 1 in (
      c.in-Some.number,
      back_more (unused_by c.args.pages.now).view c.args.link back.0 c.loop-number.len len c.in-Some.number c.pop.new.self.items c.loop-number.trail.items
          old (get nat_cmp c.insert.new.self) c.in-Some.ensures.items back.1 refl
          (λ q. c.in_ok-insert.ensures.updates.0 q ∙ ap (λ b. cond b (Some len) (old q)) (same_page c.in-Some.number q)),
    )
