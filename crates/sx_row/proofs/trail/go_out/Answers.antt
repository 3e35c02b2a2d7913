use Rattle.std.proofs.Common.{◌-◌, ◌<◌, cond, Some, length, sym, ap, ◌∙◌, arith}
use Rattle.std.specs.Ordering.{nat_cmp}
use Rattle.std.specs.BTreeMap.{get}
use Rattle.sx_base.specs.Held.{held_pages}
use Rattle.sx_overflow.proofs.Lengths.{chain_none}
use Rattle.sx_row.proofs.HeldNumbers.{held_numbers_few, bounded, longer}
use Rattle.sx_row.proofs.Trails.{same_page, going_start, going_stop, going_more}
use Rattle.sx_row.proofs.trail.go_out.Goals as goal

pub loop-len-init : goal.loop-len-init
loop-len-init g c =
    going_start (g.P.PageViews.view c.args.pages.now) c.args.most c.args.link c.args.trail.now.items (get nat_cmp c.args.known.now) c.requires.empty c.requires.known

pub returns-in-Some-clause-out : goal.returns-in-Some-clause-out
returns-in-Some-clause-out g c = (
  c.loop-len.at,
  c.loop-len.invariant.is_trail,
  going_stop (g.P.PageViews.view c.args.pages.now) c.args.most c.args.link c.loop-len.at c.in-Some.len.now c.loop-len.trail.items (get nat_cmp c.loop-len.known)
      c.loop-len.invariant (sym c.in-Some.ensures.value),
)

pub returns-in_default-linked-clause-out : goal.returns-in_default-linked-clause-out
returns-in_default-linked-clause-out g c = (
  c.loop-len.at,
  c.loop-len.invariant.is_trail,
  sym (chain_none (g.P.PageViews.view c.args.pages.now) c.loop-len.at c.args.most (sym c.in_default-linked.ensures.view)),
)

pub loop-len-smaller : goal.loop-len-smaller
loop-len-smaller g c =
    let size = g.P.PageViews.pages c.args.pages.now in
    let view = g.P.PageViews.view c.args.pages.now in
    let old = get nat_cmp c.loop-len.known in
    let more = going_more view c.args.most c.args.link c.loop-len.at c.be32-at.result c.loop-len.trail.items c.push.new.self.items old (get nat_cmp c.insert.new.self)
    c.in-Some-linked.page.now c.loop-len.invariant (sym c.in_default.ensures.value) (sym c.in-Some-linked.ensures.view) c.in_ok-push.ensures.items
    (λ q. c.in_ok-insert.ensures.updates.0 q ∙ ap (λ b. cond b (Some c.args.most) (old q)) (same_page c.loop-len.at q)) c.be32-at.ensures in
    let few = held_numbers_few size view c.push.new.self.items (bounded size c.size-size.result view c.size-size.ensures.size c.size-size.ensures.within) c.size-size.ensures.from_one more.apart more.held in
    let less : length (held_pages size view) - length c.push.new.self.items < length (held_pages size view) - length c.loop-len.trail.items
    = omega (arith, few, longer c.loop-len.trail.items c.push.new.self.items c.loop-len.at c.in_ok-push.ensures.items) in
    less

pub loop-len-preserved : goal.loop-len-preserved
loop-len-preserved g c =
    let old = get nat_cmp c.loop-len.known in
    going_more (g.P.PageViews.view c.args.pages.now) c.args.most c.args.link c.loop-len.at c.be32-at.result c.loop-len.trail.items c.push.new.self.items old (get nat_cmp c.insert.new.self)
    c.in-Some-linked.page.now c.loop-len.invariant (sym c.in_default.ensures.value) (sym c.in-Some-linked.ensures.view) c.in_ok-push.ensures.items
    (λ q. c.in_ok-insert.ensures.updates.0 q ∙ ap (λ b. cond b (Some c.args.most) (old q)) (same_page c.loop-len.at q)) c.be32-at.ensures
