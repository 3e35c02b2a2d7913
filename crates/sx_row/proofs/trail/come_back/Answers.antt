use Rattle.std.proofs.Common.{cond, Some, subst, ap, ◌∙◌}
use Rattle.std.specs.Ordering.{nat_cmp}
use Rattle.std.specs.BTreeMap.{get}
use Rattle.sx_overflow.specs.Chains.{IsTrail}
use Rattle.sx_row.proofs.Trails.{same_page, trail_last, back_len, back_half}
use Rattle.sx_row.proofs.trail.come_back.Goals as goal

pub loop-at-preserved : goal.loop-at-preserved
loop-at-preserved g c =
    let view = g.P.PageViews.view c.args._pages.now in
    let out = c.loop-at.invariant.out in
    let is = subst (λ t. IsTrail view c.args.link t out.0) c.in-Some.ensures.items out.1 in
    let right = back_len view c.args.most c.args.link c.in-Some.at out.0 c.loop-at.len c.one_more-len.result c.pop.new.self.items is out.2 c.one_more-len.ensures in
    let old = get nat_cmp c.loop-at.known in
    record {
      out = (c.in-Some.at, (trail_last view c.args.link c.in-Some.at out.0 c.pop.new.self.items is).rest, right);
      half = back_half view c.args.most c.in-Some.at c.one_more-len.result c.pop.new.self.items c.loop-at.trail.items old (get nat_cmp c.insert.new.self)
          c.in-Some.ensures.items c.loop-at.invariant.half right
          (λ q. c.in_ok-insert.ensures.updates.0 q ∙ ap (λ b. cond b (Some c.one_more-len.result) (old q)) (same_page c.in-Some.at q));
    }
