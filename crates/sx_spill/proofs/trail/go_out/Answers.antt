use Rattle.std.proofs.Common.{◌≡◌, ◌-◌, ◌<◌, ◌∷◌, [], cond, Option, None, Some, is_some, length, Bool, true, false, refl, sym, ap, ◌∙◌, arith, length-append, ℕ}
use Rattle.std.specs.Ordering.{nat_cmp}
use Rattle.std.specs.BTreeMap.{get}
use Rattle.sx_spill.specs.Unused.{unused_by}
use Rattle.sx_spill.proofs.TrailLemmas.{same_page, out_start, out_more, trail_few}
use Rattle.sx_spill.proofs.trail.go_out.Goals as goal

none_there : (found : Option ℕ) (b : Bool) → b ≡ is_some found → b ≡ false → found ≡ None
none_there None b is not = refl
none_there (Some n) b is not = let clash : false ≡ true = sym not ∙ is in absurd cc

pub loop-link-init : goal.loop-link-init
loop-link-init c =
    out_start (unused_by c.args.pages.now).view c.args.link c.args.trail.now.items (get nat_cmp c.args.known.now) c.requires.empty c.requires.known

pub loop-link-smaller : goal.loop-link-smaller
loop-link-smaller c =
    let view = (unused_by c.args.pages.now).view in
    let old = get nat_cmp c.loop-link.known in
    let none = none_there (old c.loop-link.at) c.contains_key.result c.contains_key.ensures c.if-contains_key.false in
    let more = out_more view c.args.link c.loop-link.at c.be32-at.result c.loop-link.trail.items c.push.new.self.items old (get nat_cmp c.insert.new.self) c.in-Some.page.now
    c.loop-link.invariant none (sym c.in-Some.ensures.view) c.in_ok-push.ensures.items
    (λ q. c.in_ok-insert.ensures.updates.0 q ∙ ap (λ b. cond b (Some 0) (old q)) (same_page c.loop-link.at q)) c.be32-at.ensures in
    let few = trail_few view c.args.link c.be32-at.result c.most-most.result c.push.new.self.items c.most-most.ensures more.leads more.apart in
    let grown = ap length c.in_ok-push.ensures.items ∙ length-append c.loop-link.trail.items (c.loop-link.at ∷ []) in
    let less : c.most-most.result - length c.push.new.self.items < c.most-most.result - length c.loop-link.trail.items = omega (arith, few, grown) in
    less

pub loop-link-preserved : goal.loop-link-preserved
loop-link-preserved c =
    let old = get nat_cmp c.loop-link.known in
    let none = none_there (old c.loop-link.at) c.contains_key.result c.contains_key.ensures c.if-contains_key.false in
    out_more (unused_by c.args.pages.now).view c.args.link c.loop-link.at c.be32-at.result c.loop-link.trail.items c.push.new.self.items old (get nat_cmp c.insert.new.self) c.in-Some.page.now
    c.loop-link.invariant none (sym c.in-Some.ensures.view) c.in_ok-push.ensures.items
    (λ q. c.in_ok-insert.ensures.updates.0 q ∙ ap (λ b. cond b (Some 0) (old q)) (same_page c.loop-link.at q)) c.be32-at.ensures
