use Rattle.std.proofs.Common.{◌∙◌, ap, map, is_some, option_copied, length, subst, sym, ℕ, List, arith}
use Rattle.sx_closure.specs.Graph.{IsGraph}
use Rattle.sx_follow.specs.Following.{HasFollowed}
use Rattle.sx_follow.specs.Widened.{widened}
use Rattle.sx_refs.specs.Pages.{graph_of}
use Rattle.sx_walk.specs.Renewing.{unsaid_count}
use Rattle.sx_refs.specs.Covering.{Covers}
use Rattle.sx_walk.proofs.Steadying.{both_kept}
use Rattle.sx_walk.proofs.walk.RefWalk.advance.Goals as goal

-- the table and the sums were followed
pub invariant_of-self-in-Some : goal.invariant_of-self-in-Some
invariant_of-self-in-Some g c =
    let inside = c.self.inside in
    let numbers = inside.numbers.items in
    let setting = c.in_ok-self-inside.field-0 in
    let made = c.in_ok-self-inside.ensures in
    let next = g.P.PageViews.view c.args.pages.now in
    let covers : Covers numbers next = subst (λ walk. Covers walk.numbers next) (sym c.self.view_is) c.requires.covered in
    let stepped = rw c.in-Some.is at c.in_ok-found.ensures.stepped in
    let graph = graph_of (g.P.PageViews.pages c.args.pages.now) next c.args.layout.now c.args.roots.now in
    let both =
    both_kept numbers (map (option_copied {T = List ℕ}) c.step_from.new.views.items) setting.size setting.layout setting.roots.items c.step_from.new.table c.in-Some.step.sums c.in-Some.step.roots c.step_from.new.missing next
    (g.P.PageViews.pages c.args.pages.now) c.args.layout.now c.args.roots.now (g.P.PageViews.page_size c.args.pages.now) covers
    (c.in_ok-found.ensures.views ∙ ap (map next) c.deref-2.ensures.value) c.requires.within c.requires.small c.size-size.ensures.whole
    (λ number past. c.size-size.ensures.within number (omega (arith, past, c.size-size.ensures.size))) c.size-size.ensures.from_one
    (made.0 ∙ c.size-size.ensures.size) made.1 made.2 stepped.good (subst (λ all. IsGraph (widened all graph)) c.deref-2.ensures.value stepped.wide) stepped.table
    (subst (λ all. HasFollowed (widened all graph) c.in-Some.step.sums) c.deref-2.ensures.value stepped.followed) (rw c.in-Some.is at c.in_ok-found.ensures.roots)
    ((rw c.in-Some.is at c.in_ok-found.ensures.missing) ∙ ap (map (unsaid_count (λ number. is_some (next number)) c.in-Some.step.sums)) c.deref-2.ensures.value) in (
      c.self.invariant.0,
      c.step_from.ensures.long ∙ ap length c.deref-2.ensures.value,
      both.0,
      both.1,
    )

-- both were counted anew
pub invariant_of-self-then-fits-2 : goal.invariant_of-self-then-fits-2
invariant_of-self-then-fits-2 g c =
    let inside = c.self.inside in
    let numbers = inside.numbers.items in
    let setting = c.in_ok-self-inside.field-0 in
    let made = c.in_ok-self-inside.ensures in
    let next = g.P.PageViews.view c.args.pages.now in
    let covers : Covers numbers next = subst (λ walk. Covers walk.numbers next) (sym c.self.view_is) c.requires.covered in
    let graph = graph_of (g.P.PageViews.pages c.args.pages.now) next c.args.layout.now c.args.roots.now in
    let both =
    both_kept numbers (map (option_copied {T = List ℕ}) c.step_from.new.views.items) setting.size setting.layout setting.roots.items c.in_ok-counted.counted.table c.in_ok-counted.counted.sums c.in_ok-counted.counted.roots c.in_ok-counted.counted.missing next
    (g.P.PageViews.pages c.args.pages.now) c.args.layout.now c.args.roots.now (g.P.PageViews.page_size c.args.pages.now) covers
    (c.in_ok-found.ensures.views ∙ ap (map next) c.deref-2.ensures.value) c.requires.within c.requires.small c.size-size.ensures.whole
    (λ number past. c.size-size.ensures.within number (omega (arith, past, c.size-size.ensures.size))) c.size-size.ensures.from_one
    (made.0 ∙ c.size-size.ensures.size) made.1 made.2 c.in_ok-counted.ensures.good (subst (λ all. IsGraph (widened all graph)) c.deref-then-fits-2.ensures.value c.in_ok-counted.ensures.wide) c.in_ok-counted.ensures.table
    (subst (λ all. HasFollowed (widened all graph) c.in_ok-counted.counted.sums) c.deref-then-fits-2.ensures.value c.in_ok-counted.ensures.sums) c.in_ok-counted.ensures.roots
    (c.in_ok-counted.ensures.missing ∙ ap (map (unsaid_count (λ number. is_some (next number)) c.in_ok-counted.counted.sums)) c.deref-then-fits-2.ensures.value) in (
      c.self.invariant.0,
      c.step_from.ensures.long ∙ ap length c.deref-2.ensures.value,
      both.0,
      both.1,
    )
