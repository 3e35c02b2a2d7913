use Rattle.std.proofs.Common.{◌≡◌, ◌∙◌, ap, is_some, map, option_copied, length, subst, sym, ℕ, List, arith, rules}
use Rattle.std.proofs.lemmas.List.{length-map}
use Rattle.sx_closure.specs.Graph.{Rises, IsGraph}
use Rattle.sx_follow.specs.Following.{HasFollowed}
use Rattle.sx_follow.specs.Widened.{widened}
use Rattle.sx_refs.specs.Covering.{Covers}
use Rattle.sx_refs.specs.Pages.{graph_of}
use Rattle.sx_walk.specs.Renewing.{unsaid_count}
use Rattle.sx_walk.proofs.Steadying.{both_kept}
use Rattle.sx_walk.proofs.walk.RefWalk.start_followed.Goals as goal

pub invariant_of-result : goal.invariant_of-result
invariant_of-result g c =
    let numbers = c.in_ok-numbers.numbers.items in
    let setting = c.in_ok-setting.setting in
    let made = c.in_ok-setting.ensures in
    let next = g.P.PageViews.view c.args.pages.now in
    let counted = c.in_ok-counted.counted in
    let told = c.in_ok-counted.ensures in
    let same : numbers ≡ c.args.numbers.now = search rules in
    let views : List _ = map (option_copied {T = List ℕ}) c.in_ok-views.views.items in
    let are : views ≡ map next numbers = c.in_ok-views.ensures ∙ ap (map next) (sym same) in
    let graph = graph_of (g.P.PageViews.pages c.args.pages.now) next c.args.layout.now c.args.roots.now in
    let both =
    both_kept numbers views setting.size setting.layout setting.roots.items counted.table counted.sums counted.roots counted.missing next
    (g.P.PageViews.pages c.args.pages.now) c.args.layout.now c.args.roots.now (g.P.PageViews.page_size c.args.pages.now)
    (subst (λ all. Covers all next) (sym same) c.requires.covered) are c.requires.within c.requires.small c.size-size.ensures.whole
    (λ number past. c.size-size.ensures.within number (omega (arith, past, c.size-size.ensures.size))) c.size-size.ensures.from_one
    (made.0 ∙ c.size-size.ensures.size) made.1 made.2 told.good (subst (λ all. IsGraph (widened all graph)) (sym same) told.wide) told.table
    (subst (λ all. HasFollowed (widened all graph) counted.sums) (sym same) told.sums) told.roots
    (told.missing ∙ ap (map (unsaid_count (λ number. is_some (next number)) counted.sums)) (sym same)) in (
      subst Rises (sym same) c.requires.rise,
      sym (length-map c.in_ok-views.views.items (option_copied {T = List ℕ})) ∙ ap length are ∙ length-map numbers next,
      both.0,
      both.1,
    )
