use Rattle.std.proofs.Common.{◌≡◌, ◌∙◌, ap, map, option_copied, length, subst, sym, ℕ, List, rules}
use Rattle.std.proofs.lemmas.List.{length-map}
use Rattle.sx_closure.specs.Graph.{Rises}
use Rattle.sx_refs.specs.Covering.{Covers}
use Rattle.sx_walk.proofs.Steadying.{one_kept}
use Rattle.sx_walk.proofs.walk.RefWalk.start.Goals as goal

pub invariant_of-result : goal.invariant_of-result
invariant_of-result g c =
    let numbers = c.in_ok-numbers.numbers.items in
    let setting = c.in_ok-setting.setting in
    let made = c.in_ok-setting.ensures in
    let next = g.P.PageViews.view c.args.pages.now in
    let same : numbers ≡ c.args.numbers.now = search rules in
    let views = map (option_copied {T = List ℕ}) c.in_ok-views.views.items in
    let are : views ≡ map next numbers = c.in_ok-views.ensures ∙ ap (map next) (sym same) in (
      subst Rises (sym same) c.requires.rise,
      sym (length-map c.in_ok-views.views.items (option_copied {T = List ℕ})) ∙ ap length are ∙ length-map numbers next,
      one_kept numbers views setting.size setting.layout setting.roots.items c.in_ok-table.table next
          (g.P.PageViews.pages c.args.pages.now) c.args.layout.now c.args.roots.now (g.P.PageViews.page_size c.args.pages.now)
          (subst (λ all. Covers all next) (sym same) c.requires.covered) are c.requires.within c.requires.small c.size-size.ensures.whole
          (made.0 ∙ c.size-size.ensures.size) made.1 made.2 c.in_ok-table.ensures,
      tt,
    )
