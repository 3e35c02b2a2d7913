use Rattle.std.proofs.Common.{map, option_copied, subst, List, ℕ, ◌∙◌}
use Rattle.sx_walk.specs.Steady.{IsStanding, IfStanding}
use Rattle.sx_walk.proofs.Steadying.{still_is, still_standing}
use Rattle.sx_walk.proofs.walk.stands_still.Goals as goal

pub returns-clause-table : goal.returns-clause-table
returns-clause-table g c =
    let setting = c.args.setting.now in
    let views = map (option_copied {T = List ℕ}) c.args.views.now in
    let next = g.P.PageViews.view c.args.pages.now in
    let same = c.is.ensures c.if-not-is.false in
    let kept : IsStanding c.args.numbers.now views setting.size setting.layout setting.roots.items c.args.table.now =
    subst (λ b. IfStanding b c.args.numbers.now views setting.size setting.layout setting.roots.items c.args.table.now) c.if-not-stands.false c.requires.standing in
    λ yes. still_is c.args.numbers.now views setting.size setting.layout setting.roots.items c.args.table.now next c.args.changed.now
    (g.P.PageViews.pages c.args.pages.now) c.args.layout.now c.args.roots.now kept c.requires.covered c.requires.stand
    (c.in_ok-all_steady.ensures c.if-not-branch.false) (same.0 ∙ c.size.ensures.size) same.1 same.2

pub returns-clause-standing : goal.returns-clause-standing
returns-clause-standing g c =
    let setting = c.args.setting.now in
    let views = map (option_copied {T = List ℕ}) c.args.views.now in
    let next = g.P.PageViews.view c.args.pages.now in
    let same = c.is.ensures c.if-not-is.false in
    let kept : IsStanding c.args.numbers.now views setting.size setting.layout setting.roots.items c.args.table.now =
    subst (λ b. IfStanding b c.args.numbers.now views setting.size setting.layout setting.roots.items c.args.table.now) c.if-not-stands.false c.requires.standing in
    λ yes. (
      c.if-not-stands.false,
      still_standing c.args.numbers.now views setting.size setting.layout setting.roots.items c.args.table.now next c.args.changed.now
          (g.P.PageViews.pages c.args.pages.now) c.args.layout.now c.args.roots.now kept c.requires.covered c.requires.stand
          (c.in_ok-all_steady.ensures c.if-not-branch.false) (same.0 ∙ c.size.ensures.size) same.1 same.2
          (g.P.PageViews.page_size c.args.pages.now) c.requires.within c.requires.small c.size.ensures.whole,
    )
