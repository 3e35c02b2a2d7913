use Rattle.std.proofs.Common.{fold, take_all, ◌≡◌, ◌∙◌, ℕ, ◌<◌, List, None, length, map, get_or, ap, sym, subst, option_copied, arith}
use Rattle.std.proofs.lemmas.List.{length-map, length-set, map-set}
use Rattle.sx_walk.specs.Turning.{HasUsable}
use Rattle.sx_walk.specs.Walks.{looked}
use Rattle.sx_walk.proofs.Views.{look_more, looked_all}
use Rattle.sx_walk.proofs.StepLemmas.{view_at}
use Rattle.sx_walk.proofs.TurnLemmas.{set_usable, turn_more, view_usable}
use Rattle.sx_walk.proofs.gather.gather.Goals as goal

pub exchange_page-requires-clause-before : goal.exchange_page-requires-clause-before
exchange_page-requires-clause-before g c =
    let views = c.loop-rank.views.items in
    let rank = get_or c.args.changed.now c.loop-rank.rank-index 0 in
    let within : rank < length views = omega (arith, c.requires.ranks c.loop-rank.rank-index 0 c.loop-rank-test.true, c.loop-rank.invariant.long) in
    let was : option_copied c.index.result.now ≡ get_or (map (option_copied {T = List ℕ}) views) rank None =
    ap option_copied c.index.ensures ∙ view_at (option_copied {T = List ℕ}) views rank c.index.result.now within in
    subst (HasUsable c.args.usable) (sym was) (c.loop-rank.invariant.usable rank)

pub loop-rank-preserved : goal.loop-rank-preserved
loop-rank-preserved g c =
    let next = g.P.PageViews.view c.args.pages.now in
    let numbers = c.args.numbers.now in
    let views = c.loop-rank.views.items in
    let rank = get_or c.args.changed.now c.loop-rank.rank-index 0 in
    let within : rank < length views = omega (arith, c.requires.ranks c.loop-rank.rank-index 0 c.loop-rank-test.true, c.loop-rank.invariant.long) in
    let below : rank < length numbers = c.requires.ranks c.loop-rank.rank-index 0 c.loop-rank-test.true in
    let was : option_copied c.index.result.now ≡ get_or (map (option_copied {T = List ℕ}) views) rank None =
    ap option_copied c.index.ensures ∙ view_at (option_copied {T = List ℕ}) views rank c.index.result.now within in
    let found = c.page-view.result in
    record {
      looked = look_more option_copied next numbers c.args.changed.now c.args.views.now.items views c.loop-rank.rank-index found c.loop-rank-test.true
          c.page-view.ensures.view c.loop-rank.invariant.looked;
      long = length-set views rank found ∙ c.loop-rank.invariant.long;
      usable = λ at. subst (λ vs. HasUsable c.args.usable (get_or vs at None)) (sym (map-set (option_copied {T = List ℕ}) views rank found))
          (set_usable c.args.usable (map (option_copied {T = List ℕ}) views) rank (option_copied found) (omega (arith, within, length-map views (option_copied {T = List ℕ})))
          c.loop-rank.invariant.usable
          (view_usable c.args.usable (g.P.PageViews.page_size c.args.pages.now) found c.requires.within c.requires.small c.page-view.ensures.whole) at);
      turned = turn_more (option_copied {T = List ℕ}) next c.args.sums.now c.args.usable numbers (map (option_copied {T = List ℕ}) c.args.views.now.items) views rank found c.index.result.now
          c.args.come.now c.loop-rank.come c.exchange_page.new.come c.args.gone.now c.loop-rank.gone c.exchange_page.new.gone c.requires.rises below c.loop-rank.invariant.long
          c.page-view.ensures.view was c.loop-rank.invariant.turned c.in_ok-exchange_page.ensures;
    }

pub returns-clause-looked : goal.returns-clause-looked
returns-clause-looked g c =
    let views = map (option_copied {T = List ℕ}) c.args.views.now.items in
    c.loop-rank.invariant.looked ∙ ap (fold (looked (g.P.PageViews.view c.args.pages.now) c.args.numbers.now) views) (take_all c.loop-rank.rank-index c.args.changed.now c.loop-rank-test.false)
    ∙ looked_all (g.P.PageViews.view c.args.pages.now) c.args.numbers.now c.args.changed.now views
    (length-map c.args.views.now.items (option_copied {T = List ℕ}) ∙ c.requires.long) c.requires.ranks c.requires.stand
