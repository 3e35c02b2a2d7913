use Rattle.std.proofs.Common.{◌∙◌, ap, option_copied, get_or, map, fold, take_all, List, ℕ}
use Rattle.std.proofs.lemmas.List.{length-set, length-map}
use Rattle.sx_history.proofs.Looking.{look_more, looked_all}
use Rattle.sx_history.proofs.Looking.{looked}
use Rattle.sx_history.proofs.views.look_again.Goals as goal

pub loop-rank-preserved : goal.loop-rank-preserved
loop-rank-preserved g c =
    let views = c.loop-rank.views.items in
    let rank = get_or c.args.changed.now c.loop-rank.rank-index 0 in
    record {
      looked = look_more option_copied (g.P.PageViews.view c.args.pages.now) c.args.numbers.now c.args.changed.now c.args.views.now.items views
          c.loop-rank.rank-index c.page.result c.loop-rank-test.true c.page.ensures.view c.loop-rank.invariant.looked;
      views = length-set views rank c.page.result ∙ c.loop-rank.invariant.views;
    }

pub returns-clause-looked : goal.returns-clause-looked
returns-clause-looked g c =
    let views = map (option_copied {T = List ℕ}) c.args.views.now.items in
    c.loop-rank.invariant.looked ∙ ap (fold (looked (g.P.PageViews.view c.args.pages.now) c.args.numbers.now) views) (take_all c.loop-rank.rank-index c.args.changed.now c.loop-rank-test.false)
    ∙ looked_all (g.P.PageViews.view c.args.pages.now) c.args.numbers.now c.args.changed.now views
    (length-map c.args.views.now.items (option_copied {T = List ℕ}) ∙ c.requires.views) c.requires.ranks c.requires.stand
