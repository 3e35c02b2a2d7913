use Rattle.std.proofs.Common.{◌∙◌, None, get_or, map, option_copied, refl, sym, subst, arith}
use Rattle.std.proofs.lemmas.List.{get_or_default}
use Rattle.sx_history.specs.Marks.{is_marked, view_at}
use Rattle.sx_history.specs.Schemas.{IsStillPage}
use Rattle.sx_history.proofs.Keeping.{one_more}
use Rattle.sx_history.proofs.Marking.{view_is}
use Rattle.sx_history.proofs.still.all_still.Goals as goal

pub loop-rank-preserved : goal.loop-rank-preserved
loop-rank-preserved g c =
    let numbers = c.args.numbers.now in
    let views = c.args.views.now in
    let changed = c.args.changed.now in
    let nodes = c.args.nodes.now in
    let chains = c.args.chains.now in
    let view = g.P.PageViews.view c.args.pages.now in
    let rank = get_or changed c.loop-rank.rank-index 0 in
    let found = c.is_still.ensures c.if-not-is_still.false in
    let now = subst (λ v. IsStillPage (option_copied (get_or views rank None)) v (is_marked nodes rank) (is_marked chains rank)) c.page-now.ensures.view found in
    let still = subst (λ v. IsStillPage v (view (get_or numbers rank 0)) (is_marked nodes rank) (is_marked chains rank))
    (sym (view_is option_copied views rank (get_or views rank None) refl refl)) now in
    one_more (λ k. let r = get_or changed k 0 in IsStillPage (view_at (map option_copied views) r) (view (get_or numbers r 0)) (is_marked nodes r) (is_marked chains r))
    c.loop-rank.rank-index c.loop-rank.invariant still

pub returns : goal.returns
returns g c same rank there =
    let view = g.P.PageViews.view c.args.pages.now in
    let views = map option_copied c.args.views.now in
    subst (λ r. IsStillPage (view_at views r) (view (get_or c.args.numbers.now r 0)) (is_marked c.args.nodes.now r) (is_marked c.args.chains.now r))
    (get_or_default c.args.changed.now there.0 0 rank there.1 ∙ there.2)
    (c.loop-rank.invariant there.0 (omega (arith, there.1, c.loop-rank-test.false)))
