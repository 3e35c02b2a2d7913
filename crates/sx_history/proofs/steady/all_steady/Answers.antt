use Rattle.std.proofs.Common.{◌≡◌, ◌∙◌, None, get_or, map, option_copied, refl, sym, subst, arith, w64, to_z, of_z}
use Rattle.std.proofs.Math.Facts.{to_z-of_z}
use Rattle.std.proofs.lemmas.List.{get_or_default}
use Rattle.sx_history.specs.Marks.{IsWhole, is_marked}
use Rattle.sx_history.specs.Standing.{IsSteadyAt, IsSteadyPage}
use Rattle.sx_history.proofs.Keeping.{one_more}
use Rattle.sx_history.proofs.Marking.{view_is}
use Rattle.sx_history.proofs.steady.all_steady.Goals as goal

pub is_steady-requires-clause-before : goal.is_steady-requires-clause-before
is_steady-requires-clause-before g c =
    let views = c.args.views.now in
    let rank = get_or c.args.changed.now c.loop-rank.rank-index 0 in
    subst (IsWhole c.args.usable) (view_is option_copied views rank (get_or views rank None) refl refl) (c.requires.whole rank)

pub loop-rank-preserved : goal.loop-rank-preserved
loop-rank-preserved g c =
    let rowid = to_z w64 (of_z w64 c.args.rowid) in
    let numbers = c.args.numbers.now in
    let views = c.args.views.now in
    let changed = c.args.changed.now in
    let view = g.P.PageViews.view c.args.pages.now in
    let rank = get_or changed c.loop-rank.rank-index 0 in
    let found = c.in_ok-is_steady.ensures c.if-not-branch.false in
    let now = subst (λ v. IsSteadyPage c.args.usable (get_or numbers rank 0) rowid (option_copied (get_or views rank None)) v (is_marked c.args.nodes.now rank) (is_marked c.args.chains.now rank))
    c.page.ensures.view found in
    let steady = subst (λ v. IsSteadyPage c.args.usable (get_or numbers rank 0) rowid v (view (get_or numbers rank 0)) (is_marked c.args.nodes.now rank) (is_marked c.args.chains.now rank))
    (sym (view_is option_copied views rank (get_or views rank None) refl refl)) now in
    one_more (λ k. IsSteadyAt c.args.usable rowid numbers (map option_copied views) view c.args.nodes.now c.args.chains.now (get_or changed k 0)) c.loop-rank.rank-index c.loop-rank.invariant steady

pub returns : goal.returns
returns g c same rank there =
    let read : to_z w64 (of_z w64 c.args.rowid) ≡ c.args.rowid = grind (arith, to_z-of_z) in
    let view = g.P.PageViews.view c.args.pages.now in
    let views = map option_copied c.args.views.now in
    subst (λ r. IsSteadyAt c.args.usable c.args.rowid c.args.numbers.now views view c.args.nodes.now c.args.chains.now r)
    (get_or_default c.args.changed.now there.0 0 rank there.1 ∙ there.2)
    (subst (λ z. IsSteadyAt c.args.usable z c.args.numbers.now views view c.args.nodes.now c.args.chains.now (get_or c.args.changed.now there.0 0)) read
    (c.loop-rank.invariant there.0 (omega (arith, there.1, c.loop-rank-test.false))))
