use Rattle.std.proofs.Common.{◌<◌, ◌∙◌, ℕ, List, None, get_or, map, length, option_copied, sym, subst, arith}
use Rattle.std.proofs.lemmas.List.{get_or_default}
use Rattle.sx_walk.specs.Steady.{IsSteady}
use Rattle.sx_walk.specs.Turning.{HasUsable}
use Rattle.sx_walk.proofs.Steadying.{one_more}
use Rattle.sx_walk.proofs.StepLemmas.{view_at}
use Rattle.sx_walk.proofs.steady.all_steady.Goals as goal

pub is_steady-requires-clause-before : goal.is_steady-requires-clause-before
is_steady-requires-clause-before g c =
    let views = c.args.views.now in
    let rank = get_or c.args.changed.now c.loop-rank.rank-index 0 in
    let within : rank < length views = omega (arith, c.requires.ranks c.loop-rank.rank-index 0 c.loop-rank-test.true, c.requires.long) in
    subst (HasUsable c.args.usable) (sym (view_at (option_copied {T = List ℕ}) views rank None within)) (c.requires.before rank)

pub loop-rank-preserved : goal.loop-rank-preserved
loop-rank-preserved g c =
    let table = c.args.table.now in
    let usable = c.args.usable in
    let numbers = c.args.numbers.now in
    let views = c.args.views.now in
    let changed = c.args.changed.now in
    let view = g.P.PageViews.view c.args.pages.now in
    let rank = get_or changed c.loop-rank.rank-index 0 in
    let within : rank < length views = omega (arith, c.requires.ranks c.loop-rank.rank-index 0 c.loop-rank-test.true, c.requires.long) in
    let steady : IsSteady table usable (get_or numbers rank 0) (get_or (map (option_copied {T = List ℕ}) views) rank None) (view (get_or numbers rank 0)) =
    subst (λ before. IsSteady table usable (get_or numbers rank 0) before (view (get_or numbers rank 0))) (view_at (option_copied {T = List ℕ}) views rank None within)
    (subst (IsSteady table usable (get_or numbers rank 0) (option_copied (get_or views rank None))) c.page.ensures.view
    (c.in_ok-is_steady.ensures c.if-not-branch.false)) in
    one_more (λ k. IsSteady table usable (get_or numbers (get_or changed k 0) 0) (get_or (map (option_copied {T = List ℕ}) views) (get_or changed k 0) None) (view (get_or numbers (get_or changed k 0) 0)))
    c.loop-rank.rank-index c.loop-rank.invariant steady

pub returns : goal.returns
returns g c =
    let table = c.args.table.now in
    let numbers = c.args.numbers.now in
    let view = g.P.PageViews.view c.args.pages.now in
    let views = map (option_copied {T = List ℕ}) c.args.views.now in
    λ yes rank there.
    subst (λ r. IsSteady table c.args.usable (get_or numbers r 0) (get_or views r None) (view (get_or numbers r 0)))
    (get_or_default c.args.changed.now there.0 0 rank there.1 ∙ there.2)
    (c.loop-rank.invariant there.0 (omega (arith, there.1, c.loop-rank-test.false)))
