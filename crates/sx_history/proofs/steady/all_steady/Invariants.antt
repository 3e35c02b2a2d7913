use Rattle.std.proofs.Common.{◌<◌, ℕ, get_or, map, option_copied}
use Rattle.sx_history.specs.Standing.{IsSteadyAt}
use Rattle.sx_history.proofs.steady.all_steady.Given as goal

-- the first so many listed pages are steady
abbrev pub invariant-loop-rank : goal.invariant-loop-rank
invariant-loop-rank g l = (k : ℕ) → k < l.rank-index
    → IsSteadyAt l.usable l.rowid l.numbers (map option_copied l.views) (g.P.PageViews.view l.pages) l.nodes l.chains (get_or l.changed k 0)
