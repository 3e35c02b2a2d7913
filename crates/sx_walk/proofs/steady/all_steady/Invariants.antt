use Rattle.std.proofs.Common.{◌<◌, ℕ, None, get_or, map, option_copied}
use Rattle.sx_walk.specs.Steady.{IsSteady}
use Rattle.sx_walk.proofs.steady.all_steady.Given as goal

-- the first so many listed pages are steady
abbrev pub invariant-loop-rank : goal.invariant-loop-rank
invariant-loop-rank g l = (k : ℕ) → k < l.rank-index
    → IsSteady l.table l.usable (get_or l.numbers (get_or l.changed k 0) 0) (get_or (map option_copied l.views) (get_or l.changed k 0) None)
    (g.P.PageViews.view l.pages (get_or l.numbers (get_or l.changed k 0) 0))
