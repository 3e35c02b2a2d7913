use Rattle.std.proofs.Common.{◌<◌, ℕ, get_or, map, option_copied}
use Rattle.sx_history.specs.Marks.{is_marked, view_at}
use Rattle.sx_history.specs.Schemas.{IsStillPage}
use Rattle.sx_history.proofs.still.all_still.Given as goal

-- the first so many listed pages are still
abbrev pub invariant-loop-rank : goal.invariant-loop-rank
invariant-loop-rank g l = (k : ℕ) → k < l.rank-index
    → (let rank = get_or l.changed k 0 in IsStillPage (view_at (map option_copied l.views) rank) (g.P.PageViews.view l.pages (get_or l.numbers rank 0)) (is_marked l.nodes rank) (is_marked l.chains rank))
