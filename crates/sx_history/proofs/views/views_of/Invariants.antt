use Rattle.std.proofs.Common.{◌≡◌, map, take, option_copied}
use Rattle.sx_history.proofs.views.views_of.Given as goal

abbrev pub invariant-loop-number : goal.invariant-loop-number
invariant-loop-number g l = map option_copied l.views.items ≡ map (g.P.PageViews.view l.pages) (take l.number-index l.numbers)
