use Rattle.std.proofs.Common.{◌≡◌, ℕ, map, fold, take, length, get_or, option_copied, None}
use Rattle.sx_walk.specs.Walks.{looked}
use Rattle.sx_walk.specs.Turning.{HasUsable}
use Rattle.sx_walk.specs.Turning.{HasTurned}
use Rattle.sx_walk.proofs.gather.gather.Given as goal

abbrev pub invariant-loop-rank : goal.invariant-loop-rank
invariant-loop-rank g l = record {
  looked : map option_copied l.views.items ≡ fold (looked (g.P.PageViews.view l.pages) l.numbers) (map option_copied l.initial.views.items) (take l.rank-index l.changed);
  long : length l.views.items ≡ length l.numbers;
  usable : (rank : ℕ) → HasUsable l.usable (get_or (map option_copied l.views.items) rank None);
  turned : HasTurned (g.P.PageViews.view l.pages) l.sums l.usable l.numbers (map option_copied l.initial.views.items) (map option_copied l.views.items)
      l.initial.come l.come l.initial.gone l.gone;
}
