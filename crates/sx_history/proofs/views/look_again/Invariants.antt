use Rattle.std.proofs.Common.{◌≡◌, map, fold, take, length, option_copied}
use Rattle.sx_history.proofs.Looking.{looked}
use Rattle.sx_history.proofs.views.look_again.Given as goal

abbrev pub invariant-loop-rank : goal.invariant-loop-rank
invariant-loop-rank g l = record {
  looked : map option_copied l.views.items ≡ fold (looked (g.P.PageViews.view l.pages) l.numbers) (map option_copied l.initial.views.items) (take l.rank-index l.changed);
  views : length l.views.items ≡ length l.numbers;
}
