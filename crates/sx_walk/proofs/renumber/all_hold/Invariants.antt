use Rattle.std.proofs.Common.{◌≡◌, ℕ, true, take}
use Rattle.sx_walk.specs.Renumbering.{is_touched, HoldsAt}
use Rattle.sx_walk.proofs.renumber.all_hold.Given as goal

abbrev pub invariant-loop-rank : goal.invariant-loop-rank
invariant-loop-rank g l = (page : ℕ) → is_touched l.numbers (take l.rank-index l.touched) page ≡ true → HoldsAt (g.P.PageViews.view l.pages) l.usable l.table page
