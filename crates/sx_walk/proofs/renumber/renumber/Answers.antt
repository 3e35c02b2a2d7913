use Rattle.std.proofs.Common.{◌≡◌, ℕ, List, true, subst}
use Rattle.sx_walk.specs.Renumbering.{is_touched, HoldsAt}
use Rattle.sx_walk.proofs.RenumberLemmas.{renumbers_both}
use Rattle.sx_walk.proofs.renumber.renumber.Goals as goal

pub returns-clause-fit : goal.returns-clause-fit
returns-clause-fit g c = λ fit. record {
  renumbers =
      renumbers_both c.args.numbers.now c.number_listed.new.touched.items c.number_listed-2.new.touched.items c.args.table.now c.number_listed.new.table c.number_listed-2.new.table
      c.in_ok-number_listed-2.ensures.grows c.in_ok-number_listed.ensures.renumbers c.in_ok-number_listed-2.ensures.renumbers;
  holds =
      subst (λ (ranks : List ℕ). (page : ℕ) → is_touched c.args.numbers.now ranks page ≡ true → HoldsAt (g.P.PageViews.view c.args.pages.now) c.args.usable c.number_listed-2.new.table page) c.deref.ensures.value
      (c.all_hold.ensures fit);
}
