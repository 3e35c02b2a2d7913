use Rattle.std.proofs.Common.{◌≡◌, ℕ, sym, subst}
use Rattle.sx_moment.specs.Gathered.{page_count}
use Rattle.sx_moment.specs.Views.{lock_in}
use Rattle.sx_moment.specs.Images.{is_in_file}
use Rattle.sx_moment.specs.Ranks.{AreRanked}
use Rattle.sx_moment.specs.Turns.{is_among}
use Rattle.sx_moment.proofs.Numbered.{all_ranked, ranked_is, ranks_start}
use Rattle.sx_moment.proofs.ranked.ranked.Goals as goal

are_ranked : (c : goal.After-dedup) → AreRanked c.args.case.now c.dedup.new.self.items
are_ranked c =
    let case = c.args.case.now in
    let files : (number : ℕ) → is_among c.in_ok-numbers.numbers.items number ≡ is_in_file (lock_in case) (page_count case) number = rw (← c.sources.ensures.same) c.in_ok-numbers.ensures in
    let are = all_ranked case c.in_ok-numbers.numbers.items c.push_pages.new.numbers.items c.push_pages-2.new.numbers.items c.past.result.now c.past-2.result.now
    files c.in_ok-push_pages.ensures c.in_ok-push_pages-2.ensures c.past.ensures.are c.past-2.ensures.are in
    ranked_is case c.push_pages-2.new.numbers.items c.sort_unstable.new.self.items c.dedup.new.self.items are c.sort_unstable.ensures.permutation c.sort_unstable.ensures.sorted c.dedup.ensures.filtered

pub new-requires : goal.new-requires
new-requires c = ranks_start c.args.case.now c.dedup.new.self.items (are_ranked c)

pub returns : goal.returns
returns c = subst (AreRanked c.args.case.now) (sym c.new.ensures) (are_ranked c.before)
