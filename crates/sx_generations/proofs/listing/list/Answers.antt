use Rattle.std.proofs.Common.{ℕ, refl, ◌∙◌, sym, ap, List, ◌++◌}
use Rattle.sx_generations.proofs.Streaks.{within_get}
use Rattle.sx_generations.proofs.Listings.{listing_more, listing_held, run_counts, run_commits}
use Rattle.sx_generations.proofs.listing.list.Goals as goal

pub list_run-requires-clause-two : goal.list_run-requires-clause-two
list_run-requires-clause-two c =
    (within_get _ _ _ _ _ (c.deref-streak-items.ensures.value ∙ c.in_ok-streaks.ensures) c.loop-streak-test.true).two

pub list_run-requires-clause-within : goal.list_run-requires-clause-within
list_run-requires-clause-within c =
    (within_get _ _ _ _ _ (c.deref-streak-items.ensures.value ∙ c.in_ok-streaks.ensures) c.loop-streak-test.true).within

pub loop-streak-preserved : goal.loop-streak-preserved
loop-streak-preserved c =
    listing_more _ _ _ _ _ _ _ _ _ _ c.loop-streak.invariant c.loop-streak-test.true refl (run_counts _ _ _) c.in_ok-list_run.ensures.run c.in_ok-list_run.ensures.before
    (c.in_ok-list_run.ensures.commits ∙ ap (λ (xs : List ℕ). c.loop-streak.commits.items ++ xs) (sym (run_commits _ _ _))) c.in_ok-push.ensures.items

pub invariant_of-result : goal.invariant_of-result
invariant_of-result c =
    listing_held _ _ _ _ _ _ _ c.loop-streak.invariant (c.deref-streak-items.ensures.value ∙ c.in_ok-streaks.ensures) c.loop-streak.auto.streak-index-end c.args.frames.now.few
