use Rattle.std.proofs.Common.{ℕ, Vec, Global, ◌∙◌, sym, ap, arith}
use Rattle.sx_generations.proofs.Listings.{passed_more, passed_none, passed_all}
use Rattle.sx_generations.proofs.listing.list_commits.Goals as goal
use Rattle.sx_generations.proofs.listing.list_commits.Goals.{then-has_size+in_ok-push, else-has_size}

pub loop-i-preserved : goal.loop-i-preserved
loop-i-preserved c =
    elim c.if-has_size.branch [
      | then-has_size+in_ok-push w ↦
          passed_more _ _ c.loop-i.i _ _ _ (omega arith) c.loop-i.invariant (sym w.if-has_size.ensures)
          (ap (λ (v : Vec ℕ Global). v.items) w.commits-is ∙ w.in_ok-push.ensures.items)
      | else-has_size w ↦
          passed_none _ _ c.loop-i.i _ _ _ (omega arith) c.loop-i.invariant (sym w.if-has_size.ensures)
          (ap (λ (v : Vec ℕ Global). v.items) w.commits-is)
    ]

pub returns : goal.returns
returns c = passed_all _ _ c.args.streak c.loop-i.i _ _ (omega arith) c.loop-i.invariant
