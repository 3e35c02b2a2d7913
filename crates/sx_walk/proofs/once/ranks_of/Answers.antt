use Rattle.std.proofs.Common.{◌++◌, ◌∷◌, [], ap, sym, ◌∙◌, refl, zero-add}
use Rattle.sx_base.proofs.Ranges.{range_append}
use Rattle.sx_walk.proofs.once.ranks_of.Goals as goal

pub loop-rank-preserved : goal.loop-rank-preserved
loop-rank-preserved c =
    c.in_ok-push.ensures.items ∙ ap (λ l. l ++ c.loop-rank.rank ∷ []) c.loop-rank.invariant ∙ sym (range_append 0 c.loop-rank.rank 1 ∙ rw zero-add refl)
