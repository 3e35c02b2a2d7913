use Rattle.std.proofs.Common.{ℕ, List, ◌∙◌, ap, take}
use Rattle.sx_generations.specs.Confirmed.{nonce_from}
use Rattle.sx_generations.proofs.Records.{made_next}
use Rattle.sx_generations.proofs.nonces.nonces_of.Goals as goal

pub loop-i-preserved : goal.loop-i-preserved
loop-i-preserved c =
    made_next _ _ _ _ _ _ _ c.loop-i.invariant c.entry-entry.ensures
    (c.nonce_from.ensures ∙ ap (λ (page : List ℕ). nonce_from c.entry-entry.result.sum page) (c.split_at-in-loop-i.ensures.front ∙ ap (λ (from : List ℕ). take c.args.page_size from) c.split_at.ensures.back))
    c.in_ok-push.ensures.items
