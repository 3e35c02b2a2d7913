use Rattle.std.proofs.Common.{◌∙◌, sym}
use Rattle.sx_generations.proofs.Walks.{links_are}
use Rattle.sx_generations.proofs.neighbours.links_from.Goals as goal

pub returns-clause-links : goal.returns-clause-links
returns-clause-links g c =
    links_are _ _ _ _ c.loop-at.invariant.from c.loop-at.invariant.below c.loop-at.invariant.each (sym c.is_followed.ensures.value ∙ c.loop-at-test.false)
