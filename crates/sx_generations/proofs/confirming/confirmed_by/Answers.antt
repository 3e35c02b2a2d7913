use Rattle.sx_generations.proofs.Records.{pages_within}
use Rattle.sx_generations.proofs.confirming.confirmed_by.Goals as goal

pub nonces_of-requires-clause-within : goal.nonces_of-requires-clause-within
nonces_of-requires-clause-within c = pages_within _ _ _ c.requires
