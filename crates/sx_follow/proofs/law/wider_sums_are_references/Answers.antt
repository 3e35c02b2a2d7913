use Rattle.sx_follow.proofs.Widening.{are_references_of}
use Rattle.sx_follow.proofs.law.wider_sums_are_references.Goals as goal

pub returns : goal.returns
returns c = are_references_of
