use Rattle.sx_follow.proofs.References.{are_references}
use Rattle.sx_follow.proofs.law.sums_are_references.Goals as goal

pub returns : goal.returns
returns c = are_references
