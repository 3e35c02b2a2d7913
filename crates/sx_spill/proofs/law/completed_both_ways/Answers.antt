use Rattle.sx_spill.proofs.LawLemmas.{completed_is, completed_again}
use Rattle.sx_spill.proofs.law.completed_both_ways.Goals as goal

pub returns : goal.returns
returns c = λ pages sighting payload. (completed_is pages sighting payload, completed_again pages sighting payload)
