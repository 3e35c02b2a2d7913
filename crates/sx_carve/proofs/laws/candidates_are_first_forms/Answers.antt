use Rattle.sx_carve.proofs.ChoiceLemmas.{no_candidate, one_candidate}
use Rattle.sx_carve.proofs.laws.candidates_are_first_forms.Goals as goal

pub returns-clause-none : goal.returns-clause-none
returns-clause-none c = no_candidate

pub returns-clause-some : goal.returns-clause-some
returns-clause-some c = one_candidate
