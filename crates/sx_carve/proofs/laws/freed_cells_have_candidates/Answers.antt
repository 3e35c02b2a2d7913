use Rattle.sx_carve.proofs.ChoiceLemmas.{freed_candidate}
use Rattle.sx_carve.proofs.laws.freed_cells_have_candidates.Goals as goal

pub returns : goal.returns
returns c = freed_candidate
