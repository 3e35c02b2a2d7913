use Rattle.sx_generations.proofs.Maximals.{are_maximal, firsts_rise}
use Rattle.sx_generations.proofs.laws.streaks_by_rules.Goals as goal

pub returns : goal.returns
returns c = record { are = are_maximal; order = firsts_rise }
