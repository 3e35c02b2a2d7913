use Rattle.std.proofs.Common.{arith}
use Rattle.sx_moment.proofs.Numbered.{ranks_few}
use Rattle.sx_moment.proofs.ranks.are_few.Goals as goal

pub returns : goal.returns
returns c = ranks_few c.args.numbers.now c.requires.rising c.requires.none (λ k below. let small = (c.type_inv.numbers k).fits in omega (arith, small))
