use Rattle.sx_walk.proofs.RenumberLemmas.{say_put}
use Rattle.sx_walk.proofs.renumber.number.Goals as goal

pub returns : goal.returns
returns c = say_put c.args.no c.ruled-left.result c.args.table.now c.put_left.new.self c.put_left.ensures.value
