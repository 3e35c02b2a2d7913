use Rattle.sx_prov.proofs.Filling.{one_fills}
use Rattle.sx_prov.proofs.keyed.put_one.Goals as goal

pub returns : goal.returns
returns c = one_fills c.args.map.now c.put.new.self c.args.end c.args.label c.requires.behind c.in_ok-put.ensures
