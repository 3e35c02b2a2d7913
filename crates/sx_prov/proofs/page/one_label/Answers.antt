use Rattle.sx_prov.proofs.Filling.{one_map, one_long}
use Rattle.sx_prov.proofs.page.one_label.Goals as goal

pub returns-clause-exact : goal.returns-clause-exact
returns-clause-exact c = one_map c.new-made.result c.put.new.self c.args.len c.args.label c.new-made.ensures c.in_ok-put.ensures

pub returns-clause-len : goal.returns-clause-len
returns-clause-len c = one_long c.new-made.result c.put.new.self c.args.len c.args.label c.new-made.ensures c.in_ok-put.ensures
