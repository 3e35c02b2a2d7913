use Rattle.sx_prov.proofs.Filling.{two_labels}
use Rattle.sx_prov.proofs.keyed.put_two.Goals as goal

pub returns : goal.returns
returns c =
    two_labels c.args.map.now c.put.new.self c.put-2.new.self c.args.middle c.args.usable c.args.front c.args.back c.requires.none c.requires.middle
    c.in_ok-put.ensures c.in_ok-put-2.ensures
