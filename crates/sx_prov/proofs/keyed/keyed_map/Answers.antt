use Rattle.std.proofs.Common.{◌≡◌, length, refl}
use Rattle.sx_prov.specs.Keys.{keyed_labels}
use Rattle.sx_prov.proofs.KeyLabels.{keyed_whole, keyed_long}
use Rattle.sx_prov.proofs.keyed.keyed_map.Goals as goal

made_is : (c : goal.In_ok-put) → c.put.new.self ≡ keyed_labels c.args.key c.args.view.now
made_is c =
    keyed_whole c.args.key c.args.view.now c.put_standing.new.map c.put.new.self (length c.args.view.now) c.in_ok-put_standing.ensures c.in_ok-put.ensures refl c.requires.within

pub returns-clause-exact : goal.returns-clause-exact
returns-clause-exact c = made_is c

pub returns-clause-len : goal.returns-clause-len
returns-clause-len c = keyed_long c.args.key c.args.view.now c.put.new.self (made_is c)
