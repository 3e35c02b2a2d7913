use Rattle.std.proofs.Common.{rules, ◌≡◌, min, ◌-◌}
use Rattle.sx_prov.proofs.Filling.{body_labels}
use Rattle.sx_prov.proofs.keyed.put_body.Goals as goal

pub returns : goal.returns
returns c =
    let held : c.min.result ≡ min c.args.count (c.args.usable - 4) = search rules in
    body_labels c.args.map.now c.put.new.self c.put-2.new.self c.put-3.new.self c.args.count c.args.usable c.min.result held c.requires.none c.requires.least
    c.in_ok-put.ensures c.in_ok-put-2.ensures c.in_ok-put-3.ensures
