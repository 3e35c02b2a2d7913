use Rattle.std.proofs.Common.{rules, ◌≡◌, min}
use Rattle.sx_prov.proofs.Filling.{gap_labels}
use Rattle.sx_prov.proofs.keyed.put_unclaimed.Goals as goal

pub returns : goal.returns
returns c =
    let least : c.min.result ≡ min c.args.end c.args.content = search rules in
    gap_labels c.args.map.now c.put.new.self c.put-2.new.self c.args.end c.args.content c.min.result least c.requires.behind c.in_ok-put.ensures c.in_ok-put-2.ensures
