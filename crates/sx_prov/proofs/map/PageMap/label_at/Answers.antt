use Rattle.std.proofs.Common.{arith}
use Rattle.sx_prov.proofs.Searching.{near_start, near_found}
use Rattle.sx_prov.proofs.map.PageMap.label_at.Goals as goal

pub loop-high-init : goal.loop-high-init
loop-high-init c =
    near_start c.args.self.now c.self.inside.runs.items c.args.offset c.len-high.result c.self.view_is c.self.invariant.follow c.requires (omega (arith, c.len-high.ensures, c.self.inside.runs.ok))

pub returns : goal.returns
returns c =
    near_found c.args.self.now c.self.inside.runs.items c.args.offset c.loop-high.low c.loop-high.high c.index-2.result.now c.self.view_is c.self.invariant.follow c.requires
    c.loop-high.invariant (omega arith) c.index-2.ensures
