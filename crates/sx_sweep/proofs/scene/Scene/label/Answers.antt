use Rattle.std.proofs.Common.{◌≤◌, length, arith}
use Rattle.sx_sweep.proofs.LabelLemmas.{totals_fit, passes_anew}
use Rattle.sx_sweep.proofs.ViewLemmas.{lies_here}
use Rattle.sx_sweep.proofs.scene.Scene.label.Goals as goal

pub show-requires-clause-page : goal.show-requires-clause-page
show-requires-clause-page c =
    let small : length c.in_ok-map.map ≤ 65536 = omega (arith, c.in_ok-map.ensures.len, c.in-Some.ensures.whole, c.args.self.now.pages, c.args.self.now.laid.size.greatest) in
    totals_fit c.in_ok-map.map c.totals-totals.result (record { owned = c.totals-totals.ensures.owned; slack = c.totals-totals.ensures.slack; fault = c.totals-totals.ensures.fault }) small

pub returns : goal.returns
returns c =
    let sweep = c.args.self.now.sweep.now in
    passes_anew sweep.case sweep.moment sweep.numbers c.args.self.now.table.now c.args.self.now.layout.now c.args.self.now.images.now c.args.known.now.owned c.add_view.new.owned c.args.known.now.sums c.show.new.self
    c.args.rank c.args.no c.args.place c.args.key c.totals-totals.result c.in-Some.view.now c.in_ok-map.map
    c.requires.rank c.args.self.now.pages c.requires.number c.requires.place c.requires.key
    (lies_here sweep.case c.snapshot-snapshot.result.case.now sweep.moment c.snapshot-snapshot.result.moment c.snapshot-snapshot.ensures.case c.snapshot-snapshot.ensures.moment c.views_lie.ensures c.args.no c.args.place c.requires.place)
    c.in-Some.ensures.view c.in_ok-map.ensures.exact c.requires.known
    c.in_ok-add_view.ensures (record { owned = c.totals-totals.ensures.owned; slack = c.totals-totals.ensures.slack; fault = c.totals-totals.ensures.fault }) c.show.ensures
