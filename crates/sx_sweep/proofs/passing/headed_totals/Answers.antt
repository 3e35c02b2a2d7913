use Rattle.std.proofs.Common.{ap, ◌∙◌}
use Rattle.sx_sweep.proofs.AllLemmas.{moment_here, all_shown, totals_here}
use Rattle.sx_sweep.proofs.ViewLemmas.{lies_here}
use Rattle.sx_sweep.proofs.WalkLemmas.{same_size}
use Rattle.sx_sweep.proofs.passing.headed_totals.Goals as goal

pub returns : goal.returns
returns c head =
    let sweep = c.args.sweep.now in
    let snapshot = c.snapshot-snapshot.result in
    let same_case = c.snapshot-snapshot.ensures.case in
    let same_moment = c.snapshot-snapshot.ensures.moment in
    let listed = moment_here sweep.case snapshot.case.now sweep.moment snapshot.moment same_case same_moment snapshot.listed in
    totals_here sweep.case sweep.moment sweep.numbers c.args.layout.now c.size.result c.held.result c.dead.result c.args.walk.now.table c.args.known.now.sums c.moment_totals-here.result head
    c.requires.layout c.size.ensures.size c.held.ensures (c.dead.ensures ∙ ap (λ t. t.dead) c.table.ensures) c.moment_totals-here.ensures
    (all_shown sweep.case sweep.moment sweep.numbers c.args.walk.now.table c.args.layout.now c.args.images.now c.args.known.now.owned c.args.known.now.sums
    (λ page bytes held. c.size.ensures.whole page bytes held ∙ same_size sweep.case sweep.moment c.args.layout.now c.requires.layout)
    c.requires.layout
    (record {
      held = c.numbers-numbers.ensures.all sweep.moment listed;
      lie = lies_here sweep.case snapshot.case.now sweep.moment snapshot.moment same_case same_moment c.views_lie.ensures;
    })
    c.numbers-numbers.ensures.ranked.rising
    c.requires.known c.requires.reached.matched c.requires.table)
    c.requires.table
