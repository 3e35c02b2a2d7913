use Rattle.std.proofs.Common.{ap, ◌∙◌}
use Rattle.sx_moment.specs.Gathered.{size_at}
use Rattle.sx_moment.specs.Views.{view_of}
use Rattle.sx_schema.specs.Entries.{schema_of, roots_of}
use Rattle.sx_sweep.proofs.AllLemmas.{moment_here, encoding_here, headed_all}
use Rattle.sx_sweep.proofs.ViewLemmas.{lies_here}
use Rattle.sx_sweep.proofs.WalkLemmas.{same_size}
use Rattle.sx_sweep.proofs.passing.walk_on.Goals as goal

pub returns-clause-headed : goal.returns-clause-headed
returns-clause-headed c =
    let sweep = c.args.sweep.now in
    let snapshot = c.snapshot-snapshot.result in
    let same_case = c.snapshot-snapshot.ensures.case in
    let same_moment = c.snapshot-snapshot.ensures.moment in
    let listed = moment_here sweep.case snapshot.case.now sweep.moment snapshot.moment same_case same_moment snapshot.listed in
    headed_all sweep.case sweep.moment sweep.numbers c.args.layout.now c.roots-roots.result.now c.args.images.now c.args.known.now.owned c.go_over.new.known.owned c.go_over.new.known.sums c.in_ok-walk.walk
    (λ page bytes held. c.size-size.ensures.whole page bytes held ∙ same_size sweep.case sweep.moment c.args.layout.now c.requires.layout)
    c.requires.layout
    (c.roots-roots.ensures
    ∙ ap roots_of
    (c.schema.ensures
    ∙ c.in_ok-here.ensures.tells.entries
    ∙ ap (schema_of (size_at sweep.case sweep.moment) (view_of sweep.case sweep.moment) c.args.layout.now.usable)
    (c.encoding.ensures ∙ encoding_here sweep.case snapshot.case.now sweep.moment snapshot.moment same_case same_moment)))
    (record {
      held = c.numbers-numbers.ensures.all sweep.moment listed;
      lie = lies_here sweep.case snapshot.case.now sweep.moment snapshot.moment same_case same_moment c.views_lie.ensures;
    })
    c.in_ok-walk.ensures
