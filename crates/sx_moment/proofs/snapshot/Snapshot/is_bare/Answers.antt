use Rattle.std.proofs.Common.{◌≡◌}
use Rattle.sx_moment.specs.Gathered.{limit_at}
use Rattle.sx_moment.proofs.Moments.{limit_within}
use Rattle.sx_moment.proofs.Uncertain.{bare_other}
use Rattle.sx_moment.proofs.snapshot.Snapshot.is_bare.Goals as goal

pub returns-in_default : goal.returns-in_default
returns-in_default c =
    let case = c.args.self.now.case.now in
    let moment = c.args.self.now.moment in
    let limit : c.limit.result ≡ limit_at case moment = rw (← c.sources-sources.ensures.same) c.limit.ensures.value in
    let within = limit_within case moment c.sources-sources.ensures.gathered c.args.self.now.listed in
    bare_other case moment c.args.mark.page c.args.mark.first c.limit.result c.in_default.not-Journal within limit c.requires
