use Rattle.std.proofs.Common.{◌≡◌, Some, IfSome, Option, subst, rules}
use Rattle.sx_moment.specs.Views.{image_at}
use Rattle.sx_moment.specs.Images.{Stands}
use Rattle.sx_moment.specs.declared.origin.Origin.{Origin}
use Rattle.sx_moment.proofs.Moments.{image_stands, limit_within}
use Rattle.sx_moment.proofs.snapshot.Snapshot.origin.Goals as goal

pub returns-in-Some-clause-stands : goal.returns-in-Some-clause-stands
returns-in-Some-clause-stands c =
    let case = c.args.self.now.case.now in
    let moment = c.args.self.now.moment in
    let found : image_at case moment c.args.no ≡ Some c.in-Some.origin = search rules in
    let P : Option Origin → Type 0 = λ o. IfSome o (Stands case c.args.no) in
    subst P found (image_stands case moment c.args.no (limit_within case moment c.sources-sources.ensures.gathered c.args.self.now.listed))
