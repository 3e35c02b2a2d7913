use Rattle.std.proofs.Common.{is_some, ap, ◌∙◌}
use Rattle.std.specs.Ordering.{nat_cmp}
use Rattle.std.specs.BTreeMap.{get}
use Rattle.sx_moment.proofs.Noted.{marked_numbered}
use Rattle.sx_moment.proofs.gathering.same_pages.Goals as goal

pub returns : goal.returns
returns c = λ number.
    ap is_some (c.in_ok-images.ensures number)
    ∙ marked_numbered c.args.sources.now number (get nat_cmp c.in_ok-found.found number) (c.in_ok-found.ensures number)
