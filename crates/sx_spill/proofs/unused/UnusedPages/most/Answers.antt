use Rattle.std.proofs.Common.{subst}
use Rattle.sx_owned.specs.Owned.{owned_at}
use Rattle.sx_spill.specs.Unused.{Given, unused_by}
use Rattle.sx_spill.proofs.ChainLemmas.{AreFew}
use Rattle.sx_spill.proofs.HeldNumbers.{unused_few}
use Rattle.sx_spill.proofs.unused.UnusedPages.most.Goals as goal

pub returns : goal.returns
returns c =
    let snapshot = c.self.inside.snapshot.now in
    subst (λ (given : Given). AreFew (unused_by given).view c.held.result) c.self.view_is
    (λ numbers apart seen.
    unused_few snapshot.case.now snapshot.moment c.self.inside.images.now (owned_at c.self.inside.owned.now) c.self.inside.usable c.size-size.result c.held.result numbers
    c.size-size.ensures.size c.size-size.ensures.within c.size-size.ensures.from_one c.held.ensures apart seen)
