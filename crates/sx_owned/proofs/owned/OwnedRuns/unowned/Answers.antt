-- What is between the runs of the image.
use Rattle.std.proofs.Common.{not, ap}
use Rattle.sx_owned.specs.Owned.{owned_at}
use Rattle.sx_owned.proofs.Gaps.{gaps_maximal}
use Rattle.sx_owned.proofs.Tables.{table_of, owned_within, owned_is}
use Rattle.sx_owned.proofs.owned.OwnedRuns.unowned.Goals as goal

pub returns : goal.returns
returns c =
    let within = rw (← c.self.view_is) at c.requires in
    let table = table_of c.self.inside.page_size c.self.inside.owned.items c.self.inside.blocks.items in
    rw (← c.self.view_is, c.gaps.ensures.gaps)
    (gaps_maximal c.index-places.result.now c.self.inside.page_size (λ at. not (owned_at table c.args.image at)) c.gaps.ensures.apart
    (owned_within c.self.inside.page_size c.self.inside.owned.items c.self.inside.blocks.items c.args.image c.index-places.result.now within c.index-places.ensures c.self.invariant)
    (λ at. ap not (owned_is table c.args.image at c.index-places.result.now within c.index-places.ensures)))
