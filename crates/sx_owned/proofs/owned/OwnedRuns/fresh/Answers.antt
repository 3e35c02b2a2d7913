-- No set has a place.
use Rattle.sx_owned.proofs.Tables.{fresh_is}
use Rattle.sx_owned.proofs.owned.OwnedRuns.fresh.Goals as goal

pub returns : goal.returns
returns c =
    fresh_is c.args.page_size c.args.images c.in_ok-owned.owned.items c.in_ok-blocks.blocks.items c.in_ok-owned.ensures.count c.in_ok-owned.ensures.none c.in_ok-blocks.ensures.none
