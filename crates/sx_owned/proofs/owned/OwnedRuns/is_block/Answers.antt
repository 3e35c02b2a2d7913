-- The set of the image is asked.
use Rattle.std.proofs.Common.{◌∙◌, sym, arith}
use Rattle.sx_owned.proofs.Tables.{block_is}
use Rattle.sx_owned.proofs.owned.OwnedRuns.is_block.Goals as goal

pub returns : goal.returns
returns c =
    rw (← c.self.view_is)
    (c.contains.ensures
    ∙ sym (block_is _ c.args.image c.args.at c.index-places.result.now
    (let here = (rw (← c.self.view_is) at c.requires) in let same = c.self.invariant.same in omega arith) c.index-places.ensures))
