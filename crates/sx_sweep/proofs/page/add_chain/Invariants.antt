use Rattle.std.proofs.Common.{length}
use Rattle.std.specs.List.{AllByRecursion}
use Rattle.sx_node.specs.Freeblocks.{freeblocks_of}
use Rattle.sx_node.proofs.Walks.{IsBlock}
use Rattle.sx_sweep.specs.Growth.{nowhere, Growing}
use Rattle.sx_sweep.specs.Owning.{blocks_begin}
use Rattle.sx_sweep.specs.Told.{only_in}
use Rattle.sx_sweep.proofs.page.add_chain.Given as goal

abbrev pub invariant-loop-block : goal.invariant-loop-block
invariant-loop-block l = record {
  growing : Growing l.fn.owned l.owned nowhere (only_in l.image (blocks_begin (freeblocks_of l.node))) nowhere (only_in l.image (blocks_begin l.blocks));
  within : AllByRecursion (IsBlock l.node.usable) l.blocks;
}

abbrev pub decreases-loop-block : goal.decreases-loop-block
decreases-loop-block l = length l.blocks
