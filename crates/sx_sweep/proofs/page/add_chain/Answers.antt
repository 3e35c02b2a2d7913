use Rattle.sx_node.specs.Freeblocks.{freeblocks_of}
use Rattle.sx_sweep.proofs.RunLemmas.{chain_start, chain_step, chain_end, chain_within, chain_rest}
use Rattle.sx_sweep.proofs.page.add_chain.Goals as goal

pub loop-block-init : goal.loop-block-init
loop-block-init c = record {
  growing = chain_start c.args.owned.now c.args.image (freeblocks_of c.args.node.now) c.freeblocks-blocks.result c.freeblocks-blocks.ensures.value;
  within = chain_within c.args.node.now c.freeblocks-blocks.result c.freeblocks-blocks.ensures.value;
}

pub loop-block-preserved : goal.loop-block-preserved
loop-block-preserved c = record {
  growing =
      chain_step c.args.owned.now c.loop-block.owned c.block.new.self c.args.image (freeblocks_of c.args.node.now) c.in-Some.block c.loop-block.blocks c.next.new.self
      c.in-Some.ensures.steps c.loop-block.invariant.growing c.in_ok-block.ensures.ok;
  within = (chain_rest c.args.node.now.usable c.in-Some.block c.loop-block.blocks c.next.new.self c.in-Some.ensures.steps c.loop-block.invariant.within).1;
}

pub returns : goal.returns
returns c =
    chain_end c.args.owned.now c.loop-block.owned c.args.image (freeblocks_of c.args.node.now) c.loop-block.blocks c.in_default.ensures.steps.0 c.loop-block.invariant.growing
