use Rattle.std.proofs.Common.{sym, ◌∙◌, arith}
use Rattle.sx_ddl.proofs.ItemLemmas.{outside_next, outside_stop}
use Rattle.sx_ddl.proofs.item.put_outside.Goals as goal

pub loop-place-preserved : goal.loop-place-preserved
loop-place-preserved c =
    (omega arith, c.loop-place.invariant.1 ∙ outside_next c.args.tokens.now _ _ _ _ _ _ c.loop-place-test.true c.in_ok-put_outer.ensures c.depth_behind-depth.ensures.behind)

pub returns : goal.returns
returns c = sym (c.loop-place.invariant.1 ∙ outside_stop c.args.tokens.now _ _ _ c.loop-place-test.false)
