use Rattle.std.proofs.Common.{sym, ◌∙◌, arith}
use Rattle.sx_ddl.proofs.ItemLemmas.{keys_next, keys_stop}
use Rattle.sx_ddl.proofs.item.put_keys.Goals as goal

pub loop-place-preserved : goal.loop-place-preserved
loop-place-preserved c =
    (omega arith, c.loop-place.invariant.1 ∙ keys_next c.args.tokens.now _ _ _ _ _ _ _ c.loop-place-test.true c.split_at.ensures.back c.in_ok-put_sole_key.ensures c.depth_behind-depth.ensures.behind)

pub returns : goal.returns
returns c = sym (c.loop-place.invariant.1 ∙ keys_stop c.args.tokens.now _ _ _ c.loop-place-test.false)
