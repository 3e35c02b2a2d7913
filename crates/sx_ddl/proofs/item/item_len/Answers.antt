use Rattle.std.proofs.Common.{◌≡◌, length, sym, ◌∙◌, arith}
use Rattle.sx_ddl.proofs.ItemLemmas.{len_here, len_next, len_stop}
use Rattle.sx_ddl.proofs.item.item_len.Goals as goal

pub returns-then-ends_item-clause-len : goal.returns-then-ends_item-clause-len
returns-then-ends_item-clause-len c =
    sym (c.loop-place.invariant.1 ∙ len_here c.args.tokens.now _ _ _ c.loop-place-test.true (sym c.if-ends_item.ensures))

pub loop-place-preserved : goal.loop-place-preserved
loop-place-preserved c =
    (omega arith, c.loop-place.invariant.1 ∙ len_next c.args.tokens.now _ _ _ _ c.loop-place-test.true (sym c.if-ends_item.ensures) c.depth_behind-depth.ensures.behind)

pub returns-clause-len : goal.returns-clause-len
returns-clause-len c =
    let end : length c.args.tokens.now ≡ c.loop-place.place = omega arith in
    end ∙ sym (c.loop-place.invariant.1 ∙ len_stop c.args.tokens.now _ _ c.loop-place-test.false)
