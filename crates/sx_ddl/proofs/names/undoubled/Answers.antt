use Rattle.std.proofs.Common.{sym, ◌∙◌}
use Rattle.sx_ddl.proofs.NameLemmas.{undoubled_next, undoubled_end}
use Rattle.sx_ddl.proofs.names.undoubled.Goals as goal

pub loop-place-preserved : goal.loop-place-preserved
loop-place-preserved c =
    c.loop-place.invariant ∙ undoubled_next c.args.mark c.args.bytes.now _ _ _ _ _ _ c.loop-place-test.true c.is_second-second.ensures c.in_ok-put_unless.ensures c.is_first-marked.ensures

pub returns : goal.returns
returns c = sym (c.loop-place.invariant ∙ undoubled_end c.args.mark c.args.bytes.now _ _ _ c.loop-place-test.false)
