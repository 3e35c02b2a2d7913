use Rattle.std.proofs.Common.{sym}
use Rattle.sx_ddl.proofs.OptionLemmas.{option_fits, option_refused}
use Rattle.sx_ddl.proofs.options.read_options.Goals as goal

pub loop-place-preserved : goal.loop-place-preserved
loop-place-preserved c =
    option_fits c.args.end _ _ _ _ c.args.tokens.now _ _ _ c.loop-place.invariant c.loop-place-test.true (sym c.in-Some.ensures) c.keeps_rowid-rowid.ensures

pub returns-in-None : goal.returns-in-None
returns-in-None c =
    option_refused c.args.end _ _ c.args.tokens.now _ _ _ c.loop-place.invariant c.loop-place-test.true (sym c.in-None.ensures)
