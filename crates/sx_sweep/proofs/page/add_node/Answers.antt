use Rattle.std.proofs.Common.{subst}
use Rattle.std.specs.Prelude.{OnOk}
use Rattle.sx_sweep.specs.Growth.{nowhere, Grows}
use Rattle.sx_sweep.specs.Owning.{block_begins}
use Rattle.sx_sweep.specs.Told.{only_in}
use Rattle.sx_sweep.proofs.page.add_node.Goals as goal

pub returns-in-Ok : goal.returns-in-Ok
returns-in-Ok c =
    subst (λ read. OnOk c.add_chain.result (Grows c.args.owned.now c.add_chain.new.owned nowhere (only_in c.args.image (block_begins read)))) c.in-Ok.ensures.exact c.add_chain.ensures
