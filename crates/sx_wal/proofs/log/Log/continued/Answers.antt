use Rattle.std.proofs.Common.{sym, ◌∙◌}
use Rattle.sx_wal.proofs.RunLemmas.{run_more}
use Rattle.sx_wal.proofs.log.Log.continued.Goals as goal

pub returns-then-agrees : goal.returns-then-agrees
returns-then-agrees c =
    sym (run_more _ _ _ _ c.args.i _ c.args.self.now.size c.args.self.now.header c.requires.within (sym c.requires.so_far ∙ c.in_ok-run.was) c.sums_over_frame-through.ensures c.if-agrees.ensures)

pub returns-else-agrees : goal.returns-else-agrees
returns-else-agrees c =
    sym (run_more _ _ _ _ c.args.i _ c.args.self.now.size c.args.self.now.header c.requires.within (sym c.requires.so_far ∙ c.in_ok-run.was) c.sums_over_frame-through.ensures c.if-agrees.ensures)
