use Rattle.std.proofs.Common.{arith}
use Rattle.sx_generations_text.proofs.LineLemmas.{run_then, groups_then}
use Rattle.sx_generations_text.proofs.generations.put_run_or_groups.Goals as goal

pub returns-in_ok-put_run_line : goal.returns-in_ok-put_run_line
returns-in_ok-put_run_line c = run_then _ _ _ _ _ (omega arith) c.run.ensures.run c.in_ok-put_run_line.ensures

pub returns-in_ok-put_groups_line : goal.returns-in_ok-put_groups_line
returns-in_ok-put_groups_line c = groups_then _ _ _ _ (omega arith) c.in_ok-put_groups_line.ensures
