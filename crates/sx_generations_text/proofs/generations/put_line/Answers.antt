use Rattle.sx_generations_text.proofs.LineLemmas.{runs_first, next_same}
use Rattle.sx_generations_text.proofs.generations.put_line.Goals as goal

pub returns-in_ok-put_runs_line-in-Runs : goal.returns-in_ok-put_runs_line-in-Runs
returns-in_ok-put_runs_line-in-Runs c =
    next_same _ _ _ _ _ _ _ c.in-Runs.is (runs_first _ _ _ _ c.in_ok-put_runs_line-in-Runs.ensures)

pub returns-in_ok-put_run_or_groups-in-Run : goal.returns-in_ok-put_run_or_groups-in-Run
returns-in_ok-put_run_or_groups-in-Run c =
    next_same _ _ _ _ _ _ _ c.in-Run.is (c.in_ok-put_run_or_groups-in-Run.ensures c.args.wal.now.slots)
