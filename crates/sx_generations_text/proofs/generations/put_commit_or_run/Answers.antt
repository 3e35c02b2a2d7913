use Rattle.std.proofs.Common.{arith}
use Rattle.sx_generations_text.proofs.LineLemmas.{commits_end}
use Rattle.sx_generations_text.proofs.generations.put_commit_or_run.Goals as goal

pub returns-in_ok-next : goal.returns-in_ok-next
returns-in_ok-next c = commits_end c.args.wal.now.slots c.args.older.now c.args.confirmed.now c.args.i c.args.k _ _ (omega (arith, c.run.ensures.commits)) (c.in_ok-next.ensures c.args.wal.now.slots)
