use Rattle.std.proofs.Common.{◌∙◌, sym, arith, rules}
use Rattle.sx_generations.proofs.Logs.{was_log}
use Rattle.sx_generations.proofs.tests.a_run_is_listed_with_its_commits.Goals as goal

pub older-requires : goal.older-requires
older-requires g c =
    was_log 512 _ _ _ (record { power = search rules; least = omega arith; greatest = omega arith }) c.in_ok-wal.ensures (c.deref-2.ensures.value ∙ sym c.deref.ensures.value)
