use Rattle.std.proofs.Common.{◌∙◌, sym, arith, rules}
use Rattle.sx_generations.proofs.Logs.{was_log}
use Rattle.sx_generations.proofs.Records.{was_journal}
use Rattle.sx_generations_text.proofs.tests.a_run_and_a_group_are_five_lines.Goals as goal

pub older-requires : goal.older-requires
older-requires g c =
    was_log 512 _ _ _ (record { power = search rules; least = omega arith; greatest = omega arith }) c.in_ok-wal.ensures (c.deref-2.ensures.value ∙ sym c.deref.ensures.value)

pub confirmed-requires : goal.confirmed-requires
confirmed-requires g c =
    was_journal 512 _ _ _ (record { power = search rules; least = omega arith; greatest = omega arith }) c.in_ok-index.ensures (c.deref-4.ensures.value ∙ sym c.deref-3.ensures.value)
