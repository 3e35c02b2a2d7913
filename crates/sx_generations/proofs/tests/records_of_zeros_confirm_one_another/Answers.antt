use Rattle.std.proofs.Common.{◌∙◌, sym, arith, rules}
use Rattle.sx_generations.proofs.Records.{was_journal}
use Rattle.sx_generations.proofs.tests.records_of_zeros_confirm_one_another.Goals as goal

pub confirmed-requires : goal.confirmed-requires
confirmed-requires g c =
    was_journal 512 _ _ _ (record { power = search rules; least = omega arith; greatest = omega arith }) c.in_ok-index.ensures (c.deref-2.ensures.value ∙ sym c.deref.ensures.value)
