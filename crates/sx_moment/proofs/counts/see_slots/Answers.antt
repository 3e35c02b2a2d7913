use Rattle.std.proofs.Common.{ap}
use Rattle.sx_wal.specs.declared.slot.Slot.{Slot}
use Rattle.sx_moment.proofs.Seen.{only_slot}
use Rattle.sx_moment.proofs.counts.see_slots.Goals as goal

pub see_slot-requires-clause-only : goal.see_slot-requires-clause-only
see_slot-requires-clause-only c =
    only_slot c.args.sources.now c.args.images.now c.loop-i.i c.slot-page.result.page c.requires.first (ap (λ (s : Slot). s.page) c.slot-page.ensures)
