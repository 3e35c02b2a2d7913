use Rattle.std.proofs.Common.{◌≡◌}
use Rattle.sx_moment.specs.Views.{bytes_of}
use Rattle.sx_moment.specs.declared.origin.Origin.TheVariants.{Slot, Record}
use Rattle.sx_moment.proofs.sources.Sources.bytes.Goals as goal

pub returns-in-Slot-clause-bytes : goal.returns-in-Slot-clause-bytes
returns-in-Slot-clause-bytes c =
    let same : c.slot_page.result.now ≡ bytes_of c.args.self.now c.args.no (Slot c.in-Slot.i) = c.slot_page.ensures.bytes c.args.no in
    rw c.in-Slot.is same

pub returns-in-Record-clause-bytes : goal.returns-in-Record-clause-bytes
returns-in-Record-clause-bytes c =
    let same : c.record_page.result.now ≡ bytes_of c.args.self.now c.args.no (Record c.in-Record.i) = c.record_page.ensures.bytes c.args.no in
    rw c.in-Record.is same
