-- What the walk over the frames of a log has in hand. No clause of a public call names it.
use Rattle.std.specs.Prelude.{ℕ, List, Option, Some, None, if◌then◌else◌}
use Rattle.sx_base.specs.declared.moment.Class.TheVariants.{Committed}
use Rattle.sx_wal.specs.Checksum.{Sums}
use Rattle.sx_wal.specs.Frames.{first_fit, running_sums}
use Rattle.sx_wal.specs.Wal.{class_past, slot_with}
use Rattle.sx_wal.specs.declared.slot.Slot.{Slot}

-- the sums that a walk over the frames carries: those of the first n, while each of these fits
unfoldable pub run_of : ℕ → List ℕ → ℕ → Option Sums
run_of page_size bytes n = if first_fit page_size bytes n then Some (running_sums page_size bytes n) else None

-- slot i while no commit at it or past it is known
unfoldable pub slot_past : ℕ → List ℕ → ℕ → Slot
slot_past page_size bytes i = slot_with page_size bytes i (class_past page_size bytes i)

-- a slot that turned out to be at or below a commit
abbrev pub as_committed : Slot → Slot
as_committed slot = record slot { class = Committed }
