use Rattle.std.proofs.Common.{◌≡◌, map, take}
use Rattle.sx_images.specs.Images.{stretch_of}
use Rattle.sx_images.proofs.read.segment_stretches.Given as goal

abbrev pub invariant-loop-i : goal.invariant-loop-i
invariant-loop-i l = l.stretches.items ≡ map stretch_of (take l.i l.journal.segments)
