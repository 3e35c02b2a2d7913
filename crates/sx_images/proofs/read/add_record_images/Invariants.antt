use Rattle.std.proofs.Common.{◌≡◌, ◌++◌, map, take}
use Rattle.sx_images.specs.Images.{record_image}
use Rattle.sx_images.proofs.read.add_record_images.Given as goal

abbrev pub invariant-loop-i : goal.invariant-loop-i
invariant-loop-i l = l.stored.items ≡ l.initial.stored.items ++ map record_image (take l.i l.journal.entries)
