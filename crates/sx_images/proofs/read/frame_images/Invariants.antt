use Rattle.std.proofs.Common.{◌≡◌, map, take}
use Rattle.sx_images.specs.Images.{frame_image}
use Rattle.sx_images.proofs.read.frame_images.Given as goal

abbrev pub invariant-loop-i : goal.invariant-loop-i
invariant-loop-i l = l.stored.items ≡ map frame_image (take l.i l.wal.slots)
