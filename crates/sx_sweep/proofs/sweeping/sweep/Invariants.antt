use Rattle.std.proofs.Common.{drop}
use Rattle.sx_images.specs.Images.{images_of}
use Rattle.sx_sweep.specs.Growth.{Growing}
use Rattle.sx_sweep.specs.Owning.{owned_under, block_under}
use Rattle.sx_sweep.proofs.sweeping.sweep.Given as goal

abbrev pub invariant-loop-moment : goal.invariant-loop-moment
invariant-loop-moment l =
    Growing l.initial.owned l.owned (owned_under l.case (images_of l.images) l.moments) (block_under l.case (images_of l.images) l.moments)
    (owned_under l.case (images_of l.images) (drop l.moment-index l.moments)) (block_under l.case (images_of l.images) (drop l.moment-index l.moments))
