use Rattle.std.proofs.Common.{◌∙◌, ◌++◌, [], ◌∷◌, ap, sym}
use Rattle.sx_images.specs.Images.{frame_image}
use Rattle.sx_images.proofs.Lists.{front_more}
use Rattle.sx_images.proofs.read.frame_images.Goals as goal

pub loop-i-preserved : goal.loop-i-preserved
loop-i-preserved c =
    c.in_ok-push.ensures.items ∙ ap (λ front. front ++ frame_image c.slot-slot.result ∷ []) c.loop-i.invariant
    ∙ sym (front_more frame_image c.args.wal.now.slots c.loop-i.i c.slot-slot.result c.slot-slot.ensures)
