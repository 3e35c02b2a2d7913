use Rattle.std.proofs.Common.{◌∙◌, ◌++◌, [], ◌∷◌, ap, sym}
use Rattle.sx_images.specs.Images.{stretch_of}
use Rattle.sx_images.proofs.Lists.{front_more}
use Rattle.sx_images.proofs.read.segment_stretches.Goals as goal

pub loop-i-preserved : goal.loop-i-preserved
loop-i-preserved c =
    c.in_ok-push.ensures.items ∙ ap (λ front. front ++ stretch_of c.segment-segment.result ∷ []) c.loop-i.invariant
    ∙ sym (front_more stretch_of c.args.journal.now.segments c.loop-i.i c.segment-segment.result c.segment-segment.ensures)
