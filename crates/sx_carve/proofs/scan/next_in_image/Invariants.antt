use Rattle.std.proofs.Common.{◌≡◌, length}
use Rattle.sx_carve.specs.Scan.{image_rest, IsScan}
use Rattle.sx_carve.proofs.scan.next_in_image.Given as goal

abbrev pub invariant-loop-found : goal.invariant-loop-found
invariant-loop-found l = record {
  scan : IsScan l.owned l.image (length l.bytes) l.at l.end l.spans;
  same : image_rest l.ctx.usable l.ctx.shapes.now l.owned l.image l.bytes l.fn.at ≡ image_rest l.ctx.usable l.ctx.shapes.now l.owned l.image l.bytes l.at;
}

abbrev pub decreases-loop-found : goal.decreases-loop-found
decreases-loop-found l = length l.spans
