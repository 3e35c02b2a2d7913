use Rattle.std.proofs.Common.{◌-◌, arith}
use Rattle.sx_images.proofs.Files.{in_head, in_page}
use Rattle.sx_images.proofs.places.in_frame.Goals as goal

pub returns-then-at-lt-FRAME_HEADER : goal.returns-then-at-lt-FRAME_HEADER
returns-then-at-lt-FRAME_HEADER c = λ place is. in_head c.args.page_size c.args.pages c.args.frame c.args.at place is c.if-at-lt-FRAME_HEADER.true

pub returns-else-at-lt-FRAME_HEADER : goal.returns-else-at-lt-FRAME_HEADER
returns-else-at-lt-FRAME_HEADER c = λ place is.
    in_page c.args.page_size c.args.pages c.args.frame (c.args.at - 24) place
    (omega (arith, is, c.if-at-lt-FRAME_HEADER.false)) (omega (arith, c.requires.within, c.if-at-lt-FRAME_HEADER.false))
