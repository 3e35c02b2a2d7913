use Rattle.std.proofs.Common.{◌≡◌, ◌+◌, ◌-◌, ◌/◌, ◌%◌, ◌∙◌, sym, arith}
use Rattle.std.proofs.Math.Nat.{mod-lt}
use Rattle.std.proofs.lemmas.Nat.{div-add-mod'}
use Rattle.sx_wal.specs.Frames.{frame_at}
use Rattle.sx_images.proofs.Files.{log_short, log_header, log_past, log_here}
use Rattle.sx_images.proofs.places.in_log.Goals as goal

pub returns-then-len-from : goal.returns-then-len-from
returns-then-len-from c =
    sym (log_short c.args.page_size c.args.len c.args.pages c.args.frames c.args.offset (omega (arith, c.if-len-from.true, c.from.ensures)) c.requires.within)

pub returns-then-offset-lt-LOG_HEADER : goal.returns-then-offset-lt-LOG_HEADER
returns-then-offset-lt-LOG_HEADER c =
    sym (log_header c.args.page_size c.args.len c.args.pages c.args.frames c.args.offset (omega (arith, c.if-len-from.false, c.from.ensures)) c.if-offset-lt-LOG_HEADER.true)

pub returns-then-frame-frames : goal.returns-then-frame-frames
returns-then-frame-frames c =
    let size = 24 + c.args.page_size in
    let whole = div-add-mod' (c.args.offset - 32) size in
    sym (log_past c.args.page_size c.args.len c.args.pages c.args.frames ((c.args.offset - 32) / size) ((c.args.offset - 32) % size) c.args.offset
    (omega (arith, c.if-len-from.false, c.from.ensures)) (omega (arith, whole, c.if-offset-lt-LOG_HEADER.false)) c.if-frame-frames.true)

pub returns : goal.returns
returns c =
    let size = 24 + c.args.page_size in
    let whole = div-add-mod' (c.args.offset - 32) size in
    let is : c.args.offset ≡ frame_at c.args.page_size ((c.args.offset - 32) / size) + (c.args.offset - 32) % size = omega (arith, whole, c.if-offset-lt-LOG_HEADER.false) in
    c.in_frame.ensures c.args.offset is
    ∙ log_here c.args.page_size c.args.len c.args.pages c.args.frames ((c.args.offset - 32) / size) ((c.args.offset - 32) % size) c.args.offset
    (omega (arith, c.if-len-from.false, c.from.ensures)) is (mod-lt (c.args.offset - 32) (omega arith)) c.if-frame-frames.false
