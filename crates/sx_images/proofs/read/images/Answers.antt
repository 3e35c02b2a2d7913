use Rattle.std.proofs.Common.{ap, arith, length}
use Rattle.sx_images.specs.Images.{table_of}
use Rattle.sx_images.proofs.Made.{table_laid}
use Rattle.sx_images.proofs.read.images.Goals as goal

pub invariant_of-result : goal.invariant_of-result
unfolding table_of
invariant_of-result c =
    let laid = table_laid c.args.page_size c.args.lengths c.args.wal.now c.args.journal.now c.requires.size c.requires.small c.requires.log c.requires.journal
    (omega (arith, c.sector.ensures, c.sector.type_inv)) (omega (arith, ap length c.in_ok-stretches.ensures.runs, c.in_ok-stretches.ensures.few)) in
    rw (c.slots.ensures, c.head_len.ensures, c.sector.ensures, c.in_ok-stored.ensures, c.in_ok-stretches.ensures.runs) laid
