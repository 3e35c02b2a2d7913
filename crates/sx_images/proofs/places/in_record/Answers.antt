use Rattle.std.proofs.Common.{◌-◌, arith}
use Rattle.sx_images.proofs.Files.{in_number, in_image, in_sum}
use Rattle.sx_images.proofs.places.in_record.Goals as goal

pub returns-then-at-lt-RECORD_WORD : goal.returns-then-at-lt-RECORD_WORD
returns-then-at-lt-RECORD_WORD c = λ start place is.
    in_number c.args.page_size c.args.images start c.args.number c.args.at place is c.if-at-lt-RECORD_WORD.true

pub returns-then-at-page_size : goal.returns-then-at-page_size
returns-then-at-page_size c = λ start place is.
    in_image c.args.page_size c.args.images start c.args.number (c.args.at - 4) place
    (omega (arith, is, c.if-at-lt-RECORD_WORD.false)) (omega (arith, c.if-at-page_size.true, c.if-at-lt-RECORD_WORD.false))

pub returns : goal.returns
returns c = λ start place is.
    in_sum c.args.page_size c.args.images start c.args.number (c.args.at - 4 - c.args.page_size) place
    (omega (arith, is, c.if-at-page_size.false)) (omega (arith, c.requires.within, c.if-at-page_size.false))
