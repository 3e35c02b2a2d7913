-- The image and those behind it.
use Rattle.std.proofs.Common.{◌+◌, ◌∙◌, sym, ap, ◌++◌, option_copied, take, drop}
use Rattle.sx_carve.specs.Candidates.{told_by}
use Rattle.sx_carve.specs.Candidates.{carved_from}
use Rattle.sx_carve.specs.Evidence.{evidence_bytes}
use Rattle.sx_carve.specs.Scan.{images_rest}
use Rattle.sx_carve.proofs.ImageLemmas.{one_image, in_file}
use Rattle.sx_carve.proofs.candidates.scan_of.Goals as goal

pub page_at-bytes-requires : goal.page_at-bytes-requires
page_at-bytes-requires c =
    in_file (evidence_bytes c.args.evidence.now.database.now (option_copied c.args.evidence.now.wal) (option_copied c.args.evidence.now.journal)) c.args.images.now c.image-image.result c.page_size.result c.file_of-file.result.now
    c.requires.images (c.images_lie_in_their_files.ensures.within c.args.number c.image-image.result c.image-image.ensures) (c.page_size.ensures ∙ c.requires.fit.size) c.file_of-file.ensures

pub returns : goal.returns
returns c =
    let files = evidence_bytes c.args.evidence.now.database.now (option_copied c.args.evidence.now.wal) (option_copied c.args.evidence.now.journal) in
    let rest = images_rest c.args.ctx.now.usable c.args.ctx.now.shapes.now c.args.owned.now files c.args.images.now (c.args.number + 1) in
    let size = c.page_size.ensures ∙ c.requires.fit.size in
    let bytes = c.page_at-bytes.ensures.bytes ∙ ap (λ n. take n (drop c.image-image.result.offset c.file_of-file.result.now)) size ∙ ap (λ file. take c.args.images.now.page_size (drop c.image-image.result.offset file)) c.file_of-file.ensures in
    one_image c.args.ctx.now.usable c.args.ctx.now.shapes.now c.args.owned.now files c.args.images.now c.args.number c.image-image.result c.image-image.ensures
    ∙ ap (λ front. front ++ rest) (sym (c.start.ensures ∙ ap (carved_from c.args.ctx.now.usable c.args.ctx.now.shapes.now (told_by c.args.owned.now) c.args.number 0) bytes))
