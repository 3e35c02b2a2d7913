use Rattle.std.proofs.Common.{ap}
use Rattle.sx_header.specs.declared.header.Header.{Header}
use Rattle.sx_plain.proofs.Images.{all_of, all_sized}
use Rattle.sx_plain.proofs.candidates.image_table.Goals as goal

pub returns-clause-images : goal.returns-clause-images
returns-clause-images c = all_of c.args.case.now _ c.lengths_in.result _ _ c.images.result c.lengths_in.ensures c.images.ensures

pub returns-clause-page_size : goal.returns-clause-page_size
returns-clause-page_size c =
    all_sized c.args.case.now c.header.result.now.page_size _ _ _ c.images.result (ap (λ (h : Header). h.page_size) c.header.ensures.header) c.images.ensures
