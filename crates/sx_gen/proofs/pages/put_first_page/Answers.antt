use Rattle.std.proofs.Common.{◌++◌, ◌∙◌, ap, replicate}
use Rattle.std.specs.Int.{w16, to_be_bytes}
use Rattle.sx_gen.specs.Pages.{file_header, page_head, schema_cell, first_page}
use Rattle.sx_gen.proofs.Lists.{put_then}
use Rattle.sx_gen.proofs.pages.put_first_page.Goals as goal

pub returns : goal.returns
unfolding first_page
returns c =
    let last = c.put_schema_cell.new.out.items in
    let cell = replicate 3920 0 ++ schema_cell in
    put_then c.args.out.now.items (file_header c.args.pages) (page_head 13 1 4030 ++ (to_be_bytes w16 4030 ++ cell)) c.put_file_header.new.out.items last c.in_ok-put_file_header.ensures
    (put_then c.put_file_header.new.out.items (page_head 13 1 4030) (to_be_bytes w16 4030 ++ cell) c.put_page_head.new.out.items last c.in_ok-put_page_head.ensures
    (put_then c.put_page_head.new.out.items (to_be_bytes w16 4030) cell c.extend_from_slice.new.self.items last (c.in_ok-extend_from_slice.ensures.items ∙ ap (λ bytes. c.put_page_head.new.out.items ++ bytes) c.to_be_bytes.ensures)
    (put_then c.extend_from_slice.new.self.items (replicate 3920 0) schema_cell c.put_zeros.new.out.items last c.in_ok-put_zeros.ensures c.in_ok-put_schema_cell.ensures)))
