use Rattle.std.proofs.Common.{◌+◌, ◌-◌, ◌*◌, [], ◌∷◌, ◌++◌, replicate}
use Rattle.sx_gen.specs.Pages.{words_bytes, page_head, pointers, inner_cells, inner_page}
use Rattle.sx_gen.proofs.Lists.{put_then}
use Rattle.sx_gen.proofs.pages.put_inner_page.Goals as goal

pub returns : goal.returns
unfolding inner_page
returns c =
    let last = c.put_inner_cells.new.out.items in
    let cells = c.args.leaves - 1 in
    let head = page_head 5 cells (4096 - 6 * cells) in
    let child = words_bytes ((2 + c.args.leaves) ∷ []) in
    let behind = replicate (4084 - 8 * cells) 0 ++ inner_cells cells in
    put_then c.args.out.now.items head (child ++ (pointers 6 cells ++ behind)) c.put_page_head.new.out.items last c.in_ok-put_page_head.ensures
    (put_then c.put_page_head.new.out.items child (pointers 6 cells ++ behind) c.put_words.new.out.items last c.in_ok-put_words.ensures
    (put_then c.put_words.new.out.items (pointers 6 cells) behind c.put_pointers.new.out.items last c.in_ok-put_pointers.ensures
    (put_then c.put_pointers.new.out.items (replicate (4084 - 8 * cells) 0) (inner_cells cells) c.put_zeros.new.out.items last c.in_ok-put_zeros.ensures c.in_ok-put_inner_cells.ensures)))
