use Rattle.std.proofs.Common.{◌++◌, length, ap, ◌∙◌, arith, get_or}
use Rattle.sx_gen.specs.Pages.{leaf_page}
use Rattle.sx_gen.proofs.Lengths.{leaf_page_len}
use Rattle.sx_gen.proofs.frames.make_page.Goals as goal

pub returns-clause-len : goal.returns-clause-len
returns-clause-len c =
    let page = leaf_page c.args.letters.now (get_or c.args.taken.now c.args.k 0) c.rows_left-count.result in
    ap length (c.in_ok-put_leaf_page.ensures ∙ ap (λ front. front ++ page) c.in_ok-page.ensures.items)
    ∙ leaf_page_len c.args.letters.now (get_or c.args.taken.now c.args.k 0) c.rows_left-count.result c.rows_left-count.ensures.few (omega arith)
