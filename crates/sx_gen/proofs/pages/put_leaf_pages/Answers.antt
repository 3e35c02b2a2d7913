use Rattle.sx_gen.specs.Pages.{leaf_page, rows_of_leaf}
use Rattle.sx_gen.proofs.Lists.{piece_more}
use Rattle.sx_gen.proofs.pages.put_leaf_pages.Goals as goal

pub loop-leaf-preserved : goal.loop-leaf-preserved
loop-leaf-preserved c =
    piece_more (λ leaf. leaf_page c.args.letters.now leaf rows_of_leaf) c.loop-leaf.leaf _ _ _ c.loop-leaf.invariant c.in_ok-put_leaf_page.ensures
