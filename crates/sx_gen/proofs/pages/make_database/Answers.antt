use Rattle.std.proofs.Common.{◌≡◌, ◌+◌, [], ◌++◌, ◌∙◌, ap, length}
use Rattle.sx_gen.specs.Pages.{first_page, inner_page, leaf_pages, database_bytes}
use Rattle.sx_gen.proofs.Lists.{put_then}
use Rattle.sx_gen.proofs.Sizes.{database_len}
use Rattle.sx_gen.proofs.pages.make_database.Goals as goal

pub returns-clause-len : goal.returns-clause-len
unfolding database_bytes
returns-clause-len c =
    let letters = c.args.letters.now in
    let leaves = c.args.leaves in
    let last = c.put_leaf_pages.new.out.items in
    let first = c.put_first_page.new.out.items in
    let second = c.put_inner_page.new.out.items in
    let value : last ≡ first_page (2 + leaves) ++ (inner_page leaves ++ leaf_pages letters leaves) =
    put_then [] (first_page (2 + leaves)) (inner_page leaves ++ leaf_pages letters leaves) first last
    (c.in_ok-put_first_page.ensures ∙ ap (λ front. front ++ first_page (2 + leaves)) c.in_ok-database.ensures.items)
    (put_then first (inner_page leaves) (leaf_pages letters leaves) second last c.in_ok-put_inner_page.ensures c.in_ok-put_leaf_pages.ensures) in
    ap length value ∙ database_len letters leaves c.requires.few c.requires.letters
