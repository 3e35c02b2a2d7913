use Rattle.std.proofs.Common.{◌≡◌, ◌+◌, ◌-◌, ◌<◌, sym, ap, ◌∙◌, arith, length, Some, slice_get}
use Rattle.std.proofs.lemmas.Option.{slice_get-get_or}
use Rattle.sx_images.specs.Images.{Table, images_of, pages_of}
use Rattle.sx_images.proofs.Imaged.{count_is, page_there, stored_there}
use Rattle.sx_images.proofs.table.ImageTable.image.Goals as goal

pub returns-then-i-pages : goal.returns-then-i-pages
returns-then-i-pages c =
    let size : c.self.inside.page_size ≡ c.args.self.now.page_size = ap (λ (t : Table). t.page_size) c.self.view_is in
    rw (c.from.ensures, c.from-then-i-pages.ensures, size) (page_there c.args.self.now c.args.i (omega (arith, c.if-i-pages.true, c.pages-pages.ensures)))

pub index-requires : goal.index-requires
index-requires c =
    let stored = ap (λ (t : Table). length t.stored) c.self.view_is in
    let is = count_is c.args.self.now in
    omega (arith, stored, is, c.pages-pages.ensures, c.if-i-pages.false, c.requires)

pub returns : goal.returns
returns c =
    let pages = pages_of c.args.self.now in
    let k = c.args.i - c.pages-pages.result in
    let number : pages + k ≡ c.args.i = omega (arith, c.pages-pages.ensures, c.if-i-pages.false) in
    let stored = ap (λ (t : Table). t.stored) c.self.view_is in
    let is = count_is c.args.self.now in
    let inside : k < length c.self.inside.stored.items = omega (arith, ap length stored, is, c.pages-pages.ensures, c.if-i-pages.false, c.requires) in
    ap (slice_get (images_of c.args.self.now)) (sym number) ∙ stored_there c.args.self.now k ∙ ap (λ list. slice_get list k) (sym stored)
    ∙ slice_get-get_or c.self.inside.stored.items k c.index.result.now inside ∙ ap Some (sym c.index.ensures)
