use Rattle.std.proofs.Common.{◌/◌, ◌%◌, sym}
use Rattle.std.proofs.Math.Nat.{mod-lt}
use Rattle.std.proofs.lemmas.Nat.{div-add-mod'}
use Rattle.sx_images.proofs.Files.{database_here, database_past}
use Rattle.sx_images.proofs.places.in_database.Goals as goal

pub returns-then-page-pages : goal.returns-then-page-pages
returns-then-page-pages c =
    sym (database_here c.args.page_size c.args.pages (c.args.offset / c.args.page_size) (c.args.offset % c.args.page_size) c.args.offset
    (sym (div-add-mod' c.args.offset c.args.page_size)) (mod-lt c.args.offset c.requires) c.if-page-pages.true)

pub returns-else-page-pages : goal.returns-else-page-pages
returns-else-page-pages c =
    sym (database_past c.args.page_size c.args.pages (c.args.offset / c.args.page_size) (c.args.offset % c.args.page_size) c.args.offset
    (sym (div-add-mod' c.args.offset c.args.page_size)) c.if-page-pages.false)
