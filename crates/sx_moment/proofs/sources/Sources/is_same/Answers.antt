use Rattle.std.proofs.Common.{◌≡◌, true, rules}
use Rattle.std.specs.Str.{bytes_eq}
use Rattle.sx_moment.specs.Gathered.{slot_at}
use Rattle.sx_moment.specs.Marks.{is_committed}
use Rattle.sx_moment.specs.Views.{bytes_of}
use Rattle.sx_moment.specs.declared.origin.Origin.TheVariants.{Database}
use Rattle.sx_moment.proofs.Noted.{same_here}
use Rattle.sx_moment.proofs.sources.Sources.is_same.Goals as goal

pub returns-then-is_committed : goal.returns-then-is_committed
returns-then-is_committed c =
    let committed : is_committed (slot_at c.args.self.now c.args.i).class ≡ true = search rules in
    let file : c.file_page.result.now ≡ bytes_of c.args.self.now (slot_at c.args.self.now c.args.i).page Database = search rules in
    let compared : c.eq.result ≡ bytes_eq c.slot_page.result.now c.file_page.result.now = search rules in
    same_here c.args.self.now c.args.i _ _ _ committed (c.slot_page.ensures.bytes (slot_at c.args.self.now c.args.i).page) file compared
