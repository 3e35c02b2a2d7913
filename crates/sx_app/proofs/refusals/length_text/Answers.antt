use Rattle.std.specs.Prelude.{codes}
use Rattle.std.specs.Fmt.{decimal}
use Rattle.sx_app.proofs.Numbers.{numbered_line, same_text}
use Rattle.sx_app.proofs.refusals.length_text.Goals as goal

pub returns-in-Database : goal.returns-in-Database
returns-in-Database c =
    rw c.in-Database.is (same_text _ _ _ (numbered_line (codes "refused: database has ") (decimal c.args.length) (codes " bytes")) c.format.ensures.ok)

pub returns-in-Wal : goal.returns-in-Wal
returns-in-Wal c =
    rw c.in-Wal.is (same_text _ _ _ (numbered_line (codes "refused: wal has ") (decimal c.args.length) (codes " bytes")) c.format-in-Wal.ensures.ok)

pub returns-in-Journal : goal.returns-in-Journal
returns-in-Journal c =
    rw c.in-Journal.is (same_text _ _ _ (numbered_line (codes "refused: journal has ") (decimal c.args.length) (codes " bytes")) c.format-in-Journal.ensures.ok)
