use Rattle.std.proofs.Common.{◌≡◌, ◌∙◌, arith, w64, to_z, of_z}
use Rattle.std.proofs.Math.Facts.{to_z-of_z}
use Rattle.sx_app.proofs.AllMoments.{first_all}
use Rattle.sx_app.proofs.histories.HistoryLines.new.Goals as goal
use Rattle.sx_history_text.specs.Moments.{moment_rest}

pub returns : goal.returns
returns c =
    let read : to_z w64 (of_z w64 c.args.rowid) ≡ c.args.rowid = grind (arith, to_z-of_z) in
    first_all c.args.case.now c.args.table.now c.args.rowid c.in_ok-trees.trees c.moment_lines.new.trees (moment_rest c.in_ok-current.current)
    c.in_ok-trees.ensures.case c.in_ok-trees.ensures.place (c.in_ok-trees.ensures.rowid ∙ read)
    c.moment_lines.ensures.case c.moment_lines.ensures.place c.moment_lines.ensures.rowid
    c.moment-moment.ensures.there c.in_ok-current.ensures.lines
