use Rattle.std.proofs.Common.{string_bytes, subst}
use Rattle.sx_lines.specs.Lines.{IsNextLine}
use Rattle.sx_history_text.specs.Moments.{moment_rest}
use Rattle.sx_app.specs.HistoryRest.{histories_from}
use Rattle.sx_app.proofs.AllMoments.{goes_next}
use Rattle.sx_app.proofs.histories.HistoryLinesLines.next_line.Goals as goal

pub returns : goal.returns
returns c =
    let it = c.self.inside in
    let line = string_bytes c.next_line-2.new.line in
    let more = c.in_ok-more.more in
    subst (λ all. IsNextLine all (histories_from (moment_rest c.next_line-2.new.self) it.table.now c.moment_lines.new.trees) line more) c.self.view_is
    (goes_next it.table.now it.trees c.next.new.self c.moment_lines.new.trees (moment_rest it.current) (moment_rest c.in_ok-self-inside.field-0) (moment_rest c.next_line-2.new.self)
    line more
    (c.next.ensures.next c.if-not-next.false) c.next.ensures.rowid c.moment_lines.ensures.case c.moment_lines.ensures.place c.moment_lines.ensures.rowid
    (rw c.if-branch.false at c.in_ok-next_line.ensures) c.moment-moment.ensures.there c.in_ok-self-inside.ensures.lines c.in_ok-more.ensures)
