use Rattle.std.proofs.Common.{refl, sym, ◌∙◌, string_bytes, ap}
use Rattle.std.specs.Option.{option_map}
use Rattle.sx_history.specs.Given.{faults_by, items_by}
use Rattle.sx_moment.specs.Gathered.{size_at}
use Rattle.sx_moment.specs.Views.{view_of}
use Rattle.sx_show_text.specs.Given.{columns_by}
use Rattle.sx_show_text.specs.Show.{last_line}
use Rattle.sx_lines.specs.Lines.{ended}
use Rattle.sx_history_text.specs.Histories.{at_moment, found_printed}
use Rattle.sx_history_text.proofs.Listing.{row_of, last_of}
use Rattle.sx_history_text.proofs.row_lines.RowLinesLines.next_line.Goals as goal

pub returns-in_default : goal.returns-in_default
returns-in_default c =
    let it = c.self.inside in
    let make = found_printed (size_at it.snapshot.case.now it.snapshot.moment) (view_of it.snapshot.case.now it.snapshot.moment) it.usable it.encoding (option_map columns_by it.shape.value) in
    last_of make it.moment it.rows (faults_by it.history) it.at it.ended (items_by it.history) (string_bytes c.put_last_line.new.line) c.args.self.now
    (sym c.self.view_is) c.if-self.false c.in_default.ensures.found
    (c.in_ok-put_last_line.ensures ∙ ap (λ n. ended (at_moment it.moment (last_line it.rows n))) c.faults.ensures)

pub returns : goal.returns
returns c =
    let it = c.self.inside in
    let make = found_printed (size_at it.snapshot.case.now it.snapshot.moment) (view_of it.snapshot.case.now it.snapshot.moment) it.usable it.encoding (option_map columns_by it.shape.value) in
    row_of make it.moment it.rows c.one_if.result _ (faults_by it.history) it.at c.in_ok-is_row.is_row it.ended (items_by it.history) c.in-Some.found
    (string_bytes c.put_found.new.line) c.args.self.now
    (sym c.self.view_is) c.if-self.false c.in-Some.ensures.found (rw c.as_ref.ensures at c.in_ok-is_row.ensures.is_row) c.one_if.ensures refl (rw c.as_ref.ensures at c.in_ok-is_row.ensures.line)
