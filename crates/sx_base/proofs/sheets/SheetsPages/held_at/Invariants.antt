use Rattle.std.proofs.Common.{◌-◌, ◌≤◌, length}
use Rattle.sx_base.specs.Sheets.{sheet_view}
use Rattle.sx_base.proofs.HeldPages.{IsWalk}
use Rattle.sx_base.proofs.sheets.SheetsPages.held_at.Given as goal

abbrev pub invariant-loop-no : goal.invariant-loop-no
invariant-loop-no l = record {
  walk : IsWalk (length l.self.sheets.now) (sheet_view l.self.page_size l.self.sheets.now) l.at l.count;
  before : l.count ≤ l.i;
}

abbrev pub decreases-loop-no : goal.decreases-loop-no
decreases-loop-no l = length l.self.sheets.now - l.at
