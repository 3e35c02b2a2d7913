use Rattle.std.proofs.Common.{◌≡◌, ℕ, ◌<◌, ◌≤◌, false, is_some}
use Rattle.sx_base.specs.Sheets.{sheet_view}
use Rattle.sx_base.proofs.sheets.SheetsPages.next_held.Given as goal

abbrev pub invariant-loop-place : goal.invariant-loop-place
invariant-loop-place l =
    (number : ℕ) → l.after < number → number ≤ l.place → is_some (sheet_view l.self.page_size l.self.sheets.now number) ≡ false
