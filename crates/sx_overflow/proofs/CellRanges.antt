-- A cell that was read from a page can be asked for its payload.
use Rattle.std.proofs.Common.{ℕ, ◌≤◌, List, length}
use Rattle.sx_cell.specs.declared.cell.Cell.{Cell}
use Rattle.sx_cell.specs.Cells.{WasRead}
use Rattle.sx_cell.proofs.CellLemmas.{read_ranges}
use Rattle.sx_overflow.specs.Sound.{IsWithin}

pub is_within : (page : List ℕ) (usable : ℕ) (cell : Cell) → 480 ≤ usable → usable ≤ length page → WasRead page usable cell
    → IsWithin usable cell
is_within page usable cell least held was =
    let ranges = read_ranges page usable cell least held was in
    record { part = ranges.part; limit = ranges.limit; held = ranges.held }
