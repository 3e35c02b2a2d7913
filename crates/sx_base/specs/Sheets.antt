-- Pages that stand in a list of sheets, page 1 first.
use Rattle.std.specs.Prelude.{ℕ, ◌-◌, ◌==◌, List, Option, Some, None, length, nat_le, slice_get, if◌then◌else◌}
use Rattle.std.specs.Borrow.{Bor}

-- a sheet of exactly this many bytes
abbrev pub whole_sheet : ℕ → Option (Bor (List ℕ)) → Option (List ℕ)
whole_sheet page_size None = None
whole_sheet page_size (Some sheet) = if length sheet.now == page_size then Some sheet.now else None

-- the sheet of a page
unfoldable pub sheet_view : ℕ → List (Bor (List ℕ)) → ℕ → Option (List ℕ)
sheet_view page_size sheets number = if nat_le 1 number then whole_sheet page_size (slice_get sheets (number - 1)) else None
