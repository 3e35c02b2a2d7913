-- A row as it is given.
use Rattle.std.specs.Prelude.{Option, Some, None}
use Rattle.sx_row.specs.declared.row.Row.{Row}
use Rattle.sx_row.specs.Rows.{RowContent}

-- what a row is
abbrev pub content_of : Row → RowContent
content_of row = record { rowid = row.rowid; columns = row.columns }

-- what a row is, if there is one
abbrev pub row_by : Option Row → Option RowContent
row_by None = None
row_by (Some row) = Some (content_of row)
