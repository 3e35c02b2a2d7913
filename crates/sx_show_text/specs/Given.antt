-- The columns of a table as they are given.
use Rattle.std.specs.Prelude.{map}
use Rattle.sx_show_text.specs.declared.columns.Columns.{Columns as GivenColumns}
use Rattle.sx_show_text.specs.Columns.{Columns}

-- what columns are
abbrev pub columns_by : GivenColumns → Columns
columns_by columns = record { names = map (λ name. name.items) columns.names.items; alias = columns.alias }
