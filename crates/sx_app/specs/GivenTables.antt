-- Tables as they were looked up.
use Rattle.std.specs.Option.{option_map}
use Rattle.sx_show_text.specs.Given.{columns_by}
use Rattle.sx_app.specs.declared.tables.Table.{Table as GivenTable}
use Rattle.sx_app.specs.Tables.{Table}

-- what a table is
abbrev pub table_by : GivenTable → Table
table_by table = record { root = table.root; columns = option_map columns_by table.columns }
