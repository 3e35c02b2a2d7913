-- The table of a name, as long as the schema that has it is the same.
use Rattle.std.specs.Prelude.{ℕ, List, Option, None, Some, Result, IfErr, IfSome, ⊤}
use Rattle.std.specs.Option.{option_map}
use Rattle.sx_schema.specs.Entries.{Entry}
use Rattle.sx_show_text.specs.Given.{columns_by}
use Rattle.sx_app.specs.Owed.{Gives}
use Rattle.sx_app.specs.Tables.{MayLack, Table, table_in}
use Rattle.sx_app.specs.declared.refused.Refused.{Refused}
use Rattle.sx_app.specs.declared.sought.SharedTable.{SharedTable}

-- what a table is whose columns are shared
abbrev pub shared_by : SharedTable → Table
shared_by table = record { root = table.root; columns = option_map columns_by table.columns.value }

-- what was found under a name, if it was looked for, is what these entries have under it, where there are any
abbrev pub IsSought : Option (List Entry) → List ℕ → Option (Result SharedTable Refused) → Type 0
IsSought entries name None = ⊤
IsSought entries name (Some found) = IfSome entries (λ list. Gives shared_by found (table_in list name)) × IfErr found MayLack
