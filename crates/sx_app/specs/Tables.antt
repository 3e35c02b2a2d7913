-- The table that `show` asks for ("Storage Of The SQL Database Schema").
use Rattle.std.specs.Prelude.{ℕ, ℤ, pos, negsuc, Bool, ◌||◌, ◌&&◌, nat_le, if◌then◌else◌, List, [], ◌∷◌, codes, slice_get, Option, None, Some, Result, Ok, Err, ⊤}
use Rattle.sx_base.specs.declared.moment.Moment.{Moment}
use Rattle.sx_header.specs.declared.header.Header.{Header}
use Rattle.sx_moment.specs.Gathered.{Gathered, size_at}
use Rattle.sx_moment.specs.Heads.{head_of, layout_of, encoding_at}
use Rattle.sx_moment.specs.Views.{view_of}
use Rattle.sx_ddl.specs.declared.refused.DdlRefused.{DdlRefused}
use Rattle.sx_ddl.specs.Shapes.{Shape, table_of}
use Rattle.sx_schema.specs.Entries.{Entry, same_name, schema_of, table_at}
use Rattle.sx_show_text.specs.Columns.{Columns}
use Rattle.sx_show_text.specs.Show.{show_lines}
use Rattle.sx_words.specs.declared.request.When.{When}
use Rattle.sx_app.specs.Evidence.{◌>>=◌}
use Rattle.sx_app.specs.Moments.{CanMiss}
use Rattle.sx_app.specs.declared.refused.Refused.{Refused}
use Rattle.sx_app.specs.declared.refused.Refused.TheVariants.{NoMoment, Unreadable, NoTable, NoTree, Memory}

-- a table: the root page of its tree, and its columns, where its text gives them
pub record Table : Type 0 where
  pub root : ℕ
  pub columns : Option Columns

-- the names of the columns of the table that holds the schema
abbrev pub schema_columns : List (List ℕ)
schema_columns = codes "type" ∷ codes "name" ∷ codes "tbl_name" ∷ codes "rootpage" ∷ codes "sql" ∷ []

-- the table that holds the schema
unfoldable pub schema_table : Table
schema_table = record { root = 1; columns = Some (record { names = schema_columns; alias = None }) }

-- the two names of that table
abbrev pub is_schema_name : List ℕ → Bool
is_schema_name name = same_name name (codes "sqlite_schema") || same_name name (codes "sqlite_master")

-- the columns of a shape that was read, if one was
abbrev pub columns_read : Result Shape DdlRefused → Option Columns
columns_read (Ok shape) = Some (record { names = shape.names; alias = shape.alias })
columns_read (Err refused) = None

-- the columns that a table's text gives
unfoldable pub columns_in : Option (List ℕ) → Option Columns
columns_in None = None
columns_in (Some sql) = columns_read (table_of sql)

-- the number of a page, from 1 to the greatest of 4 bytes
abbrev pub page_numbered : ℤ → Result ℕ Refused
page_numbered (pos number) = if nat_le 1 number && nat_le number 4294967295 then Ok number else Err NoTree
page_numbered (negsuc number) = Err NoTree

-- the root page that an entry names, where that is a page number
unfoldable pub root_in : Option ℤ → Result ℕ Refused
root_in None = Err NoTree
root_in (Some root) = page_numbered root

-- the table of an entry
abbrev pub entry_table : Entry → Result Table Refused
entry_table entry = root_in entry.root >>= λ root. Ok (record { root = root; columns = columns_in entry.sql })

-- the table of an entry, if there is one
abbrev pub found_table : Option Entry → Result Table Refused
found_table None = Err NoTable
found_table (Some entry) = entry_table entry

-- the entry at a place, if there is one
abbrev pub placed_entry : List Entry → Option ℕ → Option Entry
placed_entry entries None = None
placed_entry entries (Some place) = slice_get entries place

-- the first table of a name among the entries of a schema
unfoldable pub table_in : List Entry → List ℕ → Result Table Refused
table_in entries name = found_table (placed_entry entries (table_at entries name))

-- the table of a name at a moment
unfoldable pub table_named : Gathered → Moment → List ℕ → Result Table Refused
table_named case moment name =
    if is_schema_name name then Ok schema_table
    else table_in (schema_of (size_at case moment) (view_of case moment) (layout_of case moment).usable (encoding_at case moment)) name

-- a moment can be read where its page 1 is a header
abbrev pub readable : Moment → Option Header → Result Moment Refused
readable moment None = Err (Unreadable moment)
readable moment (Some head) = Ok moment

-- the lines of a table at a moment, or why there are none
unfoldable pub table_lines : Gathered → Moment → List ℕ → Result (List (List ℕ)) Refused
table_lines case moment name =
    readable moment (head_of case moment) >>= λ moment.
    table_named case moment name >>= λ table.
    Ok (show_lines (size_at case moment) (view_of case moment) (layout_of case moment).usable (encoding_at case moment) table.root table.columns)

-- what looking for a table may meet, want of memory among it
abbrev pub MayLack : Refused → Type 0
MayLack Memory = ⊤
MayLack (Unreadable moment) = ⊤
MayLack NoTable = ⊤
MayLack NoTree = ⊤
MayLack refused = ⊥

-- what looking for a table at a moment may meet
abbrev pub MayMissTable : When → Refused → Type 0
MayMissTable at (NoMoment commits) = CanMiss at
MayMissTable at refused = MayLack refused
