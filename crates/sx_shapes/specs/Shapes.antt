-- The shapes of the tables of a schema ("Storage Of The SQL Database Schema"): how many columns a table with rowids has, and
-- whether the first of them is an alias of the rowid ("ROWIDs and the INTEGER PRIMARY KEY").
use Rattle.std.specs.Prelude.{ℕ, ◌&&◌, ◌||◌, ◌==◌, nat_lt, not, Bool, false, if◌then◌else◌, List, [], ◌∷◌, length, Option, Some, None, Result, Ok, Err}
use Rattle.sx_ddl.specs.declared.refused.DdlRefused.{DdlRefused}
use Rattle.sx_ddl.specs.Shapes.{Shape, table_of}
use Rattle.sx_schema.specs.Entries.{Entry}
use Rattle.sx_grammar.specs.declared.shape.ShapeKey.{ShapeKey}

abbrev pub shape_key : ℕ → Bool → ShapeKey
shape_key columns alias = record { columns = columns; alias = alias }

-- the column that stands for the rowid is the first
abbrev pub is_first : Option ℕ → Bool
is_first None = false
is_first (Some place) = place == 0

-- the shape of a table, where it has rowids, and a column
abbrev pub rowid_shape : Shape → Option ShapeKey
rowid_shape shape = if shape.rowid && nat_lt 0 (length shape.names) then Some (shape_key (length shape.names) (is_first shape.alias)) else None

abbrev pub shape_read : Result Shape DdlRefused → Option ShapeKey
shape_read (Ok shape) = rowid_shape shape
shape_read (Err refused) = None

-- the shape that a text gives
unfoldable pub text_shape : Option (List ℕ) → Option ShapeKey
text_shape None = None
text_shape (Some sql) = shape_read (table_of sql)

-- the shape of an entry: that of its text, where it is a table
unfoldable pub entry_shape : Entry → Option ShapeKey
entry_shape entry = if entry.is_table then text_shape entry.sql else None

-- the order of shapes: by their columns, an alias first
abbrev pub is_before : ShapeKey → ShapeKey → Bool
is_before one other = nat_lt one.columns other.columns || ((one.columns == other.columns) && (one.alias && not other.alias))

-- one more among shapes in order, where it isn't among them
unfoldable pub with_shape : List ShapeKey → ShapeKey → List ShapeKey
with_shape [] shape = shape ∷ []
with_shape (first ∷ shapes) shape =
    if is_before first shape then first ∷ with_shape shapes shape
    else (if is_before shape first then shape ∷ first ∷ shapes else first ∷ shapes)

-- one more, where there is one
abbrev pub with_entry : List ShapeKey → Option ShapeKey → List ShapeKey
with_entry shapes None = shapes
with_entry shapes (Some shape) = with_shape shapes shape

-- the shapes of entries beside others
unfoldable pub with_entries : List ShapeKey → List Entry → List ShapeKey
with_entries shapes [] = shapes
with_entries shapes (entry ∷ entries) = with_entries (with_entry shapes (entry_shape entry)) entries

-- the shape of the table that holds the schema
abbrev pub schema_shape : ShapeKey
schema_shape = shape_key 5 false

-- the shapes of all tables of a schema, and of the one that holds it, each once and in order
abbrev pub shapes_of : List Entry → List ShapeKey
shapes_of entries = with_entries (schema_shape ∷ []) entries
