-- The schema of a moment: the rows of the tree at page 1 ("Storage Of The SQL Database Schema").
use Rattle.std.specs.Prelude.{ℕ, ℤ, pos, Bool, false, not, ◌&&◌, List, [], ◌∷◌, map, filter, bytes_eq, codes, unwrap_or, Option, Some, None, Result, Ok, Err}
use Rattle.std.specs.Ordering.{int_eq}
use Rattle.std.specs.Char.{to_ascii_lowercase}
use Rattle.std.specs.List.{filter_map, position_from}
use Rattle.sx_bytes.specs.declared.encoding.Encoding.{Encoding}
use Rattle.sx_bytes.specs.Decoding.{decoded}
use Rattle.sx_record.specs.Content.{Content, null, integer, real, text, blob}
use Rattle.sx_tree.specs.declared.item.RowItem.{RowItem}
use Rattle.sx_tree.specs.declared.item.RowItem.TheVariants.{Row, Fault}
use Rattle.sx_tree.specs.Trees.{tree_in}
use Rattle.sx_tree.specs.Rows.{rows_of}
use Rattle.sx_row.specs.declared.row.RowFault.{RowFault}
use Rattle.sx_row.specs.Rows.{RowContent, row_of}

-- an entry: whether it is a table, its name, the root of its tree, and its text
pub record Entry : Type 0 where
  pub is_table : Bool
  pub name : List ℕ
  pub root : Option ℤ
  pub sql : Option (List ℕ)

-- the text of a column decoded, where it is a text that decodes
abbrev pub text_in : Encoding → Content → Option (List ℕ)
text_in encoding null = None
text_in encoding (integer number) = None
text_in encoding (real bytes) = None
text_in encoding (text bytes) = decoded encoding bytes
text_in encoding (blob bytes) = None

-- the integer of a column
abbrev pub integer_in : Content → Option ℤ
integer_in null = None
integer_in (integer number) = Some number
integer_in (real bytes) = None
integer_in (text bytes) = None
integer_in (blob bytes) = None

-- the text is the word of a table
abbrev pub says_table : Option (List ℕ) → Bool
says_table None = false
says_table (Some word) = bytes_eq word (codes "table")

-- the entry that columns make: the first five are its type, its name, its table's name, its root and its text
unfoldable pub entry_of : Encoding → List Content → Option Entry
entry_of encoding (type ∷ name ∷ table ∷ root ∷ sql ∷ others) = Some (record {
  is_table = says_table (text_in encoding type);
  name = unwrap_or (text_in encoding name) [];
  root = integer_in root;
  sql = text_in encoding sql;
})
entry_of encoding columns = None

-- the entry of a row, where its payload is whole, and a record of five columns at least
abbrev pub read_entry : Encoding → Result (List Content) RowFault → Option Entry
read_entry encoding (Ok columns) = entry_of encoding columns
read_entry encoding (Err fault) = None

abbrev pub row_entry : Encoding → Option RowContent → Option Entry
row_entry encoding None = None
row_entry encoding (Some row) = read_entry encoding row.columns

-- the entry of an item of the tree, if it is one
abbrev pub item_entry : ℕ → (ℕ → Option (List ℕ)) → ℕ → Encoding → RowItem → Option Entry
item_entry size view usable encoding (Row page cell) = row_entry encoding (row_of size view usable page cell)
item_entry size view usable encoding (Fault kind page cell) = None

-- the entries of the schema, in the order of the rows
unfoldable pub schema_of : ℕ → (ℕ → Option (List ℕ)) → ℕ → Encoding → List Entry
schema_of size view usable encoding = filter_map (item_entry size view usable encoding) (rows_of (tree_in size view usable 1))

-- the names are one but for the case of ASCII letters
abbrev pub same_name : List ℕ → List ℕ → Bool
same_name one other = bytes_eq (map to_ascii_lowercase one) (map to_ascii_lowercase other)

-- an entry is a table of that name
abbrev pub is_table_named : List ℕ → Entry → Bool
is_table_named name entry = entry.is_table && same_name entry.name name

-- the place among the entries of the first table of a name, if there is one
unfoldable pub table_at : List Entry → List ℕ → Option ℕ
table_at entries name = position_from (is_table_named name) 0 entries

-- a number other than 0
abbrev pub is_some_root : ℤ → Bool
is_some_root root = not (int_eq root (pos 0))

-- the roots of the entries other than 0, in order
unfoldable pub roots_of : List Entry → List ℤ
roots_of entries = filter is_some_root (filter_map (λ entry. entry.root) entries)
