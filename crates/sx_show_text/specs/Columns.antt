-- What `show` prints of a table's columns, and of the values of a row.
use Rattle.std.specs.Prelude.{ℕ, ℤ, ◌+◌, ◌&&◌, ◌==◌, Bool, true, false, if◌then◌else◌, List, [], ◌∷◌, ◌++◌, length, drop, codes, Option, Some, None}
use Rattle.std.specs.Fmt.{signed_decimal}
use Rattle.std.specs.List.{flat_map}
use Rattle.sx_bytes.specs.declared.encoding.Encoding.{Encoding}
use Rattle.sx_bytes.specs.declared.encoding.Encoding.TheVariants.{Utf8}
use Rattle.sx_record.specs.Content.{Content, null, integer, real, text, blob}
use Rattle.sx_record.specs.Text.{quoted, printed_value}

-- the columns of a table: their names, and the place of the one that stands for the rowid
pub record Columns : Type 0 where
  pub names : List (List ℕ)
  pub alias : Option ℕ

-- the names of columns, each after a space
unfoldable pub names_text : List (List ℕ) → List ℕ
names_text names = flat_map (λ name. 32 ∷ quoted Utf8 name) names

-- the first line: the columns of the table's text, where that gives a shape
abbrev pub columns_line : Option Columns → List ℕ
columns_line None = codes "columns unknown"
columns_line (Some shape) = codes "columns" ++ names_text shape.names

-- the column that stands for the rowid
abbrev pub alias_in : Option Columns → Option ℕ
alias_in None = None
alias_in (Some shape) = shape.alias

-- the names of the columns
abbrev pub names_in : Option Columns → List (List ℕ)
names_in None = []
names_in (Some shape) = shape.names

-- the rowid in place of a value: rows of an index have none
abbrev pub alias_text : Option ℤ → List ℕ
alias_text None = codes "NULL"
alias_text (Some rowid) = signed_decimal rowid

-- the rowid at the head of a row
abbrev pub rowid_text : Option ℤ → List ℕ
rowid_text None = codes "-"
rowid_text (Some rowid) = signed_decimal rowid

-- a value holds NULL
abbrev pub is_null : Content → Bool
is_null null = true
is_null (integer number) = false
is_null (real bytes) = false
is_null (text bytes) = false
is_null (blob bytes) = false

-- the column at a place is the one that stands for the rowid
abbrev pub is_alias : Option ℕ → ℕ → Bool
is_alias None place = false
is_alias (Some alias) place = alias == place

-- a value: where NULL stands in the column that stands for the rowid, the rowid
unfoldable pub column_text : Encoding → Option ℤ → Bool → Content → List ℕ
column_text encoding rowid for_rowid content =
    if for_rowid && is_null content then alias_text rowid else printed_value encoding content

-- the values of columns from a place on, each after a space
unfoldable pub values_text : Encoding → Option ℤ → Option ℕ → ℕ → List Content → List ℕ
values_text encoding rowid alias place [] = []
values_text encoding rowid alias place (content ∷ contents) =
    (32 ∷ column_text encoding rowid (is_alias alias place) content) ++ values_text encoding rowid alias (place + 1) contents

-- a mark for each column that the record of a row doesn't have
unfoldable pub missing_text : List (List ℕ) → ℕ → List ℕ
missing_text names count = flat_map (λ name. codes " -") (drop count names)

-- the line of a row: its rowid, its values, and what is missing against the shape
unfoldable pub row_line : Encoding → Option Columns → Option ℤ → List Content → List ℕ
row_line encoding shape rowid columns =
    codes "row "
    ++ (rowid_text rowid
    ++ (values_text encoding rowid (alias_in shape) 0 columns
    ++ missing_text (names_in shape) (length columns)))
