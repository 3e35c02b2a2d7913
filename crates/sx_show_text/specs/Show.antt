-- What `show` prints: the columns of a table, the items of its tree in order, and how many rows and faults these were.
use Rattle.std.specs.Prelude.{ℕ, Bool, not, List, [], ◌∷◌, ◌++◌, map, count_by, codes, Option}
use Rattle.std.specs.Fmt.{decimal}
use Rattle.sx_bytes.specs.declared.encoding.Encoding.{Encoding}
use Rattle.sx_tree.specs.Trees.{tree_in}
use Rattle.sx_tree.specs.Rows.{rows_of}
use Rattle.sx_show_text.specs.Columns.{Columns}
use Rattle.sx_show_text.specs.Columns.{columns_line}
use Rattle.sx_show_text.specs.Items.{Printed, item_printed}

-- the last line
unfoldable pub last_line : ℕ → ℕ → List ℕ
last_line rows faults = codes "rows " ++ decimal rows ++ codes " faults " ++ decimal faults

-- what is printed is a fault
abbrev pub is_fault : Printed → Bool
is_fault printed = not printed.is_row

-- the lines of what is printed, and how many rows and faults it has
abbrev pub printed_lines : List Printed → List (List ℕ)
printed_lines printed =
    map (λ one. one.line) printed ++ last_line (count_by (λ one. one.is_row) printed) (count_by is_fault printed) ∷ []

-- all lines over the tree of a root, with the shape of its table
abbrev pub show_lines : ℕ → (ℕ → Option (List ℕ)) → ℕ → Encoding → ℕ → Option Columns → List (List ℕ)
show_lines size view usable encoding root shape =
    columns_line shape
    ∷ printed_lines (map (item_printed size view usable encoding shape) (rows_of (tree_in size view usable root)))
