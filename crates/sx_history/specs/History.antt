-- What a tree holds under a rowid: its rows that have it, and how many faults the tree has ("B-tree Pages", "Record Format").
use Rattle.std.specs.Prelude.{ℕ, ℤ, Bool, true, false, is_some, if◌then◌else◌, List, count_by, Option, None, Some, Result, Ok, Err}
use Rattle.std.specs.List.{filter_map}
use Rattle.std.specs.Ordering.{int_eq}
use Rattle.sx_tree.specs.declared.item.RowItem.{RowItem}
use Rattle.sx_tree.specs.declared.item.RowItem.TheVariants.{Row, Fault}
use Rattle.sx_tree.specs.Trees.{tree_in}
use Rattle.sx_tree.specs.Rows.{rows_of}
use Rattle.sx_record.specs.Content.{Content}
use Rattle.sx_row.specs.declared.row.RowFault.{RowFault}
use Rattle.sx_row.specs.Rows.{RowContent, row_of}
use Rattle.sx_history.specs.declared.found.Found.{Found}

-- a row has the rowid: one of an index has none
abbrev pub has_rowid : ℤ → Option ℤ → Bool
has_rowid rowid None = false
has_rowid rowid (Some own) = int_eq own rowid

-- why the columns of a row can't be shown, where they can't
abbrev pub read_fault : Result (List Content) RowFault → Option RowFault
read_fault (Ok columns) = None
read_fault (Err fault) = Some fault

-- the row in a cell of a page, where it has the rowid
abbrev pub read_found : ℤ → ℕ → ℕ → RowContent → Option Found
read_found rowid page cell row =
    if has_rowid rowid row.rowid then Some (record { page = page; cell = cell; fault = read_fault row.columns }) else None

abbrev pub row_found : ℤ → ℕ → ℕ → Option RowContent → Option Found
row_found rowid page cell None = None
row_found rowid page cell (Some row) = read_found rowid page cell row

-- an item of a tree, where it is a row that has the rowid
abbrev pub item_found : ℕ → (ℕ → Option (List ℕ)) → ℕ → ℤ → RowItem → Option Found
item_found size view usable rowid (Row page cell) = row_found rowid page cell (row_of size view usable page cell)
item_found size view usable rowid (Fault kind page cell) = None

-- a row is a fault where its columns can't be shown, and where its cell can't be read
abbrev pub row_faulty : Option RowContent → Bool
row_faulty None = true
row_faulty (Some row) = is_some (read_fault row.columns)

-- an item of a tree is a fault: one of a page or of a cell, or a row that is one
abbrev pub is_faulty : ℕ → (ℕ → Option (List ℕ)) → ℕ → RowItem → Bool
is_faulty size view usable (Row page cell) = row_faulty (row_of size view usable page cell)
is_faulty size view usable (Fault kind page cell) = true

-- the rows of the tree of a root that have the rowid, in order
unfoldable pub found_of : ℕ → (ℕ → Option (List ℕ)) → ℕ → ℕ → ℤ → List Found
found_of size view usable root rowid = filter_map (item_found size view usable rowid) (rows_of (tree_in size view usable root))

-- how many faults that tree has
unfoldable pub faults_of : ℕ → (ℕ → Option (List ℕ)) → ℕ → ℕ → ℕ
faults_of size view usable root = count_by (is_faulty size view usable) (rows_of (tree_in size view usable root))
