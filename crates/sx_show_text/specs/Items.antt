-- What `show` prints of an item of a tree: a row, or a fault.
use Rattle.std.specs.Prelude.{ℕ, Bool, true, false, List, ◌++◌, codes, Option, Some, None, Result, Ok, Err}
use Rattle.std.specs.Fmt.{decimal}
use Rattle.sx_bytes.specs.declared.encoding.Encoding.{Encoding}
use Rattle.sx_tree.specs.declared.item.RowItem.{RowItem}
use Rattle.sx_tree.specs.declared.item.RowItem.TheVariants.{Row, Fault}
use Rattle.sx_tree.specs.declared.item.TreeFault.{TreeFault}
use Rattle.sx_tree.specs.declared.item.TreeFault.TheVariants.{Absent, DoubleClaim, BadNode, BadArray, OtherKind, BadCell}
use Rattle.sx_record.specs.Content.{Content}
use Rattle.sx_row.specs.declared.row.RowFault.{RowFault}
use Rattle.sx_row.specs.declared.row.RowFault.TheVariants.{ShortChain, HeaderSize, UnusedType, BodyLength}
use Rattle.sx_row.specs.Rows.{RowContent, row_of}
use Rattle.sx_show_text.specs.Columns.{Columns}
use Rattle.sx_show_text.specs.Columns.{row_line}

-- what is printed of an item: whether that is a row, and the line
pub record Printed : Type 0 where
  pub is_row : Bool
  pub line : List ℕ

-- the name of a fault of a page
abbrev pub page_fault_name : TreeFault → List ℕ
page_fault_name Absent = codes "absent"
page_fault_name DoubleClaim = codes "doubleclaim"
page_fault_name BadNode = codes "badnode"
page_fault_name BadArray = codes "badarray"
page_fault_name OtherKind = codes "otherkind"
page_fault_name BadCell = codes "badcell"

-- the name of a fault of a row
abbrev pub row_fault_name : RowFault → List ℕ
row_fault_name ShortChain = codes "shortchain"
row_fault_name HeaderSize = codes "headersize"
row_fault_name UnusedType = codes "unusedtype"
row_fault_name BodyLength = codes "bodylength"

-- the line of a fault of a page
unfoldable pub page_fault_line : List ℕ → ℕ → List ℕ
page_fault_line name page = codes "fault " ++ name ++ codes " page " ++ decimal page

-- the line of a fault of a cell
unfoldable pub cell_fault_line : List ℕ → ℕ → ℕ → List ℕ
cell_fault_line name page cell = codes "fault " ++ name ++ codes " page " ++ decimal page ++ codes " cell " ++ decimal cell

-- the line of a fault that was met on the walk: only that of a cell names the cell
abbrev pub tree_fault_line : TreeFault → ℕ → ℕ → List ℕ
tree_fault_line BadCell page cell = cell_fault_line (page_fault_name BadCell) page cell
tree_fault_line fault page cell = page_fault_line (page_fault_name fault) page

abbrev pub fault_printed : List ℕ → Printed
fault_printed line = record { is_row = false; line = line }

-- what is printed of a row with these columns, or this fault
abbrev pub columns_printed : Encoding → Option Columns → ℕ → ℕ → RowContent → Result (List Content) RowFault → Printed
columns_printed encoding shape page cell row (Ok columns) = record { is_row = true; line = row_line encoding shape row.rowid columns }
columns_printed encoding shape page cell row (Err fault) = fault_printed (cell_fault_line (row_fault_name fault) page cell)

-- what is printed of the row of a cell; a cell that can't be read is no row
abbrev pub row_printed : Encoding → Option Columns → ℕ → ℕ → Option RowContent → Printed
row_printed encoding shape page cell None = fault_printed (cell_fault_line (page_fault_name BadCell) page cell)
row_printed encoding shape page cell (Some row) = columns_printed encoding shape page cell row row.columns

-- what is printed of an item
abbrev pub item_printed : ℕ → (ℕ → Option (List ℕ)) → ℕ → Encoding → Option Columns → RowItem → Printed
item_printed size view usable encoding shape (Row page cell) = row_printed encoding shape page cell (row_of size view usable page cell)
item_printed size view usable encoding shape (Fault kind page cell) = fault_printed (tree_fault_line kind page cell)
