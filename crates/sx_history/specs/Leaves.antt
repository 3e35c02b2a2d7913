-- What a leaf page says of a rowid, where its cells hold all of their payloads ("B-tree Pages", "Cell Payload Overflow Pages").
use Rattle.std.specs.Prelude.{◌≡◌, ℕ, ℤ, ◌-◌, ◌<◌, false, List, count_by, Option, Some, None, Result, Ok, Err, ⊤}
use Rattle.std.specs.List.{filter_map, range_with_len}
use Rattle.sx_cell.specs.declared.cell.Kind.{Kind}
use Rattle.sx_cell.specs.declared.cell.Cell.{Cell}
use Rattle.sx_cell.specs.declared.cell.CellFault.{CellFault}
use Rattle.sx_cell.specs.Kinds.{has_child}
use Rattle.sx_cell.specs.Local.{spilled}
use Rattle.sx_node.specs.Nodes.{NodePage, node_of, cell_count, cell_in}
use Rattle.sx_overflow.specs.Payloads.{local_payload}
use Rattle.sx_row.specs.Rows.{RowContent, columns_of}
use Rattle.sx_history.specs.History.{row_found, row_faulty}
use Rattle.sx_history.specs.declared.found.Found.{Found}

-- the row of a cell that holds all of its payload, if the cell can be read
abbrev pub local_row : List ℕ → Result Cell CellFault → Option RowContent
local_row page (Err fault) = None
local_row page (Ok cell) = Some (record { rowid = cell.rowid; columns = columns_of (local_payload page cell) })

-- a cell holds all of its payload, if it can be read
abbrev pub IsLocal : Result Cell CellFault → Type 0
IsLocal (Err fault) = ⊤
IsLocal (Ok cell) = spilled cell ≡ 0

-- the rows with the rowid in the cells from an index on
unfoldable pub leaf_found : ℤ → NodePage → ℕ → List Found
leaf_found rowid node index =
    filter_map (λ i. row_found rowid node.number i (local_row node.page (cell_in node i))) (range_with_len index (cell_count node - index))

-- how many of these cells are faults
unfoldable pub leaf_faults : NodePage → ℕ → ℕ
leaf_faults node index = count_by (λ i. row_faulty (local_row node.page (cell_in node i))) (range_with_len index (cell_count node - index))

-- the b-tree page is a leaf whose cells hold all of their payloads
pub record IsLeaf (node : NodePage) : Type 0 where
  pub leaf : has_child node.kind ≡ false
  pub local : (index : ℕ) → index < cell_count node → IsLocal (cell_in node index)

-- the page with these bytes is such a leaf, and says this of the rowid
pub record LeafSays (usable number : ℕ) (rowid : ℤ) (page : List ℕ) (kind : Kind) (found : List Found) (faults : ℕ) : Type 0 where
  pub node : NodePage
  pub read : node_of page number usable ≡ Ok node
  pub leaf : IsLeaf node
  pub kind_is : kind ≡ node.kind
  pub found_is : found ≡ leaf_found rowid node 0
  pub faults_are : faults ≡ leaf_faults node 0

-- by the bytes of two views a page is such a leaf of one kind, and says the same of the rowid
pub record SaySame (usable number : ℕ) (rowid : ℤ) (before now : List ℕ) : Type 0 where
  pub kind : Kind
  pub found : List Found
  pub faults : ℕ
  pub said : LeafSays usable number rowid before kind found faults
  pub says : LeafSays usable number rowid now kind found faults

-- the same of views that are there
abbrev pub StaysLeaf : ℕ → ℕ → ℤ → Option (List ℕ) → Option (List ℕ) → Type 0
StaysLeaf usable number rowid (Some before) (Some now) = SaySame usable number rowid before now
StaysLeaf usable number rowid _ _ = ⊥
