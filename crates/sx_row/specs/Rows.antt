-- A row of a tree: its rowid, and its columns or why they can't be shown ("Record Format", "Cell Payload Overflow Pages").
use Rattle.std.specs.Prelude.{ℕ, ℤ, nat_lt, if◌then◌else◌, List, Option, Some, None, Result, Ok, Err}
use Rattle.std.specs.List.{concat}
use Rattle.sx_cell.specs.declared.cell.Cell.{Cell}
use Rattle.sx_cell.specs.declared.cell.CellFault.{CellFault}
use Rattle.sx_node.specs.declared.node.NodeFault.{NodeFault}
use Rattle.sx_node.specs.Nodes.{NodePage, node_of, cell_count, cell_in}
use Rattle.sx_overflow.specs.Payloads.{ToCome, payload_of}
use Rattle.sx_record.specs.Content.{Content}
use Rattle.sx_record.specs.Records.{record_of}
use Rattle.sx_record.specs.declared.fault.RecordFault.{RecordFault}
use Rattle.sx_record.specs.declared.fault.RecordFault.TheVariants as of_record
use Rattle.sx_row.specs.declared.row.RowFault.{RowFault}
use Rattle.sx_row.specs.declared.row.RowFault.TheVariants.{ShortChain, HeaderSize, UnusedType, BodyLength}

-- the pieces joined, where they make the payload whole
abbrev pub joined : ToCome → Option (List ℕ)
joined payload = if payload.whole then Some (concat payload.pieces) else None

-- the bytes of the payload of a cell of a page; none where an overflow page that it needs isn't there, or more are needed
-- than are held
unfoldable pub row_payload : ℕ → (ℕ → Option (List ℕ)) → ℕ → List ℕ → Cell → Option (List ℕ)
row_payload size view usable page cell = joined (payload_of size view page usable cell)

-- why a payload is no record
abbrev pub record_fault : RecordFault → RowFault
record_fault of_record.HeaderSize = HeaderSize
record_fault of_record.UnusedType = UnusedType
record_fault of_record.BodyLength = BodyLength

-- the columns of a payload that was read as a record
abbrev pub columns_read : Result (List Content) RecordFault → Result (List Content) RowFault
columns_read (Ok columns) = Ok columns
columns_read (Err fault) = Err (record_fault fault)

-- the columns of a payload, or the first fault
abbrev pub columns_of : Option (List ℕ) → Result (List Content) RowFault
columns_of None = Err ShortChain
columns_of (Some bytes) = columns_read (record_of bytes)

-- a row: its rowid, which rows of an index don't have, and its columns or its fault
pub record RowContent : Type 0 where
  pub rowid : Option ℤ
  pub columns : Result (List Content) RowFault

-- the row of a cell of a page
abbrev pub cell_row : ℕ → (ℕ → Option (List ℕ)) → ℕ → List ℕ → Result Cell CellFault → Option RowContent
cell_row size view usable page (Err fault) = None
cell_row size view usable page (Ok cell) = Some (record { rowid = cell.rowid; columns = columns_of (row_payload size view usable page cell) })

-- the row in the cell of an index of a b-tree page, if there is one
abbrev pub node_row : ℕ → (ℕ → Option (List ℕ)) → ℕ → ℕ → Result NodePage NodeFault → Option RowContent
node_row size view usable index (Err fault) = None
node_row size view usable index (Ok node) =
    if nat_lt index (cell_count node) then cell_row size view usable node.page (cell_in node index) else None

abbrev pub page_row : ℕ → (ℕ → Option (List ℕ)) → ℕ → ℕ → ℕ → Option (List ℕ) → Option RowContent
page_row size view usable number index None = None
page_row size view usable number index (Some page) = node_row size view usable index (node_of page number usable)

-- the row in the cell of an index of the page with that number; none where there is no such cell that can be read
unfoldable pub row_of : ℕ → (ℕ → Option (List ℕ)) → ℕ → ℕ → ℕ → Option RowContent
row_of size view usable number index = page_row size view usable number index (view number)
