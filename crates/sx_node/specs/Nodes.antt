-- B-tree pages: their header and their cell pointer array ("B-tree Pages"). Offsets are in bytes from the start of the
-- page.
use Rattle.std.specs.Prelude.{◌≡◌, ℕ, ◌+◌, ◌*◌, ◌≤◌, ◌==◌, nat_lt, if◌then◌else◌, List, length, Option, Some, None, Result, Ok, Err}
use Rattle.sx_base.specs.Bytes.{byte_at, two_bytes_at, word_at}
use Rattle.sx_cell.specs.declared.cell.Kind.{Kind}
use Rattle.sx_cell.specs.declared.cell.Kind.TheVariants.{TableLeaf, TableInner, IndexLeaf, IndexInner}
use Rattle.sx_cell.specs.declared.cell.Cell.{Cell}
use Rattle.sx_cell.specs.declared.cell.CellFault.{CellFault}
use Rattle.sx_cell.specs.Kinds.{has_child}
use Rattle.sx_cell.specs.Reading.{cell_of}
use Rattle.sx_node.specs.declared.node.NodeFault.{NodeFault}
use Rattle.sx_node.specs.declared.node.NodeFault.TheVariants.{BadFlag, BadArray}

-- a b-tree page: its bytes, its number, how many of its bytes are in use, and its kind
pub record NodePage : Type 0 where
  pub page : List ℕ
  pub number : ℕ
  pub usable : ℕ
  pub kind : Kind

-- where the header begins: on page 1 behind the database header
unfoldable pub header_at : ℕ → ℕ
header_at number = if number == 1 then 100 else 0

-- the kind that the first byte of the header says
unfoldable pub kind_of : ℕ → Option Kind
kind_of flag =
    if flag == 2 then Some IndexInner
    else (if flag == 5 then Some TableInner
    else (if flag == 10 then Some IndexLeaf
    else (if flag == 13 then Some TableLeaf
    else None)))

-- how many bytes the header has
unfoldable pub header_len : Kind → ℕ
header_len kind = if has_child kind then 12 else 8

-- the offset of the first freeblock, or 0
unfoldable pub first_freeblock : NodePage → ℕ
first_freeblock node = two_bytes_at node.page (header_at node.number + 1)

-- how many cells the page has
unfoldable pub cell_count : NodePage → ℕ
cell_count node = two_bytes_at node.page (header_at node.number + 3)

-- where the cell content area begins: 0 stands for 65536
unfoldable pub content_start : NodePage → ℕ
content_start node =
    let stored = two_bytes_at node.page (header_at node.number + 5) in
    if stored == 0 then 65536 else stored

-- how many bytes of the cell content area are fragments, as the header says it
unfoldable pub fragment_bytes : NodePage → ℕ
fragment_bytes node = byte_at node.page (header_at node.number + 7)

-- the right-most child of an interior page
unfoldable pub right_child : NodePage → Option ℕ
right_child node = if has_child node.kind then Some (word_at node.page (header_at node.number + 8)) else None

-- where the cell pointer array begins
abbrev pub array_at : NodePage → ℕ
array_at node = header_at node.number + header_len node.kind

-- where it ends
abbrev pub array_end : NodePage → ℕ
array_end node = array_at node + 2 * cell_count node

-- the cell pointer of an index
unfoldable pub pointer_at : NodePage → ℕ → ℕ
pointer_at node index = two_bytes_at node.page (array_at node + 2 * index)

-- the cell of an index, or its fault
abbrev pub cell_in : NodePage → ℕ → Result Cell CellFault
cell_in node index = cell_of node.kind node.page (pointer_at node index) node.usable

-- the page, if its cell pointer array ends within the usable bytes
unfoldable pub with_array : NodePage → Result NodePage NodeFault
with_array node = if nat_lt node.usable (array_end node) then Err BadArray else Ok node

-- the page of that kind, if there is one
abbrev pub of_kind : List ℕ → ℕ → ℕ → Option Kind → Result NodePage NodeFault
of_kind page number usable None = Err BadFlag
of_kind page number usable (Some kind) = with_array (record { page = page; number = number; usable = usable; kind = kind })

-- the b-tree page that the bytes are, or why they are none
unfoldable pub node_of : List ℕ → ℕ → ℕ → Result NodePage NodeFault
node_of page number usable = of_kind page number usable (kind_of (byte_at page (header_at number)))

-- what holds of each b-tree page that was read
pub record HoldsArray (node : NodePage) : Type 0 where
  pub least : 480 ≤ node.usable
  pub within : node.usable ≤ length node.page
  pub small : length node.page ≤ 65536
  pub fits : array_end node ≤ node.usable

-- the b-tree page is one of these bytes with that number
pub record IsNodeOf (page : List ℕ) (number usable : ℕ) (node : NodePage) : Type 0 where
  pub same_page : node.page ≡ page
  pub same_number : node.number ≡ number
  pub same_usable : node.usable ≡ usable
  pub fits : array_end node ≤ usable
