-- What `page` prints of a page that is read as one of a b-tree: its header, its cells by index, its right-most child and
-- its freeblocks ("B-tree Pages").
use Rattle.std.specs.Prelude.{ℕ, ℤ, ◌+◌, List, [], ◌∷◌, ◌++◌, map, codes, Option, None, Some, Result, Ok, Err}
use Rattle.std.specs.Fmt.{decimal, signed_decimal}
use Rattle.std.specs.List.{range_with_len}
use Rattle.sx_base.specs.declared.evidence.Span.{Span}
use Rattle.sx_cell.specs.declared.cell.Kind.{Kind}
use Rattle.sx_cell.specs.declared.cell.Kind.TheVariants.{TableLeaf, TableInner, IndexLeaf, IndexInner}
use Rattle.sx_cell.specs.declared.cell.Cell.{Cell}
use Rattle.sx_cell.specs.declared.cell.CellFault.{CellFault}
use Rattle.sx_cell.specs.declared.cell.CellFault.TheVariants.{Outside, TooLong}
use Rattle.sx_node.specs.Nodes.{NodePage, cell_count, first_freeblock, content_start, fragment_bytes, right_child, pointer_at, cell_in}
use Rattle.sx_node.specs.Freeblocks.{freeblocks_of}
use Rattle.sx_node.specs.declared.node.NodeFault.{NodeFault}
use Rattle.sx_node.specs.declared.node.NodeFault.TheVariants.{BadFlag, BadArray}

-- the name of a kind of page
abbrev pub kind_name : Kind → List ℕ
kind_name TableLeaf = codes "leaftable"
kind_name TableInner = codes "innertable"
kind_name IndexLeaf = codes "leafindex"
kind_name IndexInner = codes "innerindex"

-- the line of bytes that are no b-tree page
abbrev pub node_fault_line : NodeFault → List ℕ
node_fault_line BadFlag = codes "node badflag"
node_fault_line BadArray = codes "node badarray"

-- the line of a header: the kind's name, the number of cells, the first freeblock, the start of the cell content area and
-- the fragment bytes
unfoldable pub header_text : List ℕ → ℕ → ℕ → ℕ → ℕ → List ℕ
header_text kind cells freeblock content fragments =
    codes "node "
    ++ kind
    ++ codes " cells "
    ++ decimal cells
    ++ codes " freeblock "
    ++ decimal freeblock
    ++ codes " content "
    ++ decimal content
    ++ codes " fragments "
    ++ decimal fragments

-- the line of a page's header
abbrev pub header_line : NodePage → List ℕ
header_line node = header_text (kind_name node.kind) (cell_count node) (first_freeblock node) (content_start node) (fragment_bytes node)

-- the child of a cell of an interior page
abbrev pub child_text : Option ℕ → List ℕ
child_text None = []
child_text (Some page) = codes " child " ++ decimal page

-- the length of a cell's payload, which the cells of interior table pages don't have
abbrev pub payload_text : Kind → ℕ → List ℕ
payload_text TableInner payload = []
payload_text kind payload = codes " payload " ++ decimal payload

-- the rowid of a cell of a table's leaf, and the key of one of its interior pages
abbrev pub key_text : Kind → Option ℤ → List ℕ
key_text TableLeaf (Some rowid) = codes " rowid " ++ signed_decimal rowid
key_text TableInner (Some key) = codes " key " ++ signed_decimal key
key_text kind key = []

-- the first overflow page of a cell whose payload is spilled
abbrev pub overflow_text : Option ℕ → List ℕ
overflow_text None = []
overflow_text (Some page) = codes " overflow " ++ decimal page

-- what is printed of a cell behind its place
abbrev pub cell_text : Kind → Result Cell CellFault → List ℕ
cell_text kind (Ok cell) =
    (codes " bytes " ++ decimal cell.len)
    ++ (child_text cell.child ++ (payload_text kind cell.payload ++ (key_text kind cell.rowid ++ overflow_text cell.overflow)))
cell_text kind (Err Outside) = codes " outside"
cell_text kind (Err TooLong) = codes " toolong"

-- the line of a cell, by its index from 0
unfoldable pub cell_line : NodePage → ℕ → List ℕ
cell_line node index =
    (codes "cell " ++ decimal index ++ codes " at " ++ decimal (pointer_at node index)) ++ cell_text node.kind (cell_in node index)

-- the line of the right-most child, on interior pages
abbrev pub right_lines : Option ℕ → List (List ℕ)
right_lines None = []
right_lines (Some page) = (codes "right " ++ decimal page) ∷ []

-- the line of a freeblock, by its number from 0
unfoldable pub block_line : ℕ → Span → List ℕ
block_line number block =
    codes "freeblock " ++ decimal number ++ codes " at " ++ decimal block.start ++ codes " bytes " ++ decimal block.len

-- the lines of freeblocks that are numbered from a number on
abbrev pub block_lines : ℕ → List Span → List (List ℕ)
block_lines number [] = []
block_lines number (block ∷ blocks) = block_line number block ∷ block_lines (number + 1) blocks

-- the lines of the cells, by their indexes
abbrev pub cell_lines : NodePage → List (List ℕ)
cell_lines node = map (cell_line node) (range_with_len 0 (cell_count node))

-- the lines of a page that is read as one of a b-tree: its header, its cells, its right-most child and its freeblocks
abbrev pub node_lines : Result NodePage NodeFault → List (List ℕ)
node_lines (Ok node) = header_line node ∷ cell_lines node ++ (right_lines (right_child node) ++ block_lines 0 (freeblocks_of node))
node_lines (Err fault) = node_fault_line fault ∷ []
