-- What of a b-tree page is claimed: spans with labels, in a fixed order and without merging ("B-tree Pages").
use Rattle.std.specs.Prelude.{ℕ, ◌+◌, ◌-◌, ◌*◌, ◌<◌, ◌≤◌, ◌==◌, if◌then◌else◌, List, [], ◌∷◌, ◌++◌, map, Result, Ok, Err}
use Rattle.std.specs.List.{flat_map, range_with_len, enumerate_from}
use Rattle.sx_base.specs.declared.evidence.Span.{Span}
use Rattle.sx_base.specs.declared.label.Label.{Label}
use Rattle.sx_base.specs.declared.label.Label.TheVariants.{DbHeader, NodeHeader, Pointers, Cell as CellLabel, Freeblock}
use Rattle.sx_cell.specs.declared.cell.Cell.{Cell}
use Rattle.sx_cell.specs.declared.cell.CellFault.{CellFault}
use Rattle.sx_node.specs.Nodes.{NodePage, header_at, header_len, cell_count, array_at, cell_in}
use Rattle.sx_node.specs.Freeblocks.{freeblocks_of}

-- a span and what it is
abbrev pub Claim : Type 0
Claim = Span × Label

abbrev pub claim : ℕ → ℕ → Label → Claim
claim start len label = (record { start = start; len = len }, label)

-- on page 1 the database header
abbrev pub database_claims : NodePage → List Claim
database_claims node = if node.number == 1 then claim 0 100 DbHeader ∷ [] else []

-- the page's own header
abbrev pub header_claims : NodePage → List Claim
header_claims node = claim (header_at node.number) (header_len node.kind) NodeHeader ∷ []

-- the cell pointer array, where there are cells
abbrev pub array_claims : NodePage → List Claim
array_claims node = if cell_count node == 0 then [] else claim (array_at node) (2 * cell_count node) Pointers ∷ []

-- the bytes that a cell owns, if it can be read
abbrev pub cell_claim : ℕ → Result Cell CellFault → List Claim
cell_claim index (Ok cell) = claim cell.at cell.len (CellLabel index) ∷ []
cell_claim index (Err fault) = []

-- the cells that can be read, in the order of the cell pointer array from an index on
unfoldable pub cell_claims_from : NodePage → ℕ → List Claim
cell_claims_from node index =
    flat_map (λ i. cell_claim i (cell_in node i)) (range_with_len index (cell_count node - index))

-- blocks, numbered from a number on
abbrev pub block_claims_from : ℕ → List Span → List Claim
block_claims_from number blocks = map (λ block. (block.1, Freeblock block.0)) (enumerate_from number blocks)

-- all claims of a page
abbrev pub claims_of : NodePage → List Claim
claims_of node =
    (database_claims node ++ (header_claims node ++ array_claims node))
    ++ (cell_claims_from node 0 ++ block_claims_from 0 (freeblocks_of node))

-- the claim has some bytes, and ends within the usable ones
pub record LiesWithin (usable : ℕ) (one : Claim) : Type 0 where
  pub some : 0 < one.0.len
  pub within : one.0.start + one.0.len ≤ usable
