-- The claims of a b-tree page, taken one after the other: where they lie and how many they are.
use Rattle.std.proofs.Common.{◌≡◌, ℕ, zero, suc, ◌+◌, ◌-◌, ◌*◌, ◌^◌, ◌<◌, ◌≤◌, ◌==◌, Bool, true, false, cond, List, [], ◌∷◌, ◌++◌, length, All, Result, Ok, Err, refl, ap, ◌∙◌, arith}
use Rattle.std.specs.List.{AllByRecursion, flat_map, range_with_len}
use Rattle.std.proofs.lemmas.Bool.{eqb-false}
use Rattle.std.proofs.lemmas.Bool.Decides.{nat_tests}
use Rattle.std.proofs.lemmas.List.{length-append}
use Rattle.std.proofs.lemmas.List.Elements.{All-from_recursion}
use Rattle.sx_base.specs.declared.evidence.Span.{Span}
use Rattle.sx_base.specs.declared.label.Label.{Label}
use Rattle.sx_base.specs.declared.label.Label.TheVariants.{DbHeader, NodeHeader, Pointers, Cell as CellLabel}
use Rattle.sx_cell.specs.declared.cell.Kind.{Kind}
use Rattle.sx_cell.specs.declared.cell.Cell.{Cell}
use Rattle.sx_cell.specs.declared.cell.CellFault.{CellFault}
use Rattle.sx_cell.specs.Kinds.{has_child}
use Rattle.sx_cell.proofs.CellLemmas.{has_ranges}
use Rattle.sx_node.specs.Nodes.{NodePage, HoldsArray, header_at, header_len, first_freeblock, cell_count, array_at, pointer_at, cell_in}
use Rattle.sx_node.specs.Freeblocks.{freeblocks_of}
use Rattle.sx_node.specs.Claims.{Claim, claim, database_claims, header_claims, array_claims, cell_claim, cell_claims_from, block_claims_from, claims_of, LiesWithin}
use Rattle.sx_node.proofs.Walks.{IsBlock, blocks_within, few_blocks}

-- behind the last index there are none
pub no_cells : (node : NodePage) (index : ℕ) → cell_count node ≤ index → cell_claims_from node index ≡ []
unfolding cell_claims_from
no_cells node index past =
    let none : cell_count node - index ≡ 0 = omega arith in
    ap (λ many. flat_map (λ i. cell_claim i (cell_in node i)) (range_with_len index many)) none

-- the claim of one cell, and those behind it
more_cells : (node : NodePage) (index : ℕ) → index < cell_count node
    → cell_claims_from node index ≡ cell_claim index (cell_in node index) ++ cell_claims_from node (index + 1)
unfolding cell_claims_from
more_cells node index below =
    let one : cell_count node - index ≡ suc (cell_count node - (index + 1)) = omega arith in
    ap (λ many. flat_map (λ i. cell_claim i (cell_in node i)) (range_with_len index many)) one

pub one_cell : (node : NodePage) (index : ℕ) (cell : Cell) → index < cell_count node → cell_in node index ≡ Ok cell
    → cell_claims_from node index ≡ claim cell.at cell.len (CellLabel index) ∷ cell_claims_from node (index + 1)
one_cell node index cell below is =
    more_cells node index below ∙ ap (λ read. cell_claim index read ++ cell_claims_from node (index + 1)) is

pub skipped_cell : (node : NodePage) (index : ℕ) (fault : CellFault) → index < cell_count node → cell_in node index ≡ Err fault
    → cell_claims_from node index ≡ cell_claims_from node (index + 1)
skipped_cell node index fault below is =
    more_cells node index below ∙ ap (λ read. cell_claim index read ++ cell_claims_from node (index + 1)) is

-- ---- where claims lie

-- what holds of each element, by recursion on the list
abbrev Each : ℕ → List Claim → Type 0
Each usable claims = AllByRecursion (LiesWithin usable) claims

both_lie : (usable : ℕ) (some others : List Claim) → Each usable some → Each usable others → Each usable (some ++ others)
both_lie usable [] others first second = second
both_lie usable (one ∷ some) others first second = (first.0, both_lie usable some others first.1 second)

one_lies : (usable start len : ℕ) (label : Label) → 0 < len → start + len ≤ usable → Each usable (claim start len label ∷ [])
one_lies usable start len label some within = (record { some = some; within = within }, tt)

if_lies : (usable : ℕ) (there : Bool) (claims : List Claim) → Each usable claims → Each usable (cond there claims [])
if_lies usable true claims all = all
if_lies usable false claims all = tt

unless_lies : (usable : ℕ) (none : Bool) (claims : List Claim) → (none ≡ false → Each usable claims) → Each usable (cond none [] claims)
unless_lies usable true claims all = tt
unless_lies usable false claims all = all refl

header_within : (number : ℕ) → header_at number ≤ 100
unfolding header_at
header_within number = grind (arith, nat_tests)

len_case : (b : Bool) → (8 ≤ cond b 12 8) × (cond b 12 8 ≤ 12)
len_case true = (omega arith, omega arith)
len_case false = (omega arith, omega arith)

header_some : (kind : Kind) → (8 ≤ header_len kind) × (header_len kind ≤ 12)
unfolding header_len
header_some kind = len_case (has_child kind)

fixed_lie : (node : NodePage) → HoldsArray node → Each node.usable (database_claims node ++ (header_claims node ++ array_claims node))
fixed_lie node holds =
    let begins = header_within node.number in
    let long = header_some node.kind in
    let usable = node.usable in
    let database = if_lies usable (node.number == 1) (claim 0 100 DbHeader ∷ [])
    (one_lies usable 0 100 DbHeader (omega arith) (omega (arith, holds.least))) in
    let header = one_lies usable (header_at node.number) (header_len node.kind) NodeHeader (omega (arith, long.0)) (omega (arith, long.1, begins, holds.least)) in
    let array = unless_lies usable (cell_count node == 0) (claim (array_at node) (2 * cell_count node) Pointers ∷ [])
    (λ some. one_lies usable (array_at node) (2 * cell_count node) Pointers (let other = eqb-false (cell_count node) 0 some in omega (arith, other)) holds.fits) in
    both_lie usable (database_claims node) (header_claims node ++ array_claims node) database
    (both_lie usable (header_claims node) (array_claims node) header array)

cell_lies : (node : NodePage) (index : ℕ) (read : Result Cell CellFault) → HoldsArray node → cell_in node index ≡ read
    → Each node.usable (cell_claim index read)
cell_lies node index (Ok cell) holds is =
    let ranges = has_ranges node.kind node.page (pointer_at node index) node.usable cell holds.least holds.within is in
    one_lies node.usable cell.at cell.len (CellLabel index) (omega (arith, ranges.least)) ranges.owned
cell_lies node index (Err fault) holds is = tt

cells_lie : (node : NodePage) (many index : ℕ) → HoldsArray node
    → Each node.usable (flat_map (λ i. cell_claim i (cell_in node i)) (range_with_len index many))
cells_lie node zero index holds = tt
cells_lie node (suc many) index holds =
    both_lie node.usable (cell_claim index (cell_in node index)) _
    (cell_lies node index (cell_in node index) holds refl)
    (cells_lie node many (index + 1) holds)

blocks_lie : (usable number : ℕ) (blocks : List Span) → AllByRecursion (IsBlock usable) blocks → Each usable (block_claims_from number blocks)
blocks_lie usable number [] all = tt
blocks_lie usable number (block ∷ blocks) all =
    (record { some = omega (arith, all.0.0); within = all.0.1 }, blocks_lie usable (number + 1) blocks all.1)

-- each claim has some bytes and ends within the usable ones
pub claims_lie : (node : NodePage) → HoldsArray node → All (LiesWithin node.usable) (claims_of node)
unfolding cell_claims_from
claims_lie node holds =
    let usable = node.usable in
    let cells = cells_lie node (cell_count node - 0) 0 holds in
    let blocks = blocks_lie usable 0 (freeblocks_of node) (blocks_within node.page usable (first_freeblock node)) in
    All-from_recursion (LiesWithin usable) (claims_of node)
    (both_lie usable (database_claims node ++ (header_claims node ++ array_claims node)) _
    (fixed_lie node holds)
    (both_lie usable (cell_claims_from node 0) (block_claims_from 0 (freeblocks_of node)) cells blocks))

-- ---- how many there are

few_if : (b : Bool) (one : Claim) → length (cond b (one ∷ []) []) ≤ 1
few_if true one = omega arith
few_if false one = omega arith

few_unless : (b : Bool) (one : Claim) → length (cond b [] (one ∷ [])) ≤ 1
few_unless true one = omega arith
few_unless false one = omega arith

few_cell : (index : ℕ) (read : Result Cell CellFault) → length (cell_claim index read) ≤ 1
few_cell index (Ok cell) = omega arith
few_cell index (Err fault) = omega arith

few_cells : (node : NodePage) (many index : ℕ) → length (flat_map (λ i. cell_claim i (cell_in node i)) (range_with_len index many)) ≤ many
few_cells node zero index = omega arith
few_cells node (suc many) index =
    let first = few_cell index (cell_in node index) in
    let others = few_cells node many (index + 1) in
    simp length-append (omega (arith, first, others))

length-blocks : (number : ℕ) (blocks : List Span) → length (block_claims_from number blocks) ≡ length blocks
length-blocks number [] = refl
length-blocks number (block ∷ blocks) = ap suc (length-blocks (number + 1) blocks)

pub few_claims : (node : NodePage) → HoldsArray node → length (claims_of node) < 2 ^ 32
unfolding cell_claims_from
few_claims node holds =
    let database = few_if (node.number == 1) (claim 0 100 DbHeader) in
    let array = few_unless (cell_count node == 0) (claim (array_at node) (2 * cell_count node) Pointers) in
    let cells = few_cells node (cell_count node - 0) 0 in
    let blocks = length-blocks 0 (freeblocks_of node) in
    let few = few_blocks node.page node.usable (first_freeblock node) in
    simp length-append (omega (arith, database, array, cells, blocks, few, holds.fits, holds.within, holds.small))
