-- Such a tree says the same of a rowid: the same rows have it, and as many items are faults.
use Rattle.std.proofs.Common.{◌≡◌, ℕ, ℤ, zero, suc, ◌+◌, ◌-◌, ◌≤◌, ◌<◌, inl, inr, Bool, true, false, if◌then◌else◌, cond, List, [], ◌∷◌, ◌++◌, length, nat_le, nat_lt, Option, Some, None, Result, Ok, Err, refl, sym, ap, subst, ◌∙◌, arith, append-nil}
use Rattle.std.specs.Prelude.{IsTrue, IsSome}
use Rattle.std.specs.List.{flat_map, filter_map, count_by, cons_option, range_with_len, AllByRecursion}
use Rattle.std.proofs.lemmas.Bool.Decides.{nat_tests}
use Rattle.std.proofs.lemmas.Grind.{flat_map-append}
use Rattle.std.proofs.lemmas.List.Elements.{filter_map-append, recursion_from_All}
use Rattle.std.proofs.lemmas.List.Sums.{sum_by-append, sum_by-cons}
use Rattle.sx_cell.specs.declared.cell.Kind.{Kind}
use Rattle.sx_cell.specs.declared.cell.Kind.TheVariants.{TableLeaf, TableInner, IndexLeaf, IndexInner}
use Rattle.sx_cell.specs.declared.cell.Cell.{Cell}
use Rattle.sx_cell.specs.declared.cell.CellFault.{CellFault}
use Rattle.sx_cell.specs.Kinds.{has_child}
use Rattle.sx_cell.specs.Local.{spilled}
use Rattle.sx_cell.proofs.CellLemmas.{has_ranges}
use Rattle.sx_node.specs.Nodes.{NodePage, node_of, cell_count, cell_in, pointer_at, right_child}
use Rattle.sx_node.specs.Targets.{targets_of, cell_targets, cell_targets_from, child_target, overflow_target, right_target}
use Rattle.sx_tree.specs.declared.item.RowItem.{RowItem}
use Rattle.sx_tree.specs.declared.item.RowItem.TheVariants.{Row, Fault}
use Rattle.sx_tree.specs.declared.item.TreeFault.{TreeFault}
use Rattle.sx_tree.specs.declared.item.TreeFault.TheVariants.{BadCell, DoubleClaim, OtherKind}
use Rattle.sx_tree.specs.declared.parts.Part.{Part}
use Rattle.sx_tree.specs.declared.parts.Part.TheVariants.{Item, Child}
use Rattle.sx_tree.specs.Parts.{cell_parts, child_parts, row_parts, parts_of_cells, parts_of}
use Rattle.sx_tree.specs.Trees.{tree_in, references, held_count}
use Rattle.sx_tree.specs.Rows.{opened, page_in, root_kind, sound_node, is_other_kind, part_items, page_items, items_of, rows_of}
use Rattle.sx_tree.proofs.Ways.{open_is}
use Rattle.sx_row.specs.Rows.{RowContent, row_of, page_row, node_row, cell_row, columns_of}
use Rattle.sx_history.specs.declared.found.Found.{Found}
use Rattle.sx_history.specs.History.{item_found, is_faulty, row_found, row_faulty, found_of, faults_of}
use Rattle.sx_history.specs.Leaves.{local_row, IsLocal, IsLeaf, LeafSays, SaySame, StaysLeaf, leaf_found, leaf_faults}
use Rattle.sx_history.specs.Closed.{AreAlike, IsNamed}
use Rattle.sx_history.specs.Reading.{item_row}
use Rattle.sx_history.proofs.SameRows.{held_same, chain_same, payload_same, local_is}
use Rattle.sx_history.proofs.Trees.{all_append, all_front, all_back, read_is, opened_by, count_same}

-- ---- the row of a cell

below_true : (a b : ℕ) → a < b → nat_lt a b ≡ true
below_true a b is = grind (arith, nat_tests)

pub row_here : (size : ℕ) (view : ℕ → Option (List ℕ)) (usable number index : ℕ) (page : List ℕ) (node : NodePage) → view number ≡ Some page
    → node_of page number usable ≡ Ok node → index < cell_count node → row_of size view usable number index ≡ cell_row size view usable node.page (cell_in node index)
unfolding row_of
row_here size view usable number index page node is read within =
    ap (page_row size view usable number index) is
    ∙ ap (node_row size view usable index) read
    ∙ ap (λ b. if b then cell_row size view usable node.page (cell_in node index) else None) (below_true index (cell_count node) within)

-- ---- a leaf

abbrev leaf_item : ℕ → ℕ → Result Cell CellFault → RowItem
leaf_item number index (Ok cell) = Row number index
leaf_item number index (Err fault) = Fault BadCell number index

child_none : (child : Option ℕ) (leaf : Bool) → leaf ≡ false → (IsSome child → IsTrue leaf) → child ≡ None
child_none None leaf is child = refl
child_none (Some n) leaf is child = let clash : true ≡ false = sym (child refl) ∙ is in cc

row_case : (kind : Kind) (number index : ℕ) → has_child kind ≡ false → row_parts kind number index ≡ Item (Row number index) ∷ []
row_case TableLeaf number index leaf = refl
row_case TableInner number index leaf = let clash : true ≡ false = leaf in cc
row_case IndexLeaf number index leaf = refl
row_case IndexInner number index leaf = let clash : true ≡ false = leaf in cc

cell_item : (node : NodePage) (index : ℕ) (read : Result Cell CellFault) → 480 ≤ node.usable → node.usable ≤ length node.page
    → has_child node.kind ≡ false → cell_in node index ≡ read → cell_parts node.kind node.number index read ≡ Item (leaf_item node.number index read) ∷ []
cell_item node index (Err fault) least within leaf is = refl
cell_item node index (Ok cell) least within leaf is =
    let ranges = has_ranges node.kind node.page (pointer_at node index) node.usable cell least within is in
    ap (λ child. child_parts child ++ row_parts node.kind node.number index) (child_none cell.child (has_child node.kind) leaf (λ some. ranges.child.0 some))
    ∙ row_case node.kind node.number index leaf

right_none : (node : NodePage) → has_child node.kind ≡ false → right_child node ≡ None
unfolding right_child
right_none node leaf = rw leaf refl

module _ (size : ℕ) (view : ℕ → Option (List ℕ)) (usable : ℕ) (rowid : ℤ) (page : List ℕ) (node : NodePage) (is : view node.number ≡ Some page)
    (read : node_of page node.number usable ≡ Ok node) (same_usable : node.usable ≡ usable) (least : 480 ≤ node.usable) (within : node.usable ≤ length node.page) (leaf : IsLeaf node) where
  abbrev make : RowItem → Option Found
  make = item_found size view usable rowid

  abbrev test : RowItem → Bool
  test = is_faulty size view usable

  abbrev local_at : ℕ → Option RowContent
  local_at i = local_row node.page (cell_in node i)

  row_local : (index : ℕ) (found : Result Cell CellFault) → index < cell_count node → cell_in node index ≡ found → IsLocal found
      → cell_row size view usable node.page found ≡ local_row node.page found
  row_local index (Err fault) below at local = refl
  row_local index (Ok cell) below at local =
      ap (λ payload. Some (record { rowid = cell.rowid; columns = columns_of payload })) (local_is size view usable node.page cell local)

  row_is : (index : ℕ) → index < cell_count node → row_of size view usable node.number index ≡ local_at index
  row_is index below =
      row_here size view usable node.number index page node is read below
      ∙ row_local index (cell_in node index) below refl (leaf.local index below)

  made_case : (index : ℕ) (found : Result Cell CellFault) → cell_in node index ≡ found → row_of size view usable node.number index ≡ local_row node.page found
      → (make (leaf_item node.number index found) ≡ row_found rowid node.number index (local_row node.page found)) × (test (leaf_item node.number index found) ≡ row_faulty (local_row node.page found))
  made_case index (Err fault) at row = (refl, refl)
  made_case index (Ok cell) at row = (ap (row_found rowid node.number index) row, ap row_faulty row)

  made : (index : ℕ) → index < cell_count node
      → (make (leaf_item node.number index (cell_in node index)) ≡ row_found rowid node.number index (local_at index)) × (test (leaf_item node.number index (cell_in node index)) ≡ row_faulty (local_at index))
  made index below = made_case index (cell_in node index) refl (row_is index below)

  abbrev cells : ℕ → ℕ → List Part
  cells index many = flat_map (λ i. cell_parts node.kind node.number i (cell_in node i)) (range_with_len index many)

  cells_are : (below : ℕ → List RowItem) (many index : ℕ)
      → flat_map (part_items below) (cells index (suc many)) ≡ leaf_item node.number index (cell_in node index) ∷ flat_map (part_items below) (cells (index + 1) many)
  cells_are below many index =
      ap (λ l. flat_map (part_items below) (l ++ cells (index + 1) many)) (cell_item node index (cell_in node index) least within leaf.leaf refl)

  cells_found : (below : ℕ → List RowItem) (many index : ℕ) → index + many ≤ cell_count node
      → filter_map make (flat_map (part_items below) (cells index many)) ≡ filter_map (λ i. row_found rowid node.number i (local_at i)) (range_with_len index many)
  cells_found below zero index few = refl
  cells_found below (suc many) index few =
      ap (filter_map make) (cells_are below many index)
      ∙ ap (λ one. cons_option one (filter_map make (flat_map (part_items below) (cells (index + 1) many)))) (made index (omega (arith, few))).0
      ∙ ap (cons_option (row_found rowid node.number index (local_at index))) (cells_found below many (index + 1) (omega (arith, few)))

  cells_faulty : (below : ℕ → List RowItem) (many index : ℕ) → index + many ≤ cell_count node
      → count_by test (flat_map (part_items below) (cells index many)) ≡ count_by (λ i. row_faulty (local_at i)) (range_with_len index many)
  cells_faulty below zero index few = refl
  cells_faulty below (suc many) index few =
      let item = leaf_item node.number index (cell_in node index) in
      let rest = flat_map (part_items below) (cells (index + 1) many) in
      ap (count_by test) (cells_are below many index)
      ∙ sum_by-cons (λ one. cond (test one) 1 0) item rest
      ∙ ap (λ b. cond b 1 0 + count_by test rest) (made index (omega (arith, few))).1
      ∙ ap (λ n. cond (row_faulty (local_at index)) 1 0 + n) (cells_faulty below many (index + 1) (omega (arith, few)))
      ∙ sym (sum_by-cons (λ i. cond (row_faulty (local_at i)) 1 0) index (range_with_len (index + 1) many))

  parts_are : (below : ℕ → List RowItem) → flat_map (part_items below) (parts_of node) ≡ flat_map (part_items below) (cells 0 (cell_count node - 0))
  unfolding parts_of_cells
  parts_are below =
      flat_map-append (part_items below) (parts_of_cells node 0) (child_parts (right_child node))
      ∙ ap (λ right. flat_map (part_items below) (parts_of_cells node 0) ++ flat_map (part_items below) (child_parts right)) (right_none node leaf.leaf)
      ∙ append-nil (flat_map (part_items below) (cells 0 (cell_count node - 0)))

  pub leaf_says : (below : ℕ → List RowItem)
      → (filter_map make (flat_map (part_items below) (parts_of node)) ≡ leaf_found rowid node 0) × (count_by test (flat_map (part_items below) (parts_of node)) ≡ leaf_faults node 0)
  unfolding leaf_found leaf_faults
  leaf_says below = (
    ap (filter_map make) (parts_are below) ∙ cells_found below (cell_count node - 0) 0 (omega arith),
    ap (count_by test) (parts_are below) ∙ cells_faulty below (cell_count node - 0) 0 (omega arith),
  )

-- ---- two trees

module _ (size usable root : ℕ) (rowid : ℤ) (view next : ℕ → Option (List ℕ)) (Node Chain : ℕ → Type 0) (law : AreAlike usable root rowid view next Node Chain) where
  abbrev make_before : RowItem → Option Found
  make_before = item_found size view usable rowid

  abbrev make_now : RowItem → Option Found
  make_now = item_found size next usable rowid

  abbrev test_before : RowItem → Bool
  test_before = is_faulty size view usable

  abbrev test_now : RowItem → Bool
  test_now = is_faulty size next usable

  -- the items of the one tree say what those of the other do
  abbrev AreSame : List RowItem → List RowItem → Type 0
  AreSame items others = (filter_map make_now others ≡ filter_map make_before items) × (count_by test_now others ≡ count_by test_before items)

  both_same : (items others more rest : List RowItem) → AreSame items others → AreSame more rest → AreSame (items ++ more) (others ++ rest)
  both_same items others more rest front back = (
    filter_map-append make_now others rest
        ∙ ap (λ l. l ++ filter_map make_now rest) front.0
        ∙ ap (λ l. filter_map make_before items ++ l) back.0
        ∙ sym (filter_map-append make_before items more),
    sum_by-append (λ one. cond (test_now one) 1 0) others rest
        ∙ ap (λ n. n + count_by test_now rest) front.1
        ∙ ap (λ n. count_by test_before items + n) back.1
        ∙ sym (sum_by-append (λ one. cond (test_before one) 1 0) items more),
  )

  -- what holds of the parts of a page that has the same view
  -- a part leads to the same rows
  abbrev pub PartStands : Part → Type 0
  PartStands (Item item) = item_row size next usable item ≡ item_row size view usable item
  PartStands (Child child) = Node child

  item_says : (item : RowItem) → item_row size next usable item ≡ item_row size view usable item → (make_now item ≡ make_before item) × (test_now item ≡ test_before item)
  item_says (Row page cell) same = (ap (row_found rowid page cell) same, ap row_faulty same)
  item_says (Fault kind page cell) same = (refl, refl)

  parts_same : (below above : ℕ → List RowItem) → ((child : ℕ) → Node child → AreSame (below child) (above child)) → (parts : List Part) → AllByRecursion PartStands parts
      → AreSame (flat_map (part_items below) parts) (flat_map (part_items above) parts)
  parts_same below above same [] all = (refl, refl)
  parts_same below above same (Item item ∷ parts) all =
      let says = item_says item all.0 in
      both_same (item ∷ []) (item ∷ []) (flat_map (part_items below) parts) (flat_map (part_items above) parts)
      (ap (λ one. cons_option one []) says.0, ap (λ b. 0 + cond b 1 0) says.1) (parts_same below above same parts all.1)
  parts_same below above same (Child child ∷ parts) all =
      both_same (below child) (above child) (flat_map (part_items below) parts) (flat_map (part_items above) parts) (same child all.0) (parts_same below above same parts all.1)

  module _ (n : ℕ) (page : List ℕ) (node : NodePage) (there : Node n) (is : view n ≡ Some page) (still : next n ≡ view n) (read : node_of page n usable ≡ Ok node) where
    row_case_same : (found : Result Cell CellFault) → ((cell : Cell) → found ≡ Ok cell → (first : ℕ) → cell.overflow ≡ Some first → Chain first)
        → cell_row size next usable node.page found ≡ cell_row size view usable node.page found
    row_case_same (Err fault) chained = refl
    row_case_same (Ok cell) chained =
        ap (λ payload. Some (record { rowid = cell.rowid; columns = columns_of payload }))
        (payload_same size view next usable node.page cell (held_same size view next law.steady.held)
        (λ many. chain_same view next Chain law.closed.chains law.steady.chain many cell.overflow (chained cell refl)))

    row_same : (index : ℕ) → index < cell_count node → ((cell : Cell) → cell_in node index ≡ Ok cell → (first : ℕ) → cell.overflow ≡ Some first → Chain first)
        → row_of size next usable node.number index ≡ row_of size view usable node.number index
    row_same index below chained =
        subst (λ k. row_of size next usable k index ≡ row_of size view usable k index) (sym (read_is page n usable node read).same_number)
        (row_here size next usable n index page node (still ∙ is) read below
        ∙ row_case_same (cell_in node index) chained
        ∙ sym (row_here size view usable n index page node is read below))

    child_stands : (index : ℕ) (child : Option ℕ) → AllByRecursion (IsNamed Node Chain) (child_target index child) → AllByRecursion PartStands (child_parts child)
    child_stands index None all = tt
    child_stands index (Some child) all = (all.0, tt)

    row_stands : (kind : Kind) (number index : ℕ) → row_of size next usable number index ≡ row_of size view usable number index → AllByRecursion PartStands (row_parts kind number index)
    row_stands TableLeaf number index same = (same, tt)
    row_stands TableInner number index same = tt
    row_stands IndexLeaf number index same = (same, tt)
    row_stands IndexInner number index same = (same, tt)

    first_there : (index rest : ℕ) (overflow : Option ℕ) (first : ℕ) → overflow ≡ Some first → AllByRecursion (IsNamed Node Chain) (overflow_target index rest overflow) → Chain first
    first_there index rest None first at all = let clash : None ≡ Some first = at in absurd cc
    first_there index rest (Some page) first at all = let same : page ≡ first = cc in subst Chain same all.0

    cell_first : (index : ℕ) (found : Result Cell CellFault) (cell : Cell) (first : ℕ) → found ≡ Ok cell → cell.overflow ≡ Some first
        → AllByRecursion (IsNamed Node Chain) (cell_targets index found) → Chain first
    cell_first index (Err fault) cell first at some all = let clash : Err fault ≡ Ok cell = at in absurd cc
    cell_first index (Ok own) cell first at some all =
        let same : own ≡ cell = cc in
        first_there index (spilled own) own.overflow first (ap (λ c. c.overflow) same ∙ some)
        (all_back (IsNamed Node Chain) (child_target index own.child) (overflow_target index (spilled own) own.overflow) all)

    cell_stands : (index : ℕ) (found : Result Cell CellFault) → cell_in node index ≡ found → AllByRecursion (IsNamed Node Chain) (cell_targets index found)
        → row_of size next usable node.number index ≡ row_of size view usable node.number index → AllByRecursion PartStands (cell_parts node.kind node.number index found)
    cell_stands index (Err fault) at all same = (refl, tt)
    cell_stands index (Ok cell) at all same =
        all_append PartStands (child_parts cell.child) (row_parts node.kind node.number index)
        (child_stands index cell.child (all_front (IsNamed Node Chain) (child_target index cell.child) (overflow_target index (spilled cell) cell.overflow) all))
        (row_stands node.kind node.number index same)

    cells_stand : (many index : ℕ) → index + many ≤ cell_count node → AllByRecursion (IsNamed Node Chain) (flat_map (λ i. cell_targets i (cell_in node i)) (range_with_len index many))
        → AllByRecursion PartStands (flat_map (λ i. cell_parts node.kind node.number i (cell_in node i)) (range_with_len index many))
    cells_stand zero index few all = tt
    cells_stand (suc many) index few all =
        let rest = flat_map (λ i. cell_targets i (cell_in node i)) (range_with_len (index + 1) many) in
        let front = all_front (IsNamed Node Chain) (cell_targets index (cell_in node index)) rest all in
        all_append PartStands (cell_parts node.kind node.number index (cell_in node index)) (flat_map (λ i. cell_parts node.kind node.number i (cell_in node i)) (range_with_len (index + 1) many))
        (cell_stands index (cell_in node index) refl front (row_same index (omega (arith, few)) (λ cell at first some. cell_first index (cell_in node index) cell first at some front)))
        (cells_stand many (index + 1) (omega (arith, few)) (all_back (IsNamed Node Chain) (cell_targets index (cell_in node index)) rest all))

    right_stands : (right : Option ℕ) → AllByRecursion (IsNamed Node Chain) (right_target right) → AllByRecursion PartStands (child_parts right)
    right_stands None all = tt
    right_stands (Some child) all = (all.0, tt)

    pub all_stand : AllByRecursion PartStands (parts_of node)
    unfolding parts_of_cells cell_targets_from
    all_stand =
        let all = recursion_from_All (IsNamed Node Chain) (targets_of node) (law.closed.nodes n there page node is read) in
        all_append PartStands (parts_of_cells node 0) (child_parts (right_child node))
        (cells_stand (cell_count node - 0) 0 (omega arith) (all_front (IsNamed Node Chain) (cell_targets_from node 0) (right_target (right_child node)) all))
        (right_stands (right_child node) (all_back (IsNamed Node Chain) (cell_targets_from node 0) (right_target (right_child node)) all))

  -- ---- a page that has the same view
  same_case : (below above : ℕ → List RowItem) → ((child : ℕ) → Node child → AreSame (below child) (above child)) → (n : ℕ) → Node n → next n ≡ view n
      → (found : Result NodePage TreeFault) → opened (tree_in size view usable root) n ≡ found → AreSame (page_items below n found) (page_items above n found)
  same_case below above same n there still (Err kind) is = (refl, refl)
  same_case below above same n there still (Ok node) is =
      let open_ = open_is (tree_in size view usable root) n node is in
      parts_same below above same (parts_of node) (all_stand n open_.page node there open_.view still open_.read)

  -- a page that has the same view is opened alike
  pub opened_same : (n : ℕ) → next n ≡ view n → opened (tree_in size next usable root) n ≡ opened (tree_in size view usable root) n
  unfolding opened
  opened_same n still =
      opened_by size usable root rowid view next Node Chain law n
      ∙ ap (λ v. page_in usable (root_kind (tree_in size view usable root)) (nat_le 2 (references (tree_in size view usable root) n)) n v) still

  -- ---- a leaf that says the same
  one_leaf : (every : ℕ → Option (List ℕ)) (below : ℕ → List RowItem) (n : ℕ) (page : List ℕ) (kind : Kind) (found : List Found) (faults : ℕ) → every n ≡ Some page
      → usable ≤ length page → (says : LeafSays usable n rowid page kind found faults)
      → (filter_map (item_found size every usable rowid) (flat_map (part_items below) (parts_of says.node)) ≡ found)
      × (count_by (is_faulty size every usable) (flat_map (part_items below) (parts_of says.node)) ≡ faults)
  one_leaf every below n page kind found faults is within says =
      let of_ = read_is page n usable says.node says.read in
      let there : every says.node.number ≡ Some page = ap every of_.same_number ∙ is in
      let read : node_of page says.node.number usable ≡ Ok says.node = ap (λ k. node_of page k usable) of_.same_number ∙ says.read in
      let both = leaf_says size every usable rowid page says.node there read of_.same_usable (omega (arith, law.least, of_.same_usable))
      (omega (arith, within, of_.same_usable, ap length of_.same_page)) says.leaf below in
      (both.0 ∙ sym says.found_is, both.1 ∙ sym says.faults_are)

  two_leaves : (below above : ℕ → List RowItem) (n : ℕ) (page other : List ℕ) → view n ≡ Some page → next n ≡ Some other → (same : SaySame usable n rowid page other)
      → AreSame (flat_map (part_items below) (parts_of same.said.node)) (flat_map (part_items above) (parts_of same.says.node))
  two_leaves below above n page other is now_is same =
      let old = one_leaf view below n page same.kind same.found same.faults is (law.room n page is) same.said in
      let new = one_leaf next above n other same.kind same.found same.faults now_is (law.room_now n other now_is) same.says in
      (new.0 ∙ sym old.0, new.1 ∙ sym old.1)

  gate_case : (below above : ℕ → List RowItem) (n : ℕ) (shared differs : Bool) (node other : NodePage)
      → AreSame (flat_map (part_items below) (parts_of node)) (flat_map (part_items above) (parts_of other))
      → AreSame (page_items below n (if shared then Err DoubleClaim else (if differs then Err OtherKind else Ok node)))
      (page_items above n (if shared then Err DoubleClaim else (if differs then Err OtherKind else Ok other)))
  gate_case below above n true differs node other same = (refl, refl)
  gate_case below above n false true node other same = (refl, refl)
  gate_case below above n false false node other same = same

  -- what a page that was read leads to, where its kind is known
  page_by : (kind : Option Kind) (shared : Bool) (n : ℕ) (page : List ℕ) (own : Kind) (node : NodePage) → node_of page n usable ≡ Ok node → own ≡ node.kind
      → page_in usable kind shared n (Some page) ≡ (if shared then Err DoubleClaim else (if is_other_kind kind own then Err OtherKind else Ok node))
  page_by kind shared n page own node read is =
      ap (λ found. if shared then Err DoubleClaim else sound_node kind found) read
      ∙ ap (λ k. if shared then Err DoubleClaim else (if is_other_kind kind k then Err OtherKind else Ok node)) (sym is)

  leaf_case : (below above : ℕ → List RowItem) (kind : Option Kind) (shared : Bool) (n : ℕ) (old new : Option (List ℕ)) → view n ≡ old → next n ≡ new
      → StaysLeaf usable n rowid old new → AreSame (page_items below n (page_in usable kind shared n old)) (page_items above n (page_in usable kind shared n new))
  leaf_case below above kind shared n (Some page) (Some other) is now_is same =
      subst (λ found. AreSame (page_items below n found) (page_items above n (page_in usable kind shared n (Some other))))
      (sym (page_by kind shared n page same.kind same.said.node same.said.read same.said.kind_is))
      (subst (λ found. AreSame (page_items below n (if shared then Err DoubleClaim else (if is_other_kind kind same.kind then Err OtherKind else Ok same.said.node))) (page_items above n found))
      (sym (page_by kind shared n other same.kind same.says.node same.says.read same.says.kind_is))
      (gate_case below above n shared (is_other_kind kind same.kind) same.said.node same.says.node (two_leaves below above n page other is now_is same)))
  leaf_case below above kind shared n (Some page) None is now_is same = absurd same
  leaf_case below above kind shared n None (Some other) is now_is same = absurd same
  leaf_case below above kind shared n None None is now_is same = absurd same

  leaf_opened : (below above : ℕ → List RowItem) (n : ℕ) → StaysLeaf usable n rowid (view n) (next n)
      → AreSame (page_items below n (opened (tree_in size view usable root) n)) (page_items above n (opened (tree_in size next usable root) n))
  unfolding opened
  leaf_opened below above n stays =
      let before = tree_in size view usable root in
      subst (λ found. AreSame (page_items below n (opened before n)) (page_items above n found)) (sym (opened_by size usable root rowid view next Node Chain law n))
      (leaf_case below above (root_kind before) (nat_le 2 (references before n)) n (view n) (next n) refl refl stays)

  -- ---- all pages
  page_same : (below above : ℕ → List RowItem) → ((child : ℕ) → Node child → AreSame (below child) (above child)) → (n : ℕ) → Node n
      → AreSame (page_items below n (opened (tree_in size view usable root) n)) (page_items above n (opened (tree_in size next usable root) n))
  page_same below above same n there =
      let before = tree_in size view usable root in
      elim (law.steady.node n there) [
        | inl still ↦ subst (λ found. AreSame (page_items below n (opened before n)) (page_items above n found)) (sym (opened_same n still)) (same_case below above same n there still (opened before n) refl)
        | inr stays ↦ leaf_opened below above n stays
      ]

  items_same : (most n : ℕ) → Node n → AreSame (items_of (tree_in size view usable root) most n) (items_of (tree_in size next usable root) most n)
  items_same zero n there = (refl, refl)
  items_same (suc most) n there =
      page_same (items_of (tree_in size view usable root) most) (items_of (tree_in size next usable root) most) (λ child here. items_same most child here) n there

  rows_same : AreSame (rows_of (tree_in size view usable root)) (rows_of (tree_in size next usable root))
  rows_same =
      subst (λ most. AreSame (rows_of (tree_in size view usable root)) (items_of (tree_in size next usable root) (most + 1) root))
      (sym (count_same size usable root rowid view next Node Chain law)) (items_same (held_count (tree_in size view usable root) + 1) root law.at_root)

  -- the same rows have the rowid
  pub found_same : found_of size next usable root rowid ≡ found_of size view usable root rowid
  unfolding found_of
  found_same = rows_same.0

  -- and as many items are faults
  pub faults_same : faults_of size next usable root ≡ faults_of size view usable root
  unfolding faults_of
  faults_same = rows_same.1

-- ---- the same with the pages of the two trees as sets

pub found_by_views : (size usable root : ℕ) (rowid : ℤ) (view next : ℕ → Option (List ℕ)) (node chain : ℕ → Bool)
    → AreAlike usable root rowid view next (λ n. IsTrue (node n)) (λ n. IsTrue (chain n)) → found_of size next usable root rowid ≡ found_of size view usable root rowid
found_by_views size usable root rowid view next node chain alike = found_same size usable root rowid view next (λ n. IsTrue (node n)) (λ n. IsTrue (chain n)) alike

pub faults_by_views : (size usable root : ℕ) (rowid : ℤ) (view next : ℕ → Option (List ℕ)) (node chain : ℕ → Bool)
    → AreAlike usable root rowid view next (λ n. IsTrue (node n)) (λ n. IsTrue (chain n)) → faults_of size next usable root ≡ faults_of size view usable root
faults_by_views size usable root rowid view next node chain alike = faults_same size usable root rowid view next (λ n. IsTrue (node n)) (λ n. IsTrue (chain n)) alike
