-- The schema stays as it is where no page of the tree at page 1 changes.
use Rattle.std.proofs.Common.{◌≡◌, ℕ, ℤ, zero, suc, ◌+◌, Bool, List, [], ◌∷◌, ◌++◌, Option, Result, Ok, Err, refl, sym, ap, subst, ◌∙◌}
use Rattle.std.specs.Prelude.{IsTrue}
use Rattle.std.specs.List.{flat_map, filter_map, cons_option, AllByRecursion}
use Rattle.std.proofs.lemmas.List.Elements.{filter_map-append}
use Rattle.sx_bytes.specs.declared.encoding.Encoding.{Encoding}
use Rattle.sx_node.specs.Nodes.{NodePage}
use Rattle.sx_tree.specs.declared.item.RowItem.{RowItem}
use Rattle.sx_tree.specs.declared.item.RowItem.TheVariants.{Row, Fault}
use Rattle.sx_tree.specs.declared.item.TreeFault.{TreeFault}
use Rattle.sx_tree.specs.declared.parts.Part.{Part}
use Rattle.sx_tree.specs.declared.parts.Part.TheVariants.{Item, Child}
use Rattle.sx_tree.specs.Parts.{parts_of}
use Rattle.sx_tree.specs.Trees.{tree_in, held_count}
use Rattle.sx_tree.specs.Rows.{opened, part_items, page_items, items_of, rows_of}
use Rattle.sx_tree.proofs.Ways.{open_is}
use Rattle.sx_schema.specs.Entries.{Entry, item_entry, row_entry, schema_of}
use Rattle.sx_history.specs.Reading.{item_row}
use Rattle.sx_history.specs.Closed.{AreAlike}
use Rattle.sx_history.proofs.Trees.{count_same}
use Rattle.sx_history.proofs.Says.{PartStands, all_stand, opened_same}

module _ (size usable : ℕ) (rowid : ℤ) (encoding : Encoding) (view next : ℕ → Option (List ℕ)) (Node Chain : ℕ → Type 0) (law : AreAlike usable 1 rowid view next Node Chain)
    (still : (n : ℕ) → Node n → next n ≡ view n) where
  abbrev make_before : RowItem → Option Entry
  make_before = item_entry size view usable encoding

  abbrev make_now : RowItem → Option Entry
  make_now = item_entry size next usable encoding

  -- the items of the one tree have the entries that those of the other have
  abbrev AreSame : List RowItem → List RowItem → Type 0
  AreSame items others = filter_map make_now others ≡ filter_map make_before items

  both_same : (items others more rest : List RowItem) → AreSame items others → AreSame more rest → AreSame (items ++ more) (others ++ rest)
  both_same items others more rest front back =
      filter_map-append make_now others rest
      ∙ ap (λ l. l ++ filter_map make_now rest) front
      ∙ ap (λ l. filter_map make_before items ++ l) back
      ∙ sym (filter_map-append make_before items more)

  item_same : (item : RowItem) → item_row size next usable item ≡ item_row size view usable item → make_now item ≡ make_before item
  item_same (Row page cell) same = ap (row_entry encoding) same
  item_same (Fault kind page cell) same = refl

  parts_same : (below above : ℕ → List RowItem) → ((child : ℕ) → Node child → AreSame (below child) (above child)) → (parts : List Part)
      → AllByRecursion (PartStands size usable 1 rowid view next Node Chain law) parts → AreSame (flat_map (part_items below) parts) (flat_map (part_items above) parts)
  parts_same below above same [] all = refl
  parts_same below above same (Item item ∷ parts) all =
      both_same (item ∷ []) (item ∷ []) (flat_map (part_items below) parts) (flat_map (part_items above) parts)
      (ap (λ one. cons_option one []) (item_same item all.0)) (parts_same below above same parts all.1)
  parts_same below above same (Child child ∷ parts) all =
      both_same (below child) (above child) (flat_map (part_items below) parts) (flat_map (part_items above) parts) (same child all.0) (parts_same below above same parts all.1)

  page_case : (below above : ℕ → List RowItem) → ((child : ℕ) → Node child → AreSame (below child) (above child)) → (n : ℕ) → Node n
      → (found : Result NodePage TreeFault) → opened (tree_in size view usable 1) n ≡ found → AreSame (page_items below n found) (page_items above n found)
  page_case below above same n there (Err kind) is = refl
  page_case below above same n there (Ok node) is =
      let open_ = open_is (tree_in size view usable 1) n node is in
      parts_same below above same (parts_of node) (all_stand size usable 1 rowid view next Node Chain law n open_.page node there open_.view (still n there) open_.read)

  page_same : (below above : ℕ → List RowItem) → ((child : ℕ) → Node child → AreSame (below child) (above child)) → (n : ℕ) → Node n
      → AreSame (page_items below n (opened (tree_in size view usable 1) n)) (page_items above n (opened (tree_in size next usable 1) n))
  page_same below above same n there =
      let before = opened (tree_in size view usable 1) n in
      subst (λ found. AreSame (page_items below n before) (page_items above n found)) (sym (opened_same size usable 1 rowid view next Node Chain law n (still n there)))
      (page_case below above same n there before refl)

  items_same : (most n : ℕ) → Node n → AreSame (items_of (tree_in size view usable 1) most n) (items_of (tree_in size next usable 1) most n)
  items_same zero n there = refl
  items_same (suc most) n there =
      page_same (items_of (tree_in size view usable 1) most) (items_of (tree_in size next usable 1) most) (λ child here. items_same most child here) n there

  pub schema_same : schema_of size next usable encoding ≡ schema_of size view usable encoding
  unfolding schema_of
  schema_same =
      subst (λ most. AreSame (rows_of (tree_in size view usable 1)) (items_of (tree_in size next usable 1) (most + 1) 1))
      (sym (count_same size usable 1 rowid view next Node Chain law)) (items_same (held_count (tree_in size view usable 1) + 1) 1 law.at_root)

-- what is read of the pages of the tree at page 1 is the schema
pub schema_by : (size usable : ℕ) (rowid : ℤ) (encoding : Encoding) (view next : ℕ → Option (List ℕ)) (node chain : ℕ → Bool)
    → AreAlike usable 1 rowid view next (λ n. IsTrue (node n)) (λ n. IsTrue (chain n)) → ((n : ℕ) → IsTrue (node n) → next n ≡ view n)
    → schema_of size next usable encoding ≡ schema_of size view usable encoding
schema_by size usable rowid encoding view next node chain alike still =
    schema_same size usable rowid encoding view next (λ n. IsTrue (node n)) (λ n. IsTrue (chain n)) alike still
