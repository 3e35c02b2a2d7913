-- A tree whose pages stay as they are, but for leaves that say the same of a rowid, has the same pages, and opens them alike.
use Rattle.std.proofs.Common.{◌≡◌, ℕ, ℤ, zero, suc, ◌≤◌, inl, inr, Bool, true, false, if◌then◌else◌, cond, List, [], ◌∷◌, ◌++◌, length, fold, filter, nat_le, nat_lt, Option, Some, None, Result, Ok, Err, refl, sym, ap, subst, ◌∙◌, arith}
use Rattle.std.specs.List.{flat_map, AllByRecursion}
use Rattle.std.proofs.lemmas.List.Elements.{recursion_from_All}
use Rattle.std.proofs.lemmas.Bool.Decides.{nat_tests}
use Rattle.sx_base.specs.Bytes.{byte_at}
use Rattle.sx_cell.specs.declared.cell.Kind.{Kind}
use Rattle.sx_node.specs.declared.node.NodeFault.{NodeFault}
use Rattle.sx_node.specs.declared.node.NodeFault.TheVariants.{BadFlag, BadArray}
use Rattle.sx_node.specs.declared.targets.NodeTarget.{NodeTarget}
use Rattle.sx_node.specs.declared.targets.NodeTarget.TheVariants.{Child, Overflow, Right}
use Rattle.sx_node.specs.Nodes.{NodePage, IsNodeOf, node_of, of_kind, with_array, kind_of, header_at, array_end}
use Rattle.sx_node.specs.Targets.{targets_of}
use Rattle.sx_tree.specs.Trees.{Tree, tree_in, is_held, child_in, node_children, view_children, children, names, with_number, each_once, rounds, held_count, tree_pages, references, times, stands_in}
use Rattle.sx_tree.specs.Rows.{opened, page_in, root_kind, view_kind, kind_in}
use Rattle.sx_tree.proofs.Leaves.{leaf_none}
use Rattle.sx_history.specs.declared.found.Found.{Found}
use Rattle.sx_history.specs.Leaves.{LeafSays, StaysLeaf}
use Rattle.sx_history.specs.Closed.{AreAlike, IsNamed, AllNamed}
use Rattle.sx_history.proofs.SameRows.{filter_same, held_same}

-- ---- lists

pub all_append : {X : Type 0} (P : X → Type 0) (xs ys : List X) → AllByRecursion P xs → AllByRecursion P ys → AllByRecursion P (xs ++ ys)
all_append P [] ys front back = back
all_append P (x ∷ xs) ys front back = (front.0, all_append P xs ys front.1 back)

pub all_front : {X : Type 0} (P : X → Type 0) (xs ys : List X) → AllByRecursion P (xs ++ ys) → AllByRecursion P xs
all_front P [] ys all = tt
all_front P (x ∷ xs) ys all = (all.0, all_front P xs ys all.1)

pub all_back : {X : Type 0} (P : X → Type 0) (xs ys : List X) → AllByRecursion P (xs ++ ys) → AllByRecursion P ys
all_back P [] ys all = all
all_back P (x ∷ xs) ys all = all_back P xs ys all.1

all_kept : (P : ℕ → Type 0) (p : ℕ → Bool) (x : ℕ) (xs : List ℕ) (b : Bool) → P x → AllByRecursion P xs → AllByRecursion P (cond b (x ∷ xs) xs)
all_kept P p x xs true here rest = (here, rest)
all_kept P p x xs false here rest = rest

all_filter : (P : ℕ → Type 0) (p : ℕ → Bool) (xs : List ℕ) → AllByRecursion P xs → AllByRecursion P (filter p xs)
all_filter P p [] all = tt
all_filter P p (x ∷ xs) all = all_kept P p x (filter p xs) (p x) all.0 (all_filter P p xs all.1)

all_with : (P : ℕ → Type 0) (numbers : List ℕ) (number : ℕ) (b : Bool) → AllByRecursion P numbers → P number
    → AllByRecursion P (if b then numbers else numbers ++ number ∷ [])
all_with P numbers number true all here = all
all_with P numbers number false all here = all_append P numbers (number ∷ []) all (here, tt)

all_fold : (P : ℕ → Type 0) (front xs : List ℕ) → AllByRecursion P front → AllByRecursion P xs → AllByRecursion P (fold with_number front xs)
all_fold P front [] before all = before
all_fold P front (x ∷ xs) before all = all_fold P (with_number front x) xs (all_with P front x (stands_in front x) before all.0) all.1

all_once : (P : ℕ → Type 0) (xs : List ℕ) → AllByRecursion P xs → AllByRecursion P (each_once xs)
unfolding each_once
all_once P xs all = all_fold P [] xs tt all

-- ---- a b-tree page that was read

is_of : (page : List ℕ) (number usable : ℕ) (found node : NodePage) (b : Bool) → found.page ≡ page → found.number ≡ number → found.usable ≡ usable
    → nat_lt found.usable (array_end found) ≡ b → (if b then Err BadArray else Ok found) ≡ Ok node → IsNodeOf page number usable node
is_of page number usable found node true same_page same_number same_usable past read = let clash : Err BadArray ≡ Ok node = read in absurd cc
is_of page number usable found node false same_page same_number same_usable past read =
    let same : Ok found ≡ Ok node = read in
    let is : found ≡ node = cc in
    let fits : array_end found ≤ found.usable = grind (arith, nat_tests, past) in
    subst (IsNodeOf page number usable) is (record { same_page = same_page; same_number = same_number; same_usable = same_usable; fits = omega (arith, fits, same_usable) })

of_case : (page : List ℕ) (number usable : ℕ) (node : NodePage) (kind : Option Kind) → of_kind page number usable kind ≡ Ok node → IsNodeOf page number usable node
unfolding with_array
of_case page number usable node None read = let clash : Err BadFlag ≡ Ok node = read in absurd cc
of_case page number usable node (Some kind) read =
    let found : NodePage = record { page = page; number = number; usable = usable; kind = kind } in
    is_of page number usable found node (nat_lt usable (array_end found)) refl refl refl refl read

pub read_is : (page : List ℕ) (number usable : ℕ) (node : NodePage) → node_of page number usable ≡ Ok node → IsNodeOf page number usable node
unfolding node_of
read_is page number usable node read = of_case page number usable node (kind_of (byte_at page (header_at number))) read

-- ---- the children of a page

child_names : (Node Chain : ℕ → Type 0) (targets : List NodeTarget) → AllByRecursion (IsNamed Node Chain) targets → AllByRecursion Node (flat_map child_in targets)
child_names Node Chain [] all = tt
child_names Node Chain (Child index page ∷ targets) all = (all.0, child_names Node Chain targets all.1)
child_names Node Chain (Overflow index page rest ∷ targets) all = child_names Node Chain targets all.1
child_names Node Chain (Right page ∷ targets) all = (all.0, child_names Node Chain targets all.1)

named_case : (Node Chain : ℕ → Type 0) (usable number : ℕ) (view : Option (List ℕ)) (page : List ℕ) (read : Result NodePage NodeFault) → view ≡ Some page → node_of page number usable ≡ read
    → AllNamed Node Chain usable number view → AllByRecursion Node (node_children read)
named_case Node Chain usable number view page (Ok node) is reads all = child_names Node Chain (targets_of node) (recursion_from_All (IsNamed Node Chain) (targets_of node) (all page node is reads))
named_case Node Chain usable number view page (Err fault) is reads all = tt

children_named : (Node Chain : ℕ → Type 0) (usable number : ℕ) (view : Option (List ℕ)) → AllNamed Node Chain usable number view → AllByRecursion Node (view_children usable number view)
children_named Node Chain usable number None all = tt
children_named Node Chain usable number (Some page) all = named_case Node Chain usable number (Some page) page (node_of page number usable) refl refl all

-- a leaf has none
says_none : (usable number : ℕ) (rowid : ℤ) (page : List ℕ) (kind : Kind) (found : List Found) (faults : ℕ) → 480 ≤ usable → usable ≤ length page
    → LeafSays usable number rowid page kind found faults → view_children usable number (Some page) ≡ []
says_none usable number rowid page kind found faults least within says =
    leaf_none usable number (Some page) page says.node refl (sym says.read) (read_is page number usable says.node says.read) least within says.leaf.leaf

stays_none : (usable number : ℕ) (rowid : ℤ) (before now : Option (List ℕ)) → 480 ≤ usable → ((page : List ℕ) → before ≡ Some page → usable ≤ length page)
    → ((page : List ℕ) → now ≡ Some page → usable ≤ length page) → StaysLeaf usable number rowid before now
    → view_children usable number now ≡ view_children usable number before
stays_none usable number rowid (Some before) (Some now) least room room_now same =
    says_none usable number rowid now same.kind same.found same.faults least (room_now now refl) same.says
    ∙ sym (says_none usable number rowid before same.kind same.found same.faults least (room before refl) same.said)
stays_none usable number rowid (Some before) None least room room_now same = absurd same
stays_none usable number rowid None (Some now) least room room_now same = absurd same
stays_none usable number rowid None None least room room_now same = absurd same

-- ---- the kind of a page

says_kind : (usable number : ℕ) (rowid : ℤ) (page : List ℕ) (kind : Kind) (found : List Found) (faults : ℕ) → LeafSays usable number rowid page kind found faults
    → view_kind usable number (Some page) ≡ Some kind
says_kind usable number rowid page kind found faults says = ap kind_in says.read ∙ ap Some (sym says.kind_is)

stays_kind : (usable number : ℕ) (rowid : ℤ) (before now : Option (List ℕ)) → StaysLeaf usable number rowid before now
    → view_kind usable number now ≡ view_kind usable number before
stays_kind usable number rowid (Some before) (Some now) same =
    says_kind usable number rowid now same.kind same.found same.faults same.says
    ∙ sym (says_kind usable number rowid before same.kind same.found same.faults same.said)
stays_kind usable number rowid (Some before) None same = absurd same
stays_kind usable number rowid None (Some now) same = absurd same
stays_kind usable number rowid None None same = absurd same

-- ---- two trees

module _ (size usable root : ℕ) (rowid : ℤ) (view next : ℕ → Option (List ℕ)) (Node Chain : ℕ → Type 0) (law : AreAlike usable root rowid view next Node Chain) where
  abbrev before : Tree
  before = tree_in size view usable root

  abbrev now : Tree
  now = tree_in size next usable root

  pub children_same : (n : ℕ) → Node n → children now n ≡ children before n
  unfolding children
  children_same n there =
      elim (law.steady.node n there) [
        | inl same ↦ ap (view_children usable n) same
        | inr stays ↦ stays_none usable n rowid (view n) (next n) law.least (law.room n) (law.room_now n) stays
      ]

  children_all : (n : ℕ) → Node n → AllByRecursion Node (children before n)
  unfolding children
  children_all n there = children_named Node Chain usable n (view n) (law.closed.nodes n there)

  flat_same : (pages : List ℕ) → AllByRecursion Node pages → flat_map (children now) pages ≡ flat_map (children before) pages
  flat_same [] all = refl
  flat_same (page ∷ pages) all =
      ap (λ l. l ++ flat_map (children now) pages) (children_same page all.0)
      ∙ ap (λ l. children before page ++ l) (flat_same pages all.1)

  flat_all : (pages : List ℕ) → AllByRecursion Node pages → AllByRecursion Node (flat_map (children before) pages)
  flat_all [] all = tt
  flat_all (page ∷ pages) all = all_append Node (children before page) (flat_map (children before) pages) (children_all page all.0) (flat_all pages all.1)

  names_same : (pages : List ℕ) → AllByRecursion Node pages → names now pages ≡ names before pages
  names_same pages all = ap (λ l. root ∷ l) (flat_same pages all)

  held_is : (n : ℕ) → is_held now n ≡ is_held before n
  held_is n = law.steady.held n

  rounds_all : (n : ℕ) → AllByRecursion Node (rounds before n)
  rounds_all zero = tt
  rounds_all (suc n) =
      all_once Node (filter (is_held before) (names before (rounds before n)))
      (all_filter Node (is_held before) (names before (rounds before n)) (law.at_root, flat_all (rounds before n) (rounds_all n)))

  rounds_same : (n : ℕ) → rounds now n ≡ rounds before n
  rounds_same zero = refl
  rounds_same (suc n) =
      ap (λ pages. each_once (filter (is_held now) (names now pages))) (rounds_same n)
      ∙ ap each_once (filter_same (is_held now) (is_held before) (names now (rounds before n)) held_is)
      ∙ ap (λ l. each_once (filter (is_held before) l)) (names_same (rounds before n) (rounds_all n))

  pub count_same : held_count now ≡ held_count before
  count_same = ap length (held_same size view next law.steady.held)

  pages_same : tree_pages now ≡ tree_pages before
  unfolding tree_pages
  pages_same = ap (rounds now) count_same ∙ rounds_same (held_count before)

  pages_all : AllByRecursion Node (tree_pages before)
  unfolding tree_pages
  pages_all = rounds_all (held_count before)

  references_same : (n : ℕ) → references now n ≡ references before n
  unfolding references
  references_same n = ap (λ pages. times n (names now pages)) pages_same ∙ ap (times n) (names_same (tree_pages before) pages_all)

  kind_same : root_kind now ≡ root_kind before
  unfolding root_kind
  kind_same =
      elim (law.steady.node root law.at_root) [
        | inl same ↦ ap (view_kind usable root) same
        | inr stays ↦ stays_kind usable root rowid (view root) (next root) stays
      ]

  -- a page is opened by its view alone
  pub opened_by : (n : ℕ) → opened now n ≡ page_in usable (root_kind before) (nat_le 2 (references before n)) n (next n)
  unfolding opened
  opened_by n =
      ap (λ many. page_in usable (root_kind now) (nat_le 2 many) n (next n)) (references_same n)
      ∙ ap (λ kind. page_in usable kind (nat_le 2 (references before n)) n (next n)) kind_same
