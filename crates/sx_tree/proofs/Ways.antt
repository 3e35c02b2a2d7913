-- The way of a walk: no page stands on it twice.
use Rattle.std.proofs.Common.{◌≡◌, ℕ, ◌≤◌, Bool, true, false, ◌||◌, List, [], ◌∷◌, ◌++◌, Option, Some, None, Result, Ok, Err, length, nat_eq, nat_le, refl, sym, ap, ◌∙◌, arith, eqb-true, eq-eqb, leb-false}
use Rattle.std.specs.List.{flat_map, IsDistinct, AllByRecursion}
use Rattle.std.proofs.Math.Bool.{or-false}
use Rattle.std.proofs.lemmas.Cmp.{nat_eq_equiv}
use Rattle.std.proofs.lemmas.List.{map-append, length-map}
use Rattle.std.proofs.lemmas.Map.Keys.{IsDistinct-head, IsDistinct-tail}
use Rattle.std.proofs.lemmas.Map.Made.{length-le_from_is_member}
use Rattle.sx_cell.specs.declared.cell.Kind.{Kind}
use Rattle.sx_node.specs.declared.node.NodeFault.{NodeFault}
use Rattle.sx_node.specs.Nodes.{NodePage, node_of}
use Rattle.sx_node.specs.declared.node.NodeFault.TheVariants.{BadFlag, BadArray as ArrayFault}
use Rattle.sx_tree.specs.declared.item.TreeFault.TheVariants.{Absent, DoubleClaim, BadNode, BadArray, OtherKind}
use Rattle.sx_tree.specs.declared.parts.Part.{Part}
use Rattle.sx_tree.specs.declared.parts.Part.TheVariants.{Item, Child}
use Rattle.sx_tree.specs.Parts.{Visit, parts_of, child_of, part_children}
use Rattle.sx_tree.proofs.Leaves.{parts_children}
use Rattle.sx_tree.specs.Trees.{Tree, children, children_of, names, tree_pages, references, times}
use Rattle.sx_tree.specs.Rows.{opened, page_in, sound_node, is_other_kind, root_kind}
use Rattle.sx_tree.specs.Walks.{named_from, top_of, IsVisit, IsWay, numbers_of, has_some, namers}
use Rattle.sx_tree.proofs.Numbers.{has, times_append, times_cons, times_some, filter_has}

-- ---- a page that was opened

-- what is known of it
pub record IsOpen (tree : Tree) (number : ℕ) (node : NodePage) : Type 0 where
  pub page : List ℕ
  pub view : tree.view number ≡ Some page
  pub once : nat_le 2 (references tree number) ≡ false
  pub read : node_of page number tree.usable ≡ Ok node

sound_case : (root : Option Kind) (node found : NodePage) (b : Bool) → is_other_kind root node.kind ≡ b → sound_node root (Ok node) ≡ Ok found → node ≡ found
sound_case root node found true other is =
    let clash : Err OtherKind ≡ Ok found = rw other at is in cc
sound_case root node found false other is =
    let same : Ok node ≡ Ok found = rw other at is in cc

sound_is : (root : Option Kind) (read : Result NodePage NodeFault) (found : NodePage) → sound_node root read ≡ Ok found → read ≡ Ok found
sound_is root (Err BadFlag) found is = let clash : Err BadNode ≡ Ok found = is in cc
sound_is root (Err ArrayFault) found is = let clash : Err BadArray ≡ Ok found = is in cc
sound_is root (Ok node) found is = ap Ok (sound_case root node found (is_other_kind root node.kind) refl is)

open_case : (tree : Tree) (number : ℕ) (node : NodePage) (view : Option (List ℕ)) (shared : Bool)
    → tree.view number ≡ view → nat_le 2 (references tree number) ≡ shared
    → page_in tree.usable (root_kind tree) shared number view ≡ Ok node → IsOpen tree number node
open_case tree number node None shared is many found = let clash : Err Absent ≡ Ok node = found in absurd cc
open_case tree number node (Some page) true is many found = let clash : Err DoubleClaim ≡ Ok node = found in absurd cc
open_case tree number node (Some page) false is many found =
    record { page = page; view = is; once = many; read = sound_is (root_kind tree) (node_of page number tree.usable) node found }

pub open_is : (tree : Tree) (number : ℕ) (node : NodePage) → opened tree number ≡ Ok node → IsOpen tree number node
unfolding opened
open_is tree number node found = open_case tree number node (tree.view number) (nat_le 2 (references tree number)) refl refl found

-- its children are those that it names
pub open_children : (tree : Tree) (number : ℕ) (node : NodePage) → IsOpen tree number node → children tree number ≡ part_children node
unfolding children
open_children tree number node is =
    let named : children tree number ≡ children_of node = rw (is.view, is.read) refl in
    named ∙ sym (parts_children node)

-- a child that is to come is one of them
pub part_named : (node : NodePage) (gone rest : List Part) (child : ℕ) → parts_of node ≡ gone ++ (Child child ∷ rest) → has (part_children node) child ≡ true
part_named node gone rest child is =
    ap (λ parts. has (flat_map child_of parts) child) is ∙ in_middle gone rest child
  where
    here : (b : Bool) (more : List ℕ) (n : ℕ) → b ≡ true → (b || has more n) ≡ true
    here true more n same = refl
    here false more n same = let clash : false ≡ true = same in cc

    right : (a b : Bool) → b ≡ true → (a || b) ≡ true
    right true b same = refl
    right false b same = same

    in_middle : (gone rest : List Part) (child : ℕ) → has (flat_map child_of (gone ++ (Child child ∷ rest))) child ≡ true
    in_middle [] rest child = here (nat_eq child child) (flat_map child_of rest) child (eq-eqb child child refl)
    in_middle (Item item ∷ gone) rest child = in_middle gone rest child
    in_middle (Child other ∷ gone) rest child = right (nat_eq child other) (has (flat_map child_of (gone ++ (Child child ∷ rest))) child) (in_middle gone rest child)

-- ---- two that name a page

either : (a b : Bool) → (a || b) ≡ true → a ≡ false → b ≡ true
either true b is other = let clash : true ≡ false = other in cc
either false b is other = is

named_case : (f : ℕ → List ℕ) (c p q : ℕ) (cs : List ℕ) (b : Bool) → nat_eq p c ≡ b → (b || has cs p) ≡ true → has (f p) q ≡ true
    → (has cs p ≡ true → 1 ≤ times q (flat_map f cs)) → 1 ≤ times q (f c ++ flat_map f cs)
named_case f c p q cs true same there named rest =
    let one : p ≡ c = eqb-true p c same in
    let some = times_some q (f c) (ap (λ n. has (f n) q) (sym one) ∙ named) in
    omega (arith, some, times_append q (f c) (flat_map f cs))
named_case f c p q cs false apart there named rest = omega (arith, rest there, times_append q (f c) (flat_map f cs))

-- a page of the list that names q
one_names : (f : ℕ → List ℕ) (cs : List ℕ) (p q : ℕ) → has cs p ≡ true → has (f p) q ≡ true → 1 ≤ times q (flat_map f cs)
one_names f [] p q there named = let clash : false ≡ true = there in absurd cc
one_names f (c ∷ cs) p q there named =
    named_case f c p q cs (nat_eq p c) refl there named (λ in_rest. one_names f cs p q in_rest named)

unlike : (a b : ℕ) (c : Bool) → a ≡ b → nat_eq a b ≡ c → c ≡ false → ⊥
unlike a b c same is other = let clash : true ≡ false = sym (eq-eqb a b same) ∙ is ∙ other in cc

two_case : (f : ℕ → List ℕ) (c a b q : ℕ) (cs : List ℕ) (at_a at_b : Bool) → nat_eq a c ≡ at_a → nat_eq b c ≡ at_b → nat_eq a b ≡ false
    → (at_a || has cs a) ≡ true → (at_b || has cs b) ≡ true → has (f a) q ≡ true → has (f b) q ≡ true
    → (has cs a ≡ true → has cs b ≡ true → 2 ≤ times q (flat_map f cs))
    → 2 ≤ times q (f c ++ flat_map f cs)
two_case f c a b q cs true true is_a is_b apart in_a in_b first second rest =
    absurd (unlike a b (nat_eq a b) (eqb-true a c is_a ∙ sym (eqb-true b c is_b)) refl apart)
two_case f c a b q cs true false is_a is_b apart in_a in_b first second rest =
    let here = times_some q (f c) (ap (λ n. has (f n) q) (sym (eqb-true a c is_a)) ∙ first) in
    omega (arith, here, one_names f cs b q in_b second, times_append q (f c) (flat_map f cs))
two_case f c a b q cs false true is_a is_b apart in_a in_b first second rest =
    let here = times_some q (f c) (ap (λ n. has (f n) q) (sym (eqb-true b c is_b)) ∙ second) in
    omega (arith, here, one_names f cs a q in_a first, times_append q (f c) (flat_map f cs))
two_case f c a b q cs false false is_a is_b apart in_a in_b first second rest =
    omega (arith, rest in_a in_b, times_append q (f c) (flat_map f cs))

-- two pages of the list that name q
two_name : (f : ℕ → List ℕ) (cs : List ℕ) (a b q : ℕ) → nat_eq a b ≡ false → has cs a ≡ true → has cs b ≡ true → has (f a) q ≡ true → has (f b) q ≡ true
    → 2 ≤ times q (flat_map f cs)
two_name f [] a b q apart in_a in_b first second = let clash : false ≡ true = in_a in absurd cc
two_name f (c ∷ cs) a b q apart in_a in_b first second =
    two_case f c a b q cs (nat_eq a c) (nat_eq b c) refl refl apart in_a in_b first second (λ left right. two_name f cs a b q apart left right first second)

-- so a page that is named once isn't named by two pages of the tree
once_by_pages : (tree : Tree) (a b q : ℕ) → nat_le 2 (references tree q) ≡ false → nat_eq a b ≡ false
    → has (tree_pages tree) a ≡ true → has (tree_pages tree) b ≡ true → has (children tree a) q ≡ true → has (children tree b) q ≡ true → ⊥
unfolding references
once_by_pages tree a b q once apart in_a in_b first second =
    let two = two_name (children tree) (tree_pages tree) a b q apart in_a in_b first second in
    let all = times_cons q tree.root (flat_map (children tree) (tree_pages tree)) (nat_eq q tree.root) refl in
    let few = leb-false 2 (times q (names tree (tree_pages tree))) once in
    omega (arith, two, all, few)

-- nor by one and as the root
once_as_root : (tree : Tree) (a q : ℕ) → nat_le 2 (references tree q) ≡ false → nat_eq q tree.root ≡ true
    → has (tree_pages tree) a ≡ true → has (children tree a) q ≡ true → ⊥
unfolding references
once_as_root tree a q once same in_a named =
    let one = one_names (children tree) (tree_pages tree) a q in_a named in
    let all = times_cons q tree.root (flat_map (children tree) (tree_pages tree)) true same in
    let few = leb-false 2 (times q (names tree (tree_pages tree))) once in
    omega (arith, one, all, few)

-- ---- no page stands on the way twice

-- the page from which a part of the way begins isn't on that
abbrev pub IsOutside : Tree → Option ℕ → List ℕ → Type 0
IsOutside tree None numbers = Unit {0}
IsOutside tree (Some number) numbers = (has numbers number ≡ false) × (has (tree_pages tree) number ≡ true)

pub record IsTop (tree : Tree) (from : Option ℕ) (numbers : List ℕ) : Type 0 where
  pub number : ℕ
  pub is : from ≡ Some number
  pub there : has numbers number ≡ true
  pub listed : has (tree_pages tree) number ≡ true

pub or_there : (a b : Bool) → b ≡ true → (a || b) ≡ true
or_there true b is = refl
or_there false b is = is

pub top_is : (tree : Tree) (from : Option ℕ) (visit : Visit) (below : List Visit) → IsWay tree from (visit ∷ below)
    → IsTop tree (top_of from (visit ∷ below)) (numbers_of (visit ∷ below))
top_is tree from visit [] way =
    record { number = visit.number; is = refl; there = ap (λ b. b || false) (eq-eqb visit.number visit.number refl); listed = way.0.listed }
top_is tree from visit (next ∷ below) way =
    let top = top_is tree (Some visit.number) next below way.1 in
    record { number = top.number; is = top.is; there = or_there (nat_eq top.number visit.number) (has (numbers_of (next ∷ below)) top.number) top.there; listed = top.listed }

none_there : (x : ℕ) (ys : List ℕ) → AllByRecursion (λ y. nat_eq x y ≡ false) ys → has ys x ≡ false
none_there x [] all = refl
none_there x (y ∷ ys) all = rw all.0 (none_there x ys all.1)

differ : (a b : ℕ) (numbers : List ℕ) (c : Bool) → has numbers a ≡ false → has numbers b ≡ true → nat_eq a b ≡ c → c ≡ false
differ a b numbers true out there is =
    let clash : false ≡ true = sym out ∙ ap (has numbers) (eqb-true a b is) ∙ there in cc
differ a b numbers false out there is = refl

again : (tree : Tree) (from : Option ℕ) (visit : Visit) (below : List Visit) (q : ℕ) → IsWay tree from (visit ∷ below)
    → IsOutside tree from (numbers_of (visit ∷ below)) → has (named_from tree (top_of from (visit ∷ below))) q ≡ true
    → nat_le 2 (references tree q) ≡ false → nat_eq q visit.number ≡ true → ⊥
again tree None visit below q way outside named once same =
    let top = top_is tree None visit below way in
    let one : q ≡ visit.number = eqb-true q visit.number same in
    let root : nat_eq q tree.root ≡ true = ap (λ n. nat_eq n tree.root) one ∙ sym (or-false (nat_eq visit.number tree.root)) ∙ way.0.named in
    once_as_root tree top.number q once root top.listed (ap (λ t. has (named_from tree t) q) (sym top.is) ∙ named)
again tree (Some from) visit below q way outside named once same =
    let top = top_is tree (Some from) visit below way in
    let one : q ≡ visit.number = eqb-true q visit.number same in
    let apart : nat_eq from top.number ≡ false = differ from top.number (numbers_of (visit ∷ below)) (nat_eq from top.number) outside.0 top.there refl in
    once_by_pages tree from top.number q once apart outside.1 top.listed
    (ap (has (children tree from)) one ∙ way.0.named) (ap (λ t. has (named_from tree t) q) (sym top.is) ∙ named)

fresh_case : (tree : Tree) (from : Option ℕ) (visit : Visit) (below : List Visit) (q : ℕ) (b : Bool) → nat_eq q visit.number ≡ b
    → IsWay tree from (visit ∷ below) → IsOutside tree from (numbers_of (visit ∷ below))
    → has (named_from tree (top_of from (visit ∷ below))) q ≡ true → nat_le 2 (references tree q) ≡ false
    → has (numbers_of below) q ≡ false → (b || has (numbers_of below) q) ≡ false
fresh_case tree from visit below q true same way outside named once rest = absurd (again tree from visit below q way outside named once same)
fresh_case tree from visit below q false same way outside named once rest = rest

-- a page that the page in hand names, and that is named once, isn't on the way yet
pub fresh : (tree : Tree) (from : Option ℕ) (way : List Visit) (q : ℕ) → IsWay tree from way → IsDistinct nat_eq (numbers_of way)
    → IsOutside tree from (numbers_of way) → has (named_from tree (top_of from way)) q ≡ true → nat_le 2 (references tree q) ≡ false
    → has (numbers_of way) q ≡ false
fresh tree from [] q way apart outside named once = refl
fresh tree from (visit ∷ below) q way apart outside named once =
    let head = none_there visit.number (numbers_of below) (IsDistinct-head nat_eq visit.number (numbers_of below) apart) in
    fresh_case tree from visit below q (nat_eq q visit.number) refl way outside named once
    (fresh tree (Some visit.number) below q way.1 (IsDistinct-tail nat_eq visit.number (numbers_of below) apart) (head, way.0.listed) named once)

-- ---- the way grows and shrinks at its end

pub way_more : (tree : Tree) (from : Option ℕ) (way : List Visit) (visit : Visit) → IsWay tree from way → IsVisit tree (top_of from way) visit
    → IsWay tree from (way ++ visit ∷ [])
way_more tree from [] visit way last = (last, tt)
way_more tree from (first ∷ below) visit way last = (way.0, way_more tree (Some first.number) below visit way.1 last)

pub way_less : (tree : Tree) (from : Option ℕ) (way : List Visit) (visit : Visit) → IsWay tree from (way ++ visit ∷ [])
    → IsWay tree from way × IsVisit tree (top_of from way) visit
way_less tree from [] visit way = (tt, way.0)
way_less tree from (first ∷ below) visit way =
    let rest = way_less tree (Some first.number) below visit way.1 in
    ((way.0, rest.0), rest.1)

pub numbers_more : (way : List Visit) (visit : Visit) → numbers_of (way ++ visit ∷ []) ≡ numbers_of way ++ visit.number ∷ []
numbers_more way visit = map-append (λ (v : Visit). v.number) way (visit ∷ [])

listed_case : (tree : Tree) (visit : Visit) (below : List ℕ) (q : ℕ) (b : Bool) → nat_eq q visit.number ≡ b → has (tree_pages tree) visit.number ≡ true
    → (b || has below q) ≡ true → (has below q ≡ true → has (tree_pages tree) q ≡ true) → has (tree_pages tree) q ≡ true
listed_case tree visit below q true same listed there rest = ap (has (tree_pages tree)) (eqb-true q visit.number same) ∙ listed
listed_case tree visit below q false same listed there rest = rest there

pub way_listed : (tree : Tree) (from : Option ℕ) (way : List Visit) (q : ℕ) → IsWay tree from way → has (numbers_of way) q ≡ true → has (tree_pages tree) q ≡ true
way_listed tree from [] q way there = let clash : false ≡ true = there in cc
way_listed tree from (visit ∷ below) q way there =
    listed_case tree visit (numbers_of below) q (nat_eq q visit.number) refl way.0.listed there (λ in_rest. way_listed tree (Some visit.number) below q way.1 in_rest)

-- so the way is no longer than the tree has pages
pub way_few : (tree : Tree) (way : List Visit) → IsWay tree None way → IsDistinct nat_eq (numbers_of way) → length way ≤ length (tree_pages tree)
way_few tree way is apart =
    let few = length-le_from_is_member nat_eq_equiv (numbers_of way) (tree_pages tree) apart (λ q there. way_listed tree None way q is there) in
    omega (arith, few, length-map way (λ (v : Visit). v.number))

-- ---- each page of the way but the last names a child

some_there : (numbers : List ℕ) (q : ℕ) → has numbers q ≡ true → has_some numbers ≡ true
some_there [] q there = let clash : false ≡ true = there in cc
some_there (number ∷ numbers) q there = refl

-- the page behind the first is one of its children
next_named : (tree : Tree) (first visit : Visit) (below : List Visit) → IsWay tree (Some first.number) (below ++ visit ∷ [])
    → has_some (children tree first.number) ≡ true
next_named tree first visit [] way = some_there (children tree first.number) visit.number way.0.named
next_named tree first visit (next ∷ below) way = some_there (children tree first.number) next.number way.0.named

namer_case : (tree : Tree) (first visit : Visit) (below : List Visit) (q : ℕ) (b : Bool) → nat_eq q first.number ≡ b
    → IsWay tree (Some first.number) (below ++ visit ∷ []) → has (tree_pages tree) first.number ≡ true
    → (b || has (numbers_of below) q) ≡ true → (has (numbers_of below) q ≡ true → has (namers tree (tree_pages tree)) q ≡ true)
    → has (namers tree (tree_pages tree)) q ≡ true
namer_case tree first visit below q true same way listed there rest =
    let one : q ≡ first.number = eqb-true q first.number same in
    let some = next_named tree first visit below way in
    ap (has (namers tree (tree_pages tree))) one
    ∙ filter_has (λ number. has_some (children tree number)) (tree_pages tree) first.number
    ∙ rw (listed, some) refl
namer_case tree first visit below q false same way listed there rest = rest there

way_names : (tree : Tree) (from : Option ℕ) (way : List Visit) (visit : Visit) (q : ℕ) → IsWay tree from (way ++ visit ∷ [])
    → has (numbers_of way) q ≡ true → has (namers tree (tree_pages tree)) q ≡ true
way_names tree from [] visit q way there = let clash : false ≡ true = there in cc
way_names tree from (first ∷ below) visit q way there =
    namer_case tree first visit below q (nat_eq q first.number) refl way.1 way.0.listed there
    (λ in_rest. way_names tree (Some first.number) below visit q way.1 in_rest)

-- so these are no more than the pages that do
pub way_room : (tree : Tree) (way : List Visit) (visit : Visit) → IsWay tree None (way ++ visit ∷ []) → IsDistinct nat_eq (numbers_of way)
    → length way ≤ length (namers tree (tree_pages tree))
way_room tree way visit is apart =
    let few = length-le_from_is_member nat_eq_equiv (numbers_of way) (namers tree (tree_pages tree)) apart (λ q there. way_names tree None way visit q is there) in
    omega (arith, few, length-map way (λ (v : Visit). v.number))
