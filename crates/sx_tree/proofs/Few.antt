-- The rows of a tree are few: a walk goes into each page at most once.
use Rattle.std.proofs.Common.{◌≡◌, inl, inr, ℕ, zero, suc, ◌+◌, ◌-◌, ◌*◌, ◌^◌, ◌<◌, ◌≤◌, Bool, true, false, cond, ◌||◌, List, [], ◌∷◌, ◌++◌, Option, Some, None, is_some, Result, Ok, Err, length, nat_eq, nat_le, nat_lt, refl, sym, ap, subst, ◌∙◌, arith, eqb-true, eq-eqb, leb-false, append-nil, length-append}
use Rattle.std.specs.Prelude.{◌⊎◌}
use Rattle.std.specs.List.{flat_map, range_with_len, sum_by, IsDistinct, AllByRecursion}
use Rattle.std.proofs.lemmas.Cmp.{nat_eq_equiv}
use Rattle.std.proofs.lemmas.Grind.{flat_map-append}
use Rattle.std.proofs.lemmas.Map.Keys.{IsDistinct-cons, IsDistinct-head, IsDistinct-tail}
use Rattle.std.proofs.lemmas.List.Sums.{sum_by-append}
use Rattle.std.proofs.lemmas.Map.Made.{length-le_from_is_member}
use Rattle.std.proofs.Math.Nat.{suc-mul}
use Rattle.std.proofs.lemmas.Bool.{ltb-false}
use Rattle.sx_base.specs.Bytes.{byte_at}
use Rattle.sx_base.proofs.HeldPages.{held_few}
use Rattle.sx_cell.specs.declared.cell.Kind.{Kind}
use Rattle.sx_cell.specs.declared.cell.Kind.TheVariants.{TableLeaf, TableInner, IndexLeaf, IndexInner}
use Rattle.sx_cell.specs.declared.cell.Cell.{Cell}
use Rattle.sx_cell.specs.declared.cell.CellFault.{CellFault}
use Rattle.sx_node.specs.declared.node.NodeFault.TheVariants.{BadFlag, BadArray}
use Rattle.sx_node.specs.Nodes.{NodePage, node_of, of_kind, with_array, array_end, kind_of, header_at, cell_count, cell_in, right_child}
use Rattle.sx_tree.specs.declared.item.RowItem.{RowItem}
use Rattle.sx_tree.specs.declared.item.TreeFault.{TreeFault}
use Rattle.sx_tree.specs.declared.parts.Part.{Part}
use Rattle.sx_tree.specs.declared.parts.Part.TheVariants.{Item, Child}
use Rattle.sx_tree.specs.Parts.{Visit, cell_parts, child_parts, row_parts, parts_of_cells, parts_of, child_of, part_children}
use Rattle.sx_tree.specs.Trees.{Tree, IsBounded, is_held, names, children, held_count, tree_pages, references, times}
use Rattle.sx_tree.specs.Rows.{opened, rows_of}
use Rattle.sx_tree.specs.Walks.{come, turns}
use Rattle.sx_tree.proofs.Numbers.{has, none_apart, times_append, times_cons, times_some, times_none}
use Rattle.sx_tree.proofs.Rounds.{tree_few, named_listed, root_named}
use Rattle.sx_tree.proofs.Ways.{open_is, open_children}
use Rattle.sx_tree.proofs.Steps.{come_step, turns_step, come_left, turns_left, followed_fault, followed_page, root_page, root_refused}

-- ---- a list without one number

abbrev rem : ℕ → List ℕ → List ℕ
rem x [] = []
rem x (y ∷ ys) = cond (nat_eq x y) ys (y ∷ rem x ys)

sum_one : (f : ℕ → ℕ) (x : ℕ) (xs : List ℕ) → sum_by f (x ∷ xs) ≡ f x + sum_by f xs
sum_one f x xs = let split : sum_by f (x ∷ xs) ≡ 0 + f x + sum_by f xs = sum_by-append f (x ∷ []) xs in omega (arith, split)

rem_sum_case : (f : ℕ → ℕ) (x y : ℕ) (ys : List ℕ) (b : Bool) → nat_eq x y ≡ b → (b || has ys x) ≡ true
    → (has ys x ≡ true → sum_by f ys ≡ f x + sum_by f (rem x ys)) → sum_by f (y ∷ ys) ≡ f x + sum_by f (cond b ys (y ∷ rem x ys))
rem_sum_case f x y ys true same there rest = sum_one f y ys ∙ ap (λ n. f n + sum_by f ys) (sym (eqb-true x y same))
rem_sum_case f x y ys false same there rest = omega (arith, sum_one f y ys, sum_one f y (rem x ys), rest there)

-- the sum is that of the number and of the others
rem_sum : (f : ℕ → ℕ) (x : ℕ) (ys : List ℕ) → has ys x ≡ true → sum_by f ys ≡ f x + sum_by f (rem x ys)
rem_sum f x [] there = let clash : false ≡ true = there in cc
rem_sum f x (y ∷ ys) there = rem_sum_case f x y ys (nat_eq x y) refl there (rem_sum f x ys)

first_or : (a b : Bool) → (a || b) ≡ true → a ≡ false → b ≡ true
first_or true b is other = let clash : true ≡ false = other in cc
first_or false b is other = is

rem_has_case : (x q y : ℕ) (ys : List ℕ) (b c : Bool) → nat_eq x y ≡ b → nat_eq q y ≡ c → nat_eq q x ≡ false → (c || has ys q) ≡ true
    → (has ys q ≡ true → has (rem x ys) q ≡ true) → has (cond b ys (y ∷ rem x ys)) q ≡ true
rem_has_case x q y ys true c same here apart there rest =
    first_or c (has ys q) there (sym here ∙ ap (nat_eq q) (sym (eqb-true x y same)) ∙ apart)
rem_has_case x q y ys false true same here apart there rest = rw here refl
rem_has_case x q y ys false false same here apart there rest = rw here (rest there)

rem_has : (x q : ℕ) (ys : List ℕ) → nat_eq q x ≡ false → has ys q ≡ true → has (rem x ys) q ≡ true
rem_has x q [] apart there = there
rem_has x q (y ∷ ys) apart there = rem_has_case x q y ys (nat_eq x y) (nat_eq q y) refl refl apart there (rem_has x q ys apart)

none_there : (x : ℕ) (ys : List ℕ) → AllByRecursion (λ y. nat_eq x y ≡ false) ys → has ys x ≡ false
none_there x [] all = refl
none_there x (y ∷ ys) all = rw all.0 (none_there x ys all.1)

all_apart : (x : ℕ) (ys : List ℕ) → has ys x ≡ false → AllByRecursion (λ y. nat_eq x y ≡ false) ys
all_apart x [] out = tt
all_apart x (y ∷ ys) out = both (nat_eq x y) refl out (all_apart x ys)
  where
    both : (b : Bool) → nat_eq x y ≡ b → (b || has ys x) ≡ false → (has ys x ≡ false → AllByRecursion (λ z. nat_eq x z ≡ false) ys)
        → AllByRecursion (λ z. nat_eq x z ≡ false) (y ∷ ys)
    both true is clashes rest = let clash : true ≡ false = clashes in absurd cc
    both false is out_ys rest = (is, rest out_ys)

unlike : (q v : ℕ) (vs : List ℕ) (b : Bool) → has vs v ≡ false → has vs q ≡ true → nat_eq q v ≡ b → b ≡ false
unlike q v vs true out there is = let clash : true ≡ false = sym there ∙ ap (has vs) (eqb-true q v is) ∙ out in cc
unlike q v vs false out there is = refl

-- numbers that differ, each of a list, have no greater sum than the list
sub_sum : (f : ℕ → ℕ) (vs cs : List ℕ) → IsDistinct nat_eq vs → ((q : ℕ) → has vs q ≡ true → has cs q ≡ true) → sum_by f vs ≤ sum_by f cs
sub_sum f [] cs apart within = omega arith
sub_sum f (v ∷ vs) cs apart within =
    let there : has cs v ≡ true = within v (ap (λ b. b || has vs v) (eq-eqb v v refl)) in
    let out = none_there v vs (IsDistinct-head nat_eq v vs apart) in
    let rest = sub_sum f vs (rem v cs) (IsDistinct-tail nat_eq v vs apart) (λ q in_vs.
    rem_has v q cs (unlike q v vs (nat_eq q v) out in_vs refl) (within q (right (nat_eq q v) in_vs))) in
    omega (arith, rest, sum_one f v vs, rem_sum f v cs there)
  where
    right : (a : Bool) {b : Bool} → b ≡ true → (a || b) ≡ true
    right true is = refl
    right false is = is

flat_times : (f : ℕ → List ℕ) (q : ℕ) (xs : List ℕ) → times q (flat_map f xs) ≡ sum_by (λ p. times q (f p)) xs
flat_times f q [] = refl
flat_times f q (x ∷ xs) = omega (arith, times_append q (f x) (flat_map f xs), sum_one (λ p. times q (f p)) x xs, flat_times f q xs)

-- ---- the pages that a walk went into so far

-- the children to come
abbrev left : List Visit → List ℕ
left way = flat_map (λ (v : Visit). flat_map child_of v.rest) way

abbrev parts_left : List Visit → ℕ
parts_left way = sum_by (λ (v : Visit). length v.rest) way

-- the pages of a walk so far, none twice, and the children that were followed with the root: together with those to come
-- these are what the pages so far name
record IsSeen (tree : Tree) (way : List Visit) (seen used : List ℕ) : Type 0 where
  apart : IsDistinct nat_eq seen
  listed : (q : ℕ) → has seen q ≡ true → has (tree_pages tree) q ≡ true
  follow : (q : ℕ) → has seen q ≡ true → has used q ≡ true
  all : (q : ℕ) → times q used + times q (left way) ≡ times q (names tree seen)
  few : length way ≤ length seen

left_last : (way : List Visit) (visit : Visit) → left (way ++ visit ∷ []) ≡ left way ++ flat_map child_of visit.rest
left_last way visit =
    flat_map-append (λ (v : Visit). flat_map child_of v.rest) way (visit ∷ []) ∙ ap (λ l. left way ++ l) (append-nil (flat_map child_of visit.rest))

parts_last : (way : List Visit) (visit : Visit) → parts_left (way ++ visit ∷ []) ≡ parts_left way + length visit.rest
parts_last way visit =
    let split : parts_left (way ++ visit ∷ []) ≡ parts_left way + (0 + length visit.rest) = sum_by-append (λ (v : Visit). length v.rest) way (visit ∷ []) in
    omega (arith, split)

times_last : (q : ℕ) (way : List Visit) (visit : Visit) → times q (left (way ++ visit ∷ [])) ≡ times q (left way) + times q (flat_map child_of visit.rest)
times_last q way visit = ap (times q) (left_last way visit) ∙ times_append q (left way) (flat_map child_of visit.rest)

named_names : (tree : Tree) (way : List Visit) (seen used : List ℕ) (q : ℕ) → IsSeen tree way seen used
    → times q (names tree seen) ≤ times q (names tree (tree_pages tree))
named_names tree way seen used q is =
    let b = nat_eq q tree.root in
    let some = times_cons q tree.root (flat_map (children tree) seen) b refl in
    let whole = times_cons q tree.root (flat_map (children tree) (tree_pages tree)) b refl in
    let less = sub_sum (λ p. times q (children tree p)) seen (tree_pages tree) is.apart is.listed in
    omega (arith, some, whole, less, flat_times (children tree) q seen, flat_times (children tree) q (tree_pages tree))

-- what the pages so far name is no more than what those of the tree name
named_less : (tree : Tree) (way : List Visit) (seen used : List ℕ) (q : ℕ) → IsSeen tree way seen used → times q (names tree seen) ≤ references tree q
unfolding references
named_less tree way seen used q is = named_names tree way seen used q is

new_case : (tree : Tree) (way : List Visit) (seen used : List ℕ) (q : ℕ) (b : Bool) → IsSeen tree way seen used → has seen q ≡ b
    → 1 ≤ times q (left way) → nat_le 2 (references tree q) ≡ false → b ≡ false
new_case tree way seen used q true is there come once =
    let used_q = times_some q used (is.follow q there) in
    let few = leb-false 2 (references tree q) once in
    absurd (omega (arith, used_q, come, few, is.all q, named_less tree way seen used q is))
new_case tree way seen used q false is there come once = refl

-- so a page that is named once, and is still to come, isn't one of them
seen_new : (tree : Tree) (way : List Visit) (seen used : List ℕ) (q : ℕ) → IsSeen tree way seen used
    → 1 ≤ times q (left way) → nat_le 2 (references tree q) ≡ false → has seen q ≡ false
seen_new tree way seen used q is come once = new_case tree way seen used q (has seen q) is refl come once

seen_few : (tree : Tree) (way : List Visit) (seen used : List ℕ) → IsSeen tree way seen used → length seen ≤ length (tree_pages tree)
seen_few tree way seen used is = length-le_from_is_member nat_eq_equiv seen (tree_pages tree) is.apart is.listed

-- it is one of the tree, where it is held
child_listed : (tree : Tree) (way : List Visit) (seen used : List ℕ) (q : ℕ) → IsSeen tree way seen used → 1 ≤ times q (left way)
    → IsBounded tree → is_held tree q ≡ true → has (tree_pages tree) q ≡ true
child_listed tree way seen used q is come bounds held =
    named_listed tree q bounds (many_has q (names tree (tree_pages tree)) (has (names tree (tree_pages tree)) q) refl
    (omega (arith, come, is.all q, named_names tree way seen used q is))) held
  where
    many_has : (q : ℕ) (xs : List ℕ) (b : Bool) → has xs q ≡ b → 1 ≤ times q xs → has xs q ≡ true
    many_has q xs true is some = is
    many_has q xs false is some = absurd (omega (arith, times_none q xs is, some))

-- a page without parts, and an item, change nothing
seen_left : (tree : Tree) (way : List Visit) (visit : Visit) (seen used : List ℕ) → IsSeen tree (way ++ visit ∷ []) seen used → visit.rest ≡ []
    → IsSeen tree way seen used
seen_left tree way visit seen used is none = record {
  apart = is.apart;
  listed = is.listed;
  follow = is.follow;
  all = λ q. let last = times_last q way visit in let rest = ap (λ l. times q (flat_map child_of l)) none in omega (arith, last, rest, is.all q);
  few = omega (arith, is.few, length-append way (visit ∷ []));
}

seen_item : (tree : Tree) (way : List Visit) (visit now : Visit) (item : RowItem) (seen used : List ℕ) → IsSeen tree (way ++ visit ∷ []) seen used
    → visit.rest ≡ Item item ∷ now.rest → IsSeen tree (way ++ now ∷ []) seen used
seen_item tree way visit now item seen used is rest = record {
  apart = is.apart;
  listed = is.listed;
  follow = is.follow;
  all = λ q. let before = times_last q way visit in let after = times_last q way now in
      let same = ap (λ l. times q (flat_map child_of l)) rest in omega (arith, before, after, same, is.all q);
  few = omega (arith, is.few, length-append way (visit ∷ []), length-append way (now ∷ []));
}

or_there : (a b : Bool) → b ≡ true → (a || b) ≡ true
or_there true b is = refl
or_there false b is = is

one_less : (q child : ℕ) (way : List Visit) (visit now : Visit) → visit.rest ≡ Child child ∷ now.rest
    → times q (left (way ++ visit ∷ [])) ≡ cond (nat_eq q child) 1 0 + times q (left (way ++ now ∷ []))
one_less q child way visit now rest =
    let before = times_last q way visit in
    let after = times_last q way now in
    let split = ap (λ l. times q (flat_map child_of l)) rest ∙ times_cons q child (flat_map child_of now.rest) (nat_eq q child) refl in
    omega (arith, before, after, split)

one_here : (q : ℕ) → cond {A = ℕ} (nat_eq q q) 1 0 ≡ 1
one_here q = rw (eq-eqb q q refl) refl

-- a child was followed
seen_child : (tree : Tree) (way : List Visit) (visit now : Visit) (child : ℕ) (seen used : List ℕ) → IsSeen tree (way ++ visit ∷ []) seen used
    → visit.rest ≡ Child child ∷ now.rest → IsSeen tree (way ++ now ∷ []) seen (child ∷ used)
seen_child tree way visit now child seen used is rest = record {
  apart = is.apart;
  listed = is.listed;
  follow = λ q there. or_there (nat_eq q child) (has used q) (is.follow q there);
  all = λ q. let less = one_less q child way visit now rest in let more = times_cons q child used (nat_eq q child) refl in omega (arith, less, more, is.all q);
  few = omega (arith, is.few, length-append way (visit ∷ []), length-append way (now ∷ []));
}

follow_case : (child : ℕ) (seen used : List ℕ) (q : ℕ) (b : Bool) → (b || has seen q) ≡ true → (has seen q ≡ true → (b || has used q) ≡ true) → (b || has used q) ≡ true
follow_case child seen used q true there rest = refl
follow_case child seen used q false there rest = rest there

listed_case : (tree : Tree) (child : ℕ) (seen : List ℕ) (q : ℕ) (b : Bool) → nat_eq q child ≡ b → has (tree_pages tree) child ≡ true
    → (b || has seen q) ≡ true → (has seen q ≡ true → has (tree_pages tree) q ≡ true) → has (tree_pages tree) q ≡ true
listed_case tree child seen q true same listed there rest = ap (has (tree_pages tree)) (eqb-true q child same) ∙ listed
listed_case tree child seen q false same listed there rest = rest there

-- and entered
seen_page : (tree : Tree) (way : List Visit) (visit : Visit) (child : ℕ) (node : NodePage) (seen used : List ℕ) → IsSeen tree way seen (child ∷ used)
    → has seen child ≡ false → has (tree_pages tree) child ≡ true → opened tree child ≡ Ok node → visit.rest ≡ parts_of node
    → IsSeen tree (way ++ visit ∷ []) (child ∷ seen) (child ∷ used)
seen_page tree way visit child node seen used is new listed entered rest =
    let names_child : children tree child ≡ part_children node = open_children tree child node (open_is tree child node entered) in
    record {
      apart = IsDistinct-cons nat_eq child seen (all_apart child seen new) is.apart;
      listed = λ q there. listed_case tree child seen q (nat_eq q child) refl listed there (is.listed q);
      follow = λ q there. follow_case child seen used q (nat_eq q child) there (is.follow q);
      all = λ q.
          let last = times_last q way visit in
          let own = ap (λ l. times q (flat_map child_of l)) rest in
          let same = ap (times q) names_child in
          let old = times_cons q tree.root (flat_map (children tree) seen) (nat_eq q tree.root) refl in
          let new_names = times_cons q tree.root (flat_map (children tree) (child ∷ seen)) (nat_eq q tree.root) refl in
          let split = times_append q (children tree child) (flat_map (children tree) seen) in
          omega (arith, last, own, same, old, new_names, split, is.all q);
      few = omega (arith, is.few, length-append way (visit ∷ []));
    }

-- ---- so many items are to come

-- the parts of so many pages, of which each has at most m
abbrev budget : ℕ → ℕ → ℕ
budget zero m = 0
budget (suc k) m = m + budget k m

-- no page has more parts
abbrev pub HasFewParts : Tree → ℕ → Type 0
HasFewParts tree m = (number : ℕ) (node : NodePage) → opened tree number ≡ Ok node → length (parts_of node) ≤ m

-- what is shown for walks of at most so many turns
abbrev IsFew : Tree → ℕ → ℕ → Type 0
IsFew tree m t = (way : List Visit) (seen used : List ℕ) (k : ℕ) → IsSeen tree way seen used → length (tree_pages tree) ≡ length seen + k
    → turns tree (held_count tree) way ≤ t → length (come tree (held_count tree) way) ≤ parts_left way + budget k m

abbrev rest_of : Visit → List Part → Visit
rest_of visit rest = record { number = visit.number; rest = rest }

enter_few : (tree : Tree) (m t : ℕ) (way : List Visit) (visit : Visit) (q : ℕ) (node : NodePage) (seen used : List ℕ) (k : ℕ)
    → HasFewParts tree m → IsFew tree m t → IsSeen tree way seen (q ∷ used) → has seen q ≡ false → has (tree_pages tree) q ≡ true
    → opened tree q ≡ Ok node → visit.rest ≡ parts_of node → length (tree_pages tree) ≡ length seen + k
    → turns tree (held_count tree) (way ++ visit ∷ []) ≤ t
    → length (come tree (held_count tree) (way ++ visit ∷ [])) ≤ parts_left way + budget k m
enter_few tree m t way visit q node seen used zero big few is new listed entered rest count time =
    let next = seen_page tree way visit q node seen used is new listed entered rest in
    absurd (omega (arith, seen_few tree (way ++ visit ∷ []) (q ∷ seen) (q ∷ used) next, count))
enter_few tree m t way visit q node seen used (suc k) big few is new listed entered rest count time =
    let next = seen_page tree way visit q node seen used is new listed entered rest in
    let bound = few (way ++ visit ∷ []) (q ∷ seen) (q ∷ used) k next (omega (arith, count)) time in
    omega (arith, bound, parts_last way visit, ap length rest, big q node entered)

child_case : (tree : Tree) (m t : ℕ) (way : List Visit) (visit now : Visit) (q : ℕ) (seen used : List ℕ) (k : ℕ) (page : Result NodePage TreeFault)
    → IsBounded tree → HasFewParts tree m → IsFew tree m t → IsSeen tree (way ++ visit ∷ []) seen used → visit.rest ≡ Child q ∷ now.rest
    → length (tree_pages tree) ≡ length seen + k → turns tree (held_count tree) (way ++ visit ∷ []) ≤ suc t → opened tree q ≡ page
    → length (come tree (held_count tree) (way ++ visit ∷ [])) ≤ parts_left (way ++ visit ∷ []) + budget k m
child_case tree m t way visit now q seen used k (Err fault) bounds big few is rest count time refused =
    let after = seen_child tree way visit now q seen used is rest in
    let short : length (way ++ now ∷ []) ≤ held_count tree
    = omega (arith, after.few, seen_few tree (way ++ now ∷ []) seen (q ∷ used) after, tree_few tree bounds) in
    let followed = followed_fault tree (way ++ now ∷ []) q fault short refused in
    let same = ap length (come_step tree way visit now (Child q) rest ∙ followed.items) in
    let turn = turns_step tree way visit now (Child q) rest in
    let bound = few (way ++ now ∷ []) seen (q ∷ used) k after count (omega (arith, turn, followed.turns, time)) in
    omega (arith, bound, same, parts_last way visit, parts_last way now, ap length rest)
child_case tree m t way visit now q seen used k (Ok node) bounds big few is rest count time entered =
    let after = seen_child tree way visit now q seen used is rest in
    let short : length (way ++ now ∷ []) ≤ held_count tree
    = omega (arith, after.few, seen_few tree (way ++ now ∷ []) seen (q ∷ used) after, tree_few tree bounds) in
    let page : Visit = record { number = q; rest = parts_of node } in
    let followed = followed_page tree (way ++ now ∷ []) page q node short entered refl in
    let same = ap length (come_step tree way visit now (Child q) rest ∙ followed.items) in
    let turn = turns_step tree way visit now (Child q) rest in
    let here = one_less q q way visit now rest in
    let one = one_here q in
    let come_q : 1 ≤ times q (left (way ++ visit ∷ [])) = omega (arith, here, one) in
    let open_q = open_is tree q node entered in
    let new = seen_new tree (way ++ visit ∷ []) seen used q is come_q open_q.once in
    let listed = child_listed tree (way ++ visit ∷ []) seen used q is come_q bounds (ap is_some open_q.view) in
    let bound = enter_few tree m t (way ++ now ∷ []) page q node seen used k big few after new listed entered refl count
    (omega (arith, turn, followed.turns, time)) in
    omega (arith, bound, same, parts_last way visit, parts_last way now, ap length rest)

rest_case : (tree : Tree) (m t : ℕ) (way : List Visit) (visit : Visit) (seen used : List ℕ) (k : ℕ) (rest : List Part)
    → IsBounded tree → HasFewParts tree m → IsFew tree m t → IsSeen tree (way ++ visit ∷ []) seen used → visit.rest ≡ rest
    → length (tree_pages tree) ≡ length seen + k → turns tree (held_count tree) (way ++ visit ∷ []) ≤ suc t
    → length (come tree (held_count tree) (way ++ visit ∷ [])) ≤ parts_left (way ++ visit ∷ []) + budget k m
rest_case tree m t way visit seen used k [] bounds big few is rest count time =
    let same = ap length (come_left tree way visit rest) in
    let bound = few way seen used k (seen_left tree way visit seen used is rest) count (omega (arith, turns_left tree way visit, time)) in
    omega (arith, bound, same, parts_last way visit)
rest_case tree m t way visit seen used k (Item item ∷ others) bounds big few is rest count time =
    let now = rest_of visit others in
    let same = ap length (come_step tree way visit now (Item item) rest) in
    let turn = turns_step tree way visit now (Item item) rest in
    let bound = few (way ++ now ∷ []) seen used k (seen_item tree way visit now item seen used is rest) count (omega (arith, turn, time)) in
    omega (arith, bound, same, parts_last way visit, parts_last way now, ap length rest)
rest_case tree m t way visit seen used k (Child q ∷ others) bounds big few is rest count time =
    child_case tree m t way visit (rest_of visit others) q seen used k (opened tree q) bounds big few is rest count time refl

-- the last of a way
last_of : (way : List Visit) → (way ≡ []) ⊎ ((front : List Visit) × (visit : Visit) × (way ≡ front ++ visit ∷ []))
last_of [] = inl refl
last_of (visit ∷ way) =
    elim (last_of way) [
      | inl none ↦ inr ([], visit, ap (λ l. visit ∷ l) none)
      | inr last ↦ inr (visit ∷ last.0, last.1, ap (λ l. visit ∷ l) last.2)
    ]

few_come : (tree : Tree) (m t : ℕ) → IsBounded tree → HasFewParts tree m → IsFew tree m t
few_come tree m zero bounds big way seen used k is count time =
    elim (last_of way) [
      | inl none ↦ omega (arith, ap (λ w. length (come tree (held_count tree) w)) none)
      | inr last ↦ absurd (omega (arith, time, ap (turns tree (held_count tree)) last.2, turns_left tree last.0 last.1))
    ]
few_come tree m (suc t) bounds big way seen used k is count time =
    elim (last_of way) [
      | inl none ↦ omega (arith, ap (λ w. length (come tree (held_count tree) w)) none)
      | inr last ↦
          subst (λ w. length (come tree (held_count tree) w) ≤ parts_left w + budget k m) (sym last.2)
          (rest_case tree m t last.0 last.1 seen used k last.1.rest bounds big (few_come tree m t bounds big)
          (subst (λ w. IsSeen tree w seen used) last.2 is) refl count
          (omega (arith, time, ap (turns tree (held_count tree)) last.2)))
    ]

-- ---- how many parts a page has

few_row : (kind : Kind) (number index : ℕ) → length (row_parts kind number index) ≤ 1
few_row TableLeaf number index = omega arith
few_row TableInner number index = omega arith
few_row IndexLeaf number index = omega arith
few_row IndexInner number index = omega arith

few_child_parts : (child : Option ℕ) → length (child_parts child) ≤ 1
few_child_parts None = omega arith
few_child_parts (Some child) = omega arith

few_cell : (kind : Kind) (number index : ℕ) (read : Result Cell CellFault) → length (cell_parts kind number index read) ≤ 2
few_cell kind number index (Err fault) = omega arith
few_cell kind number index (Ok cell) =
    omega (arith, length-append (child_parts cell.child) (row_parts kind number index), few_child_parts cell.child, few_row kind number index)

few_cells : (node : NodePage) (many index : ℕ) → length (flat_map (λ i. cell_parts node.kind node.number i (cell_in node i)) (range_with_len index many)) ≤ 2 * many
few_cells node zero index = omega arith
few_cells node (suc many) index =
    omega (
      arith,
      few_cell node.kind node.number index (cell_in node index),
      few_cells node many (index + 1),
      length-append (cell_parts node.kind node.number index (cell_in node index)) (flat_map (λ i. cell_parts node.kind node.number i (cell_in node i)) (range_with_len (index + 1) many)),
    )

few_parts : (node : NodePage) → length (parts_of node) ≤ 2 * cell_count node + 1
unfolding parts_of_cells
few_parts node =
    omega (arith, few_cells node (cell_count node - 0) 0, few_child_parts (right_child node), length-append (parts_of_cells node 0) (child_parts (right_child node)))

record Fits (usable : ℕ) (node : NodePage) : Type 0 where
  same : node.usable ≡ usable
  fits : array_end node ≤ node.usable

array_case : (found node : NodePage) (b : Bool) → nat_lt found.usable (array_end found) ≡ b → with_array found ≡ Ok node → Fits found.usable node
unfolding with_array
array_case found node true is read = let clash : Err BadArray ≡ Ok node = rw is at read in absurd cc
array_case found node false is read =
    let same : Ok found ≡ Ok node = rw is at read in
    let one : found ≡ node = cc in
    subst (λ n. Fits found.usable n) one (record { same = refl; fits = ltb-false found.usable (array_end found) is })

kind_case : (page : List ℕ) (number usable : ℕ) (node : NodePage) (kind : Option Kind) → of_kind page number usable kind ≡ Ok node → Fits usable node
kind_case page number usable node None read = let clash : Err BadFlag ≡ Ok node = read in absurd cc
kind_case page number usable node (Some kind) read =
    array_case (record { page = page; number = number; usable = usable; kind = kind }) node _ refl read

node_fits : (page : List ℕ) (number usable : ℕ) (node : NodePage) → node_of page number usable ≡ Ok node → Fits usable node
unfolding node_of
node_fits page number usable node read = kind_case page number usable node (kind_of (byte_at page (header_at number))) read

page_parts : (tree : Tree) → tree.usable ≤ 65536 → HasFewParts tree 65537
page_parts tree small number node entered =
    let is = open_is tree number node entered in
    let fits = node_fits is.page number tree.usable node is.read in
    omega (arith, few_parts node, fits.fits, fits.same, small)

-- ---- all rows

budget_is : (k m : ℕ) → budget k m ≡ k * m
budget_is zero m = omega arith
budget_is (suc k) m = omega (arith, budget_is k m, suc-mul k m)

root_seen : (tree : Tree) (node : NodePage) → IsBounded tree → opened tree tree.root ≡ Ok node
    → IsSeen tree ((record { number = tree.root; rest = parts_of node }) ∷ []) (tree.root ∷ []) (tree.root ∷ [])
root_seen tree node bounds entered =
    let is = open_is tree tree.root node entered in
    record {
      apart = IsDistinct-cons nat_eq tree.root [] tt none_apart;
      listed = λ q there. listed_case tree tree.root [] q (nat_eq q tree.root) refl
          (named_listed tree tree.root bounds (root_named tree) (ap is_some is.view)) there (λ clash. let never : false ≡ true = clash in absurd cc);
      follow = λ q there. there;
      all = λ q.
          let own = ap (times q) (open_children tree tree.root node is) in
          let some = times_cons q tree.root (flat_map (children tree) (tree.root ∷ [])) (nat_eq q tree.root) refl in
          let one = times_cons q tree.root [] (nat_eq q tree.root) refl in
          let first = times_append q (part_children node) [] in
          let second = times_append q (children tree tree.root) [] in
          omega (arith, own, some, one, first, second);
      few = omega arith;
    }

rows_case : (tree : Tree) (page : Result NodePage TreeFault) → IsBounded tree → tree.usable ≤ 65536 → opened tree tree.root ≡ page
    → length (rows_of tree) ≤ 65537 * (length (tree_pages tree) + 1)
rows_case tree (Err fault) bounds small refused =
    let same = ap length (root_refused tree [] fault refused refl) in
    omega (arith, same)
rows_case tree (Ok node) bounds small entered =
    let visit : Visit = record { number = tree.root; rest = parts_of node } in
    let same = ap length (root_page tree [] (visit ∷ []) visit node entered refl refl refl) in
    let seen = root_seen tree node bounds entered in
    let short = seen_few tree (visit ∷ []) (tree.root ∷ []) (tree.root ∷ []) seen in
    let k = length (tree_pages tree) - 1 in
    let bound = few_come tree 65537 (turns tree (held_count tree) (visit ∷ [])) bounds (page_parts tree small) (visit ∷ []) (tree.root ∷ []) (tree.root ∷ []) k
    seen (omega (arith, short)) (omega arith) in
    omega (arith, same, bound, budget_is k 65537, page_parts tree small tree.root node entered, parts_last [] visit, short)

-- no more than the pages of the tree have parts
pub few_rows : (tree : Tree) → IsBounded tree → tree.usable ≤ 65536 → length (rows_of tree) ≤ 65537 * (length (tree_pages tree) + 1)
few_rows tree bounds small = rows_case tree (opened tree tree.root) bounds small refl

-- so they can be counted in 64 bits
pub rows_small : (tree : Tree) (rows : List RowItem) → IsBounded tree → tree.usable ≤ 65536 → tree.size < 2 ^ 32 → rows ≡ rows_of tree → length rows < 2 ^ 64
rows_small tree rows bounds small size is =
    let few = few_rows tree bounds small in
    let pages = tree_few tree bounds in
    let held = held_few tree.size tree.view in
    omega (arith, few, pages, held, size, ap length is)
