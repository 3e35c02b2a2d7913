-- How many pages stand one below the other.
use Rattle.std.proofs.Common.{◌≡◌, ℕ, zero, suc, ◌+◌, ◌-◌, ◌≤◌, Bool, true, false, ◌||◌, List, [], ◌∷◌, ◌++◌, Some, None, Result, Ok, Err, length, nat_eq, refl, sym, ap, subst, ◌∙◌, arith, eq-eqb, append_assoc, length-append}
use Rattle.std.specs.List.{flat_map, IsDistinct}
use Rattle.std.proofs.lemmas.Cmp.{nat_eq_equiv}
use Rattle.std.proofs.lemmas.Map.Keys.{IsDistinct-push}
use Rattle.sx_node.specs.Nodes.{NodePage}
use Rattle.sx_tree.specs.declared.item.RowItem.{RowItem}
use Rattle.sx_tree.specs.declared.item.TreeFault.{TreeFault}
use Rattle.sx_tree.specs.declared.parts.Part.{Part}
use Rattle.sx_tree.specs.declared.parts.Part.TheVariants.{Item, Child}
use Rattle.sx_tree.specs.Parts.{Visit, parts_of}
use Rattle.sx_tree.specs.Trees.{Tree, IsBounded, names, children, held_count, tree_pages}
use Rattle.sx_tree.specs.Rows.{opened, part_items, page_items, items_of, rows_of}
use Rattle.sx_tree.specs.Walks.{named_from, top_of, IsWay, numbers_of}
use Rattle.sx_tree.proofs.Numbers.{has, none_apart}
use Rattle.sx_tree.proofs.Rounds.{tree_few, flat_in}
use Rattle.sx_tree.proofs.Ways.{open_is, open_children, part_named, way_more, numbers_more, way_few, top_is, or_there}
use Rattle.sx_tree.proofs.Steps.{new_apart, open_listed, top_last}

top_named : (tree : Tree) (way : List Visit) (q : ℕ) → IsWay tree None way → has (named_from tree (top_of None way)) q ≡ true
    → has (names tree (tree_pages tree)) q ≡ true
top_named tree [] q way named = right (nat_eq q tree.root) named
  where
    right : (a : Bool) → (a || false) ≡ true → (a || has (flat_map (children tree) (tree_pages tree)) q) ≡ true
    right true is = refl
    right false is = let clash : false ≡ true = is in cc
top_named tree (visit ∷ below) q way named =
    let top = top_is tree None visit below way in
    or_there (nat_eq q tree.root) (has (flat_map (children tree) (tree_pages tree)) q)
    (flat_in (children tree) (tree_pages tree) top.number q top.listed (ap (λ t. has (named_from tree t) q) (sym top.is) ∙ named))

-- a way that goes into one page more
record IsLonger (tree : Tree) (way : List Visit) (q : ℕ) (node : NodePage) : Type 0 where
  visit : Visit
  number : visit.number ≡ q
  is_way : IsWay tree None (way ++ visit ∷ [])
  apart : IsDistinct nat_eq (numbers_of (way ++ visit ∷ []))

longer : (tree : Tree) (way : List Visit) (q : ℕ) (node : NodePage) → IsBounded tree → IsWay tree None way → IsDistinct nat_eq (numbers_of way)
    → has (named_from tree (top_of None way)) q ≡ true → opened tree q ≡ Ok node → IsLonger tree way q node
longer tree way q node bounds is_way apart named entered =
    let visit : Visit = record { number = q; rest = parts_of node } in
    record {
      visit = visit;
      number = refl;
      is_way = way_more tree None way visit is_way (record {
        named = named;
        listed = open_listed tree way q node bounds (top_named tree way q is_way named) entered;
        node = node;
        entered = entered;
        gone = [];
        parts = refl;
      });
      apart = subst (IsDistinct nat_eq) (sym (numbers_more way visit))
          (IsDistinct-push nat_eq_equiv (numbers_of way) q apart (new_apart tree way q node is_way apart named entered));
    }

parts_same : (node : NodePage) (f g : ℕ → List RowItem) → ((child : ℕ) (gone rest : List Part) → parts_of node ≡ gone ++ (Child child ∷ rest) → f child ≡ g child)
    → (gone rest : List Part) → parts_of node ≡ gone ++ rest → flat_map (part_items f) rest ≡ flat_map (part_items g) rest
parts_same node f g same gone [] is = refl
parts_same node f g same gone (Item item ∷ rest) is =
    ap (λ l. item ∷ l) (parts_same node f g same (gone ++ Item item ∷ []) rest (is ∙ sym (append_assoc gone (Item item ∷ []) rest)))
parts_same node f g same gone (Child child ∷ rest) is =
    ap (λ l. l ++ flat_map (part_items f) rest) (same child gone rest is)
    ∙ ap (λ l. g child ++ l) (parts_same node f g same (gone ++ Child child ∷ []) rest (is ∙ sym (append_assoc gone (Child child ∷ []) rest)))

page_same : (tree : Tree) (q : ℕ) (f g : ℕ → List RowItem) (page : Result NodePage TreeFault) → opened tree q ≡ page
    → ((node : NodePage) → opened tree q ≡ Ok node → flat_map (part_items f) (parts_of node) ≡ flat_map (part_items g) (parts_of node))
    → page_items f q page ≡ page_items g q page
page_same tree q f g (Err kind) is same = refl
page_same tree q f g (Ok node) is same = same node is

-- a page on whose way there are so many others needs no more pages below it than are left
more_items : (tree : Tree) (n more : ℕ) (way : List Visit) (q : ℕ) → IsBounded tree → n + length way ≡ held_count tree + 1 → IsWay tree None way
    → IsDistinct nat_eq (numbers_of way) → has (named_from tree (top_of None way)) q ≡ true → items_of tree (n + more) q ≡ items_of tree n q
more_items tree zero more way q bounds fuel is_way apart named =
    absurd (omega (arith, fuel, way_few tree way is_way apart, tree_few tree bounds))
more_items tree (suc n) more way q bounds fuel is_way apart named =
    let here : suc n + more ≡ suc (n + more) = omega arith in
    ap (λ k. items_of tree k q) here
    ∙ page_same tree q (items_of tree (n + more)) (items_of tree n) (opened tree q) refl (λ node entered.
    let next = longer tree way q node bounds is_way apart named entered in
    parts_same node (items_of tree (n + more)) (items_of tree n) (λ child gone rest is.
    more_items tree n more (way ++ next.visit ∷ []) child bounds (omega (arith, fuel, length-append way (next.visit ∷ []))) next.is_way next.apart
    (ap (λ t. has (named_from tree t) child) (top_last None way next.visit ∙ ap Some next.number)
    ∙ ap (λ l. has l child) (open_children tree q node (open_is tree q node entered))
    ∙ part_named node gone rest child is))
    [] (parts_of node) refl)

pub more_rows : (tree : Tree) (most : ℕ) → IsBounded tree → held_count tree + 1 ≤ most → items_of tree most tree.root ≡ rows_of tree
more_rows tree most bounds enough =
    let all : held_count tree + 1 + (most - (held_count tree + 1)) ≡ most = omega arith in
    ap (λ n. items_of tree n tree.root) (sym all)
    ∙ more_items tree (held_count tree + 1) (most - (held_count tree + 1)) [] tree.root bounds (omega arith) tt none_apart
    (ap (λ b. b || false) (eq-eqb tree.root tree.root refl))
