-- A walk goes on by one part: what it keeps, and what it gives.
use Rattle.std.proofs.Common.{◌≡◌, ℕ, suc, ◌+◌, ◌-◌, ◌<◌, ◌≤◌, Bool, true, false, ◌||◌, List, [], ◌∷◌, ◌++◌, Option, Some, None, unwrap_or, is_some, Result, Ok, Err, is_ok, if◌then◌else◌, length, nat_eq, nat_lt, refl, sym, ap, subst, ◌∙◌, arith, eq-eqb, append-nil, append_assoc, length-append}
use Rattle.std.specs.List.{flat_map, sum_by, IsDistinct, AllByRecursion}
use Rattle.std.specs.Map.{lookup}
use Rattle.std.specs.Iterator.{YieldsFirst}
use Rattle.std.proofs.lemmas.Cmp.{nat_eq_equiv}
use Rattle.std.proofs.lemmas.List.Sums.{sum_by-append}
use Rattle.std.proofs.lemmas.Map.Keys.{IsDistinct-push, IsDistinct-cons, IsDistinct-head, IsDistinct-tail}
use Rattle.sx_cell.specs.declared.cell.Kind.{Kind}
use Rattle.sx_node.specs.declared.node.NodeFault.TheVariants.{BadFlag, BadArray}
use Rattle.sx_node.specs.Nodes.{NodePage, node_of, of_kind, with_array, array_end, kind_of, header_at}
use Rattle.sx_base.specs.Bytes.{byte_at}
use Rattle.sx_tree.specs.declared.item.RowItem.{RowItem}
use Rattle.sx_tree.specs.declared.item.RowItem.TheVariants.{Fault}
use Rattle.sx_tree.specs.declared.item.TreeFault.{TreeFault}
use Rattle.sx_tree.specs.declared.parts.Part.{Part}
use Rattle.sx_tree.specs.declared.parts.Part.TheVariants.{Item, Child}
use Rattle.sx_tree.specs.Parts.{Visit, parts_of}
use Rattle.sx_tree.specs.Trees.{Tree, IsBounded, is_held, children, names, held_count, tree_pages}
use Rattle.sx_tree.specs.Rows.{opened, page_in, view_kind, root_kind, part_items, page_items, items_of, rows_of}
use Rattle.sx_tree.specs.Walks.{come, to_come, part_turns, page_turns, turns_of, turns, named_from, top_of, IsVisit, IsWay, numbers_of, said, IsWalk, IsNamed, IsFollowed, namers}
use Rattle.sx_tree.proofs.Numbers.{has, none_apart}
use Rattle.sx_tree.proofs.Rounds.{tree_held, tree_few, flat_in, named_listed, root_named}
use Rattle.sx_tree.proofs.Ways.{open_is, open_children, part_named, fresh, way_more, way_less, numbers_more, way_few, way_room, top_is, or_there}

-- ---- what the table says of a page that is named

child_named : (tree : Tree) (way : List Visit) (q : ℕ) → IsWay tree None way → IsNamed tree way (Child q) → has (names tree (tree_pages tree)) q ≡ true
child_named tree [] q way named = absurd (omega (arith, named.0))
child_named tree (visit ∷ below) q way named =
    let top = top_is tree None visit below way in
    let from : has (children tree top.number) q ≡ true = ap (λ t. has (named_from tree t) q) (sym top.is) ∙ named.1 in
    or_there (nat_eq q tree.root) (has (flat_map (children tree) (tree_pages tree)) q) (flat_in (children tree) (tree_pages tree) top.number q top.listed from)

held_none : (view : Option (List ℕ)) → is_some view ≡ false → view ≡ None
held_none None is = refl
held_none (Some page) is = let clash : true ≡ false = is in cc

said_case : (tree : Tree) (q : ℕ) (b h : Bool) → has (tree_pages tree) q ≡ b → is_held tree q ≡ h → (is_held tree q ≡ true → has (tree_pages tree) q ≡ true)
    → is_some (said tree q) ≡ is_held tree q
said_case tree q true h listed held known = rw listed (sym (tree_held tree q listed))
said_case tree q false true listed held known = let clash : false ≡ true = sym listed ∙ known held in cc
said_case tree q false false listed held known = rw listed (sym held)

pub said_held : (tree : Tree) (q : ℕ) → (is_held tree q ≡ true → has (tree_pages tree) q ≡ true) → is_some (said tree q) ≡ is_held tree q
said_held tree q known = said_case tree q (has (tree_pages tree) q) (is_held tree q) refl refl known

opens_case : (tree : Tree) (q : ℕ) (b h : Bool) → has (tree_pages tree) q ≡ b → is_held tree q ≡ h → (is_held tree q ≡ true → has (tree_pages tree) q ≡ true)
    → page_in tree.usable (root_kind tree) (unwrap_or (said tree q) false) q (tree.view q) ≡ opened tree q
unfolding opened
opens_case tree q true h listed held known = rw listed refl
opens_case tree q false true listed held known = let clash : false ≡ true = sym listed ∙ known held in cc
opens_case tree q false false listed held known = rw (held_none (tree.view q) held) refl

-- by what the table says a page is opened as it should be
pub said_opens : (tree : Tree) (q : ℕ) → (is_held tree q ≡ true → has (tree_pages tree) q ≡ true)
    → page_in tree.usable (root_kind tree) (unwrap_or (said tree q) false) q (tree.view q) ≡ opened tree q
said_opens tree q known = opens_case tree q (has (tree_pages tree) q) (is_held tree q) refl refl known

-- the same of a child in hand
pub child_held : (tree : Tree) (table : List (ℕ × Bool)) (kind : Option Kind) (way : List Visit) (room q : ℕ)
    → IsWalk tree table kind way room → IsNamed tree way (Child q) → is_some (said tree q) ≡ is_held tree q
child_held tree table kind way room q walk named =
    said_held tree q (named_listed tree q walk.bounds (child_named tree way q walk.is_way named))

pub child_opens : (tree : Tree) (table : List (ℕ × Bool)) (kind : Option Kind) (way : List Visit) (room q : ℕ)
    → IsWalk tree table kind way room → IsNamed tree way (Child q)
    → page_in tree.usable kind (unwrap_or (said tree q) false) q (tree.view q) ≡ opened tree q
child_opens tree table kind way room q walk named =
    ap (λ root. page_in tree.usable root (unwrap_or (said tree q) false) q (tree.view q)) walk.same_kind
    ∙ said_opens tree q (named_listed tree q walk.bounds (child_named tree way q walk.is_way named))

-- ---- the number of a page that was opened

array_case : (found node : NodePage) (b : Bool) → nat_lt found.usable (array_end found) ≡ b → with_array found ≡ Ok node → node.number ≡ found.number
unfolding with_array
array_case found node true is read = let clash : Err BadArray ≡ Ok node = rw is at read in cc
array_case found node false is read = let same : Ok found ≡ Ok node = rw is at read in ap (λ n. n.number) (sym (let e : found ≡ node = cc in e))

kind_case : (page : List ℕ) (number usable : ℕ) (node : NodePage) (kind : Option Kind) → of_kind page number usable kind ≡ Ok node → node.number ≡ number
kind_case page number usable node None read = let clash : Err BadFlag ≡ Ok node = read in cc
kind_case page number usable node (Some kind) read =
    array_case (record { page = page; number = number; usable = usable; kind = kind }) node _ refl read

node_number : (page : List ℕ) (number usable : ℕ) (node : NodePage) → node_of page number usable ≡ Ok node → node.number ≡ number
unfolding node_of
node_number page number usable node read = kind_case page number usable node (kind_of (byte_at page (header_at number))) read

pub open_number : (tree : Tree) (number : ℕ) (node : NodePage) → opened tree number ≡ Ok node → node.number ≡ number
open_number tree number node is =
    let open_ = open_is tree number node is in
    node_number open_.page number tree.usable node open_.read

-- ---- what a walk keeps

apart_less : (xs : List ℕ) (x : ℕ) → IsDistinct nat_eq (xs ++ x ∷ []) → IsDistinct nat_eq xs
apart_less [] x apart = none_apart
apart_less (y ∷ xs) x apart =
    IsDistinct-cons nat_eq y xs (front xs (IsDistinct-head nat_eq y (xs ++ x ∷ []) apart)) (apart_less xs x (IsDistinct-tail nat_eq y (xs ++ x ∷ []) apart))
  where
    front : (zs : List ℕ) → AllByRecursion (λ z. nat_eq y z ≡ false) (zs ++ x ∷ []) → AllByRecursion (λ z. nat_eq y z ≡ false) zs
    front [] all = tt
    front (z ∷ zs) all = (all.0, front zs all.1)

-- the page in hand has no part left
pub walk_left : (tree : Tree) (table : List (ℕ × Bool)) (kind : Option Kind) (way : List Visit) (visit : Visit) (room : ℕ)
    → IsWalk tree table kind (way ++ visit ∷ []) room → IsWalk tree table kind way room
walk_left tree table kind way visit room walk = record {
  bounds = walk.bounds;
  says = walk.says;
  same_kind = walk.same_kind;
  enough = walk.enough;
  is_way = (way_less tree None way visit walk.is_way).0;
  apart = apart_less (numbers_of way) visit.number (subst (IsDistinct nat_eq) (numbers_more way visit) walk.apart);
}

-- a part of the page in hand was taken
visit_step : (tree : Tree) (from : Option ℕ) (visit now : Visit) (part : Part) → IsVisit tree from visit → visit.rest ≡ part ∷ now.rest
    → now.number ≡ visit.number → IsVisit tree from now
visit_step tree from visit now part is rest same = record {
  named = ap (λ n. has (named_from tree from) n) same ∙ is.named;
  listed = ap (has (tree_pages tree)) same ∙ is.listed;
  node = is.node;
  entered = ap (opened tree) same ∙ is.entered;
  gone = is.gone ++ part ∷ [];
  parts = is.parts ∙ ap (λ l. is.gone ++ l) rest ∙ sym (append_assoc is.gone (part ∷ []) now.rest);
}

pub walk_step : (tree : Tree) (table : List (ℕ × Bool)) (kind : Option Kind) (way : List Visit) (visit now : Visit) (part : Part) (room more : ℕ)
    → IsWalk tree table kind (way ++ visit ∷ []) room → visit.rest ≡ part ∷ now.rest → now.number ≡ visit.number → room ≤ more
    → IsWalk tree table kind (way ++ now ∷ []) more
walk_step tree table kind way visit now part room more walk rest same grown =
    let before = way_less tree None way visit walk.is_way in
    let numbers : numbers_of (way ++ now ∷ []) ≡ numbers_of (way ++ visit ∷ [])
    = numbers_more way now ∙ ap (λ n. numbers_of way ++ n ∷ []) same ∙ sym (numbers_more way visit) in
    record {
      bounds = walk.bounds;
      says = walk.says;
      same_kind = walk.same_kind;
      enough = omega (arith, walk.enough, grown);
      is_way = way_more tree None way now before.0 (visit_step tree (top_of None way) visit now part before.1 rest same);
      apart = subst (IsDistinct nat_eq) (sym numbers) walk.apart;
    }

-- it is one of the page in hand
pub top_last : (from : Option ℕ) (way : List Visit) (visit : Visit) → top_of from (way ++ visit ∷ []) ≡ Some visit.number
top_last from [] visit = refl
top_last from (first ∷ below) visit = top_last (Some first.number) below visit

pub part_is_named : (tree : Tree) (table : List (ℕ × Bool)) (kind : Option Kind) (way : List Visit) (visit now : Visit) (part : Part) (room : ℕ)
    → IsWalk tree table kind (way ++ visit ∷ []) room → visit.rest ≡ part ∷ now.rest → now.number ≡ visit.number
    → IsNamed tree (way ++ now ∷ []) part
part_is_named tree table kind way visit now (Item item) room walk rest same = omega (arith, length-append way (now ∷ []))
part_is_named tree table kind way visit now (Child child) room walk rest same =
    let last = (way_less tree None way visit walk.is_way).1 in
    let is = open_is tree visit.number last.node last.entered in
    let named : has (children tree visit.number) child ≡ true
    = ap (λ l. has l child) (open_children tree visit.number last.node is)
    ∙ part_named last.node last.gone now.rest child (last.parts ∙ ap (λ l. last.gone ++ l) rest) in
    (omega (arith, length-append way (now ∷ [])), ap (λ t. has (named_from tree t) child) (top_last None way now ∙ ap Some same) ∙ named)

-- a child was entered
pub new_apart : (tree : Tree) (way : List Visit) (q : ℕ) (node : NodePage) → IsWay tree None way → IsDistinct nat_eq (numbers_of way)
    → has (named_from tree (top_of None way)) q ≡ true → opened tree q ≡ Ok node → has (numbers_of way) q ≡ false
new_apart tree way q node is_way apart named entered =
    fresh tree None way q is_way apart tt named (open_is tree q node entered).once

pub walk_entered : (tree : Tree) (table : List (ℕ × Bool)) (kind : Option Kind) (way : List Visit) (visit : Visit) (node : NodePage) (q room more : ℕ)
    → IsWalk tree table kind way room → has (named_from tree (top_of None way)) q ≡ true → has (tree_pages tree) q ≡ true
    → opened tree q ≡ Ok node → visit.number ≡ q → visit.rest ≡ parts_of node → room ≤ more
    → IsWalk tree table kind (way ++ visit ∷ []) more
walk_entered tree table kind way visit node q room more walk named listed entered number rest grown =
    let out : has (numbers_of way) visit.number ≡ false
    = ap (has (numbers_of way)) number ∙ new_apart tree way q node walk.is_way walk.apart named entered in
    record {
      bounds = walk.bounds;
      says = walk.says;
      same_kind = walk.same_kind;
      enough = omega (arith, walk.enough, grown);
      is_way = way_more tree None way visit walk.is_way (record {
        named = ap (has (named_from tree (top_of None way))) number ∙ named;
        listed = ap (has (tree_pages tree)) number ∙ listed;
        node = node;
        entered = ap (opened tree) number ∙ entered;
        gone = [];
        parts = sym rest;
      });
      apart = subst (IsDistinct nat_eq) (sym (numbers_more way visit)) (IsDistinct-push nat_eq_equiv (numbers_of way) visit.number walk.apart out);
    }

-- there is room for it
pub walk_room : (tree : Tree) (table : List (ℕ × Bool)) (kind : Option Kind) (way : List Visit) (visit : Visit) (room : ℕ)
    → IsWalk tree table kind (way ++ visit ∷ []) room → length way < room
walk_room tree table kind way visit room walk =
    let apart = apart_less (numbers_of way) visit.number (subst (IsDistinct nat_eq) (numbers_more way visit) walk.apart) in
    let few = way_room tree way visit walk.is_way apart in
    omega (arith, few, walk.enough)

pub walk_few : (tree : Tree) (table : List (ℕ × Bool)) (kind : Option Kind) (way : List Visit) (room : ℕ)
    → IsWalk tree table kind way room → length way ≤ held_count tree
walk_few tree table kind way room walk =
    let few = way_few tree way walk.is_way walk.apart in
    omega (arith, few, tree_few tree walk.bounds)

pub open_listed : (tree : Tree) (way : List Visit) (q : ℕ) (node : NodePage) → IsBounded tree → has (names tree (tree_pages tree)) q ≡ true
    → opened tree q ≡ Ok node → has (tree_pages tree) q ≡ true
open_listed tree way q node bounds named entered =
    let is = open_is tree q node entered in
    named_listed tree q bounds named (ap is_some is.view)

-- ---- what it gives

less_none : (n : ℕ) → n ≡ n - 0
less_none n = omega arith

come_last : (tree : Tree) (most : ℕ) (way : List Visit) (visit : Visit)
    → come tree most (way ++ visit ∷ []) ≡ flat_map (part_items (items_of tree (most - length way))) visit.rest ++ come tree most way
come_last tree most [] visit =
    ap (λ n. flat_map (part_items (items_of tree n)) visit.rest) (less_none most)
    ∙ sym (append-nil (flat_map (part_items (items_of tree (most - 0))) visit.rest))
come_last tree most (first ∷ below) visit =
    let here : most - 1 - length below ≡ most - length (first ∷ below) = omega arith in
    ap (λ front. front ++ flat_map (part_items (items_of tree most)) first.rest) (come_last tree (most - 1) below visit)
    ∙ append_assoc (flat_map (part_items (items_of tree (most - 1 - length below))) visit.rest) (come tree (most - 1) below) (flat_map (part_items (items_of tree most)) first.rest)
    ∙ ap (λ n. flat_map (part_items (items_of tree n)) visit.rest ++ come tree most (first ∷ below)) here

turns_last : (tree : Tree) (most : ℕ) (way : List Visit) (visit : Visit)
    → turns tree most (way ++ visit ∷ []) ≡ 1 + sum_by (part_turns (turns_of tree (most - length way))) visit.rest + turns tree most way
turns_last tree most [] visit =
    let rest = ap (λ n. sum_by (part_turns (turns_of tree n)) visit.rest) (less_none most) in
    omega (arith, rest)
turns_last tree most (first ∷ below) visit =
    let here : most - 1 - length below ≡ most - length (first ∷ below) = omega arith in
    let rest = ap (λ n. sum_by (part_turns (turns_of tree n)) visit.rest) here in
    let before = turns_last tree (most - 1) below visit in
    omega (arith, rest, before)

-- nothing where no part is left
pub come_left : (tree : Tree) (way : List Visit) (visit : Visit) → visit.rest ≡ []
    → come tree (held_count tree) (way ++ visit ∷ []) ≡ come tree (held_count tree) way
come_left tree way visit none =
    come_last tree (held_count tree) way visit
    ∙ ap (λ rest. flat_map (part_items (items_of tree (held_count tree - length way))) rest ++ come tree (held_count tree) way) none

pub turns_left : (tree : Tree) (way : List Visit) (visit : Visit) → turns tree (held_count tree) way < turns tree (held_count tree) (way ++ visit ∷ [])
turns_left tree way visit = omega (arith, turns_last tree (held_count tree) way visit)

fuel_here : (held : ℕ) (way : List Visit) (now : Visit) → held - length way ≡ held + 1 - length (way ++ now ∷ [])
fuel_here held way now = omega (arith, length-append way (now ∷ []))

-- the items of a part that was taken
pub come_step : (tree : Tree) (way : List Visit) (visit now : Visit) (part : Part) → visit.rest ≡ part ∷ now.rest
    → come tree (held_count tree) (way ++ visit ∷ [])
    ≡ part_items (items_of tree (held_count tree + 1 - length (way ++ now ∷ []))) part ++ come tree (held_count tree) (way ++ now ∷ [])
come_step tree way visit now part rest =
    let n = held_count tree - length way in
    let f = part_items (items_of tree n) in
    come_last tree (held_count tree) way visit
    ∙ ap (λ l. flat_map f l ++ come tree (held_count tree) way) rest
    ∙ append_assoc (f part) (flat_map f now.rest) (come tree (held_count tree) way)
    ∙ ap (λ l. f part ++ l) (sym (come_last tree (held_count tree) way now))
    ∙ ap (λ m. part_items (items_of tree m) part ++ come tree (held_count tree) (way ++ now ∷ [])) (fuel_here (held_count tree) way now)

pub turns_step : (tree : Tree) (way : List Visit) (visit now : Visit) (part : Part) → visit.rest ≡ part ∷ now.rest
    → turns tree (held_count tree) (way ++ visit ∷ [])
    ≡ part_turns (turns_of tree (held_count tree + 1 - length (way ++ now ∷ []))) part + turns tree (held_count tree) (way ++ now ∷ [])
turns_step tree way visit now part rest =
    let n = held_count tree - length way in
    let f = part_turns (turns_of tree n) in
    let old = turns_last tree (held_count tree) way visit in
    let new = turns_last tree (held_count tree) way now in
    let split : sum_by f visit.rest ≡ sum_by f (part ∷ []) + sum_by f now.rest = ap (sum_by f) rest ∙ sum_by-append f (part ∷ []) now.rest in
    let one : sum_by f (part ∷ []) ≡ f part = omega arith in
    let here = ap (λ m. part_turns (turns_of tree m) part) (fuel_here (held_count tree) way now) in
    omega (arith, old, new, split, one, here)

-- a child that isn't entered is a fault
fuel_more : (tree : Tree) (way : List Visit) → length way ≤ held_count tree → held_count tree + 1 - length way ≡ suc (held_count tree - length way)
fuel_more tree way few = omega arith

pub followed_fault : (tree : Tree) (way : List Visit) (q : ℕ) (fault : TreeFault)
    → length way ≤ held_count tree → opened tree q ≡ Err fault → IsFollowed tree way way (Child q) (Some (Fault fault q 0))
followed_fault tree way q fault few is =
    let fuel = fuel_more tree way few in
    let below = items_of tree (held_count tree - length way) in
    record {
      items = ap (λ n. items_of tree n q ++ come tree (held_count tree) way) fuel
          ∙ ap (λ o. page_items below q o ++ come tree (held_count tree) way) is;
      turns = omega arith;
    }

-- one that is entered gives its parts
pub followed_page : (tree : Tree) (way : List Visit) (visit : Visit) (q : ℕ) (node : NodePage)
    → length way ≤ held_count tree → opened tree q ≡ Ok node → visit.rest ≡ parts_of node
    → IsFollowed tree way (way ++ visit ∷ []) (Child q) None
followed_page tree way visit q node few is rest =
    let fuel = fuel_more tree way few in
    let below = items_of tree (held_count tree - length way) in
    let turn = turns_of tree (held_count tree - length way) in
    let size : turns_of tree (held_count tree + 1 - length way) q ≡ page_turns turn (Ok node)
    = ap (λ n. turns_of tree n q) fuel ∙ ap (page_turns turn) is in
    let long = ap (sum_by (part_turns turn)) rest in
    let last = turns_last tree (held_count tree) way visit in
    record {
      items = ap (λ n. items_of tree n q ++ come tree (held_count tree) way) fuel
          ∙ ap (λ o. page_items below q o ++ come tree (held_count tree) way) is
          ∙ ap (λ l. flat_map (part_items below) l ++ come tree (held_count tree) way) (sym rest)
          ∙ sym (come_last tree (held_count tree) way visit);
      turns = omega (arith, size, long, last);
    }

-- ---- the same by what a call of the code says

-- the table was asked for a child
pub asked_held : (tree : Tree) (table : List (ℕ × Bool)) (kind : Option Kind) (way : List Visit) (room q : ℕ) (part : Part) (shared : Option Bool)
    → IsWalk tree table kind way room → IsNamed tree way part → part ≡ Child q → shared ≡ said tree q → is_some shared ≡ is_held tree q
asked_held tree table kind way room q part shared walk named is asked =
    ap is_some asked ∙ child_held tree table kind way room q walk (subst (IsNamed tree way) is named)

-- and it was opened
pub asked_opens : (tree : Tree) (table : List (ℕ × Bool)) (kind : Option Kind) (way : List Visit) (room q : ℕ) (part : Part) (shared : Option Bool)
    (result : Result NodePage TreeFault)
    → IsWalk tree table kind way room → IsNamed tree way part → part ≡ Child q → shared ≡ said tree q
    → result ≡ page_in tree.usable kind (unwrap_or shared false) q (tree.view q) → opened tree q ≡ result
asked_opens tree table kind way room q part shared result walk named is asked opens =
    sym (child_opens tree table kind way room q walk (subst (IsNamed tree way) is named))
    ∙ ap (λ s. page_in tree.usable kind (unwrap_or s false) q (tree.view q)) (sym asked)
    ∙ sym opens

-- a page was pushed onto the way
pub pushed_is : {E : Type 0} (old new : List Visit) (visit : Visit) (pushed : Result (Unit {0}) E) (done : Unit {0})
    → new ≡ (if is_ok pushed then old ++ visit ∷ [] else old) → pushed ≡ Ok done → new ≡ old ++ visit ∷ []
pushed_is old new visit pushed done items is = items ∙ ap (λ ok. if is_ok ok then old ++ visit ∷ [] else old) is

-- and entered
pub asked_enters : (tree : Tree) (table : List (ℕ × Bool)) (kind : Option Kind) (way new : List Visit) (room more q : ℕ) (part : Part) (visit : Visit) (node : NodePage)
    → IsWalk tree table kind way room → IsNamed tree way part → part ≡ Child q → opened tree q ≡ Ok node
    → visit.number ≡ q → visit.rest ≡ parts_of node → new ≡ way ++ visit ∷ [] → room ≤ more → IsWalk tree table kind new more
asked_enters tree table kind way new room more q part visit node walk named is entered number rest pushed grown =
    let child = subst (IsNamed tree way) is named in
    subst (λ w. IsWalk tree table kind w more) (sym pushed)
    (walk_entered tree table kind way visit node q room more walk child.1
    (open_listed tree way q node walk.bounds (child_named tree way q walk.is_way child) entered)
    entered number rest grown)

pub asked_page : (tree : Tree) (table : List (ℕ × Bool)) (kind : Option Kind) (way new : List Visit) (room q : ℕ) (part : Part) (visit : Visit) (node : NodePage)
    → IsWalk tree table kind way room → part ≡ Child q → opened tree q ≡ Ok node
    → visit.rest ≡ parts_of node → new ≡ way ++ visit ∷ [] → IsFollowed tree way new part None
asked_page tree table kind way new room q part visit node walk is entered rest pushed =
    subst (λ p. IsFollowed tree way new p None) (sym is)
    (subst (λ w. IsFollowed tree way w (Child q) None) (sym pushed) (followed_page tree way visit q node (walk_few tree table kind way room walk) entered rest))

pub asked_fault : (tree : Tree) (table : List (ℕ × Bool)) (kind : Option Kind) (way : List Visit) (room q : ℕ) (part : Part) (fault : TreeFault)
    → IsWalk tree table kind way room → part ≡ Child q → opened tree q ≡ Err fault → IsFollowed tree way way part (Some (Fault fault q 0))
asked_fault tree table kind way room q part fault walk is refused =
    subst (λ p. IsFollowed tree way way p (Some (Fault fault q 0))) (sym is) (followed_fault tree way q fault (walk_few tree table kind way room walk) refused)

-- a part was taken, and its page put back
pub taken_walk : (tree : Tree) (table : List (ℕ × Bool)) (kind : Option Kind) (way rest pushed : List Visit) (visit now : Visit) (part : Part) (room more : ℕ)
    → IsWalk tree table kind way room → way ≡ rest ++ visit ∷ [] → pushed ≡ rest ++ now ∷ [] → visit.rest ≡ part ∷ now.rest
    → now.number ≡ visit.number → room ≤ more → IsWalk tree table kind pushed more × IsNamed tree pushed part
taken_walk tree table kind way rest pushed visit now part room more walk popped put parts same grown =
    let before = subst (λ w. IsWalk tree table kind w room) popped walk in (
      subst (λ w. IsWalk tree table kind w more) (sym put) (walk_step tree table kind rest visit now part room more before parts same grown),
      subst (λ w. IsNamed tree w part) (sym put) (part_is_named tree table kind rest visit now part room before parts same),
    )

pub taken_come : (tree : Tree) (way rest pushed : List Visit) (visit now : Visit) (part : Part)
    → way ≡ rest ++ visit ∷ [] → pushed ≡ rest ++ now ∷ [] → visit.rest ≡ part ∷ now.rest
    → come tree (held_count tree) way ≡ part_items (items_of tree (held_count tree + 1 - length pushed)) part ++ come tree (held_count tree) pushed
taken_come tree way rest pushed visit now part popped put parts =
    ap (come tree (held_count tree)) popped
    ∙ come_step tree rest visit now part parts
    ∙ ap (λ w. part_items (items_of tree (held_count tree + 1 - length w)) part ++ come tree (held_count tree) w) (sym put)

pub taken_turns : (tree : Tree) (way rest pushed : List Visit) (visit now : Visit) (part : Part)
    → way ≡ rest ++ visit ∷ [] → pushed ≡ rest ++ now ∷ [] → visit.rest ≡ part ∷ now.rest
    → turns tree (held_count tree) way ≡ part_turns (turns_of tree (held_count tree + 1 - length pushed)) part + turns tree (held_count tree) pushed
taken_turns tree way rest pushed visit now part popped put parts =
    ap (turns tree (held_count tree)) popped
    ∙ turns_step tree rest visit now part parts
    ∙ ap (λ w. part_turns (turns_of tree (held_count tree + 1 - length w)) part + turns tree (held_count tree) w) (sym put)

-- a page had no part left
pub spent_walk : (tree : Tree) (table : List (ℕ × Bool)) (kind : Option Kind) (way rest : List Visit) (visit : Visit) (room more : ℕ)
    → IsWalk tree table kind way room → way ≡ rest ++ visit ∷ [] → more ≡ room → IsWalk tree table kind rest more
spent_walk tree table kind way rest visit room more walk popped same =
    subst (IsWalk tree table kind rest) (sym same) (walk_left tree table kind rest visit room (subst (λ w. IsWalk tree table kind w room) popped walk))

pub spent_come : (tree : Tree) (way rest : List Visit) (visit : Visit) → way ≡ rest ++ visit ∷ [] → visit.rest ≡ []
    → come tree (held_count tree) way ≡ come tree (held_count tree) rest
spent_come tree way rest visit popped none = ap (come tree (held_count tree)) popped ∙ come_left tree rest visit none

pub spent_turns : (tree : Tree) (way rest : List Visit) (visit : Visit) → way ≡ rest ++ visit ∷ []
    → turns tree (held_count tree) rest < turns tree (held_count tree) way
spent_turns tree way rest visit popped = subst (λ w. turns tree (held_count tree) rest < turns tree (held_count tree) w) (sym popped) (turns_left tree rest visit)

-- ---- the whole walk

no_page : (way : List Visit) → length way ≡ 0 → way ≡ []
no_page [] none = refl
no_page (visit ∷ way) none = absurd (omega (arith, none))

-- nothing is to come where no page is on the way
pub way_end : (tree : Tree) (old way new : List Visit) (len : ℕ) → come tree (held_count tree) old ≡ come tree (held_count tree) way
    → way ≡ new ++ [] → len ≡ 0 → len ≡ length new → (come tree (held_count tree) old ≡ []) × (come tree (held_count tree) new ≡ [])
way_end tree old way new len same popped none long =
    let empty : new ≡ [] = no_page new (sym long ∙ none) in
    (same ∙ ap (come tree (held_count tree)) (popped ∙ append-nil new ∙ empty), ap (come tree (held_count tree)) empty)

-- a call of next
pub next_is : (tree : Tree) (fault taken : Option TreeFault) (old new : List Visit) (now : List RowItem) (result : Option RowItem)
    → to_come tree fault old ≡ now → fault ≡ None → taken ≡ None → YieldsFirst (come tree (held_count tree)) old result new
    → YieldsFirst (λ (it : List RowItem). it) now result (to_come tree taken new)
next_is tree fault taken old new now None is none gone step =
    (sym is ∙ ap (λ f. to_come tree f old) none ∙ step.0, ap (λ f. to_come tree f new) gone ∙ step.1)
next_is tree fault taken old new now (Some item) is none gone step =
    sym is ∙ ap (λ f. to_come tree f old) none ∙ step ∙ ap (λ rest. item ∷ rest) (sym (ap (λ f. to_come tree f new) gone))

-- the root
root_listed : (tree : Tree) → IsBounded tree → is_held tree tree.root ≡ true → has (tree_pages tree) tree.root ≡ true
root_listed tree bounds held = named_listed tree tree.root bounds (root_named tree) held

pub root_held : (tree : Tree) (table : List (ℕ × Bool)) (kind : Option Kind) (room : ℕ) (shared : Option Bool) → IsWalk tree table kind [] room
    → shared ≡ said tree tree.root → is_some shared ≡ is_held tree tree.root
root_held tree table kind room shared walk asked = ap is_some asked ∙ said_held tree tree.root (root_listed tree walk.bounds)

pub root_opens : (tree : Tree) (table : List (ℕ × Bool)) (kind : Option Kind) (room : ℕ) (shared : Option Bool) (result : Result NodePage TreeFault)
    → IsWalk tree table kind [] room → shared ≡ said tree tree.root
    → result ≡ page_in tree.usable kind (unwrap_or shared false) tree.root (tree.view tree.root) → opened tree tree.root ≡ result
root_opens tree table kind room shared result walk asked opens =
    sym (ap (λ root. page_in tree.usable root (unwrap_or (said tree tree.root) false) tree.root (tree.view tree.root)) walk.same_kind
    ∙ said_opens tree tree.root (root_listed tree walk.bounds))
    ∙ ap (λ s. page_in tree.usable kind (unwrap_or s false) tree.root (tree.view tree.root)) (sym asked)
    ∙ sym opens

pub root_enters : (tree : Tree) (table : List (ℕ × Bool)) (kind : Option Kind) (way new : List Visit) (room more : ℕ) (visit : Visit) (node : NodePage)
    → IsWalk tree table kind [] room → opened tree tree.root ≡ Ok node → visit.number ≡ tree.root → visit.rest ≡ parts_of node
    → way ≡ [] → new ≡ way ++ visit ∷ [] → room ≤ more → IsWalk tree table kind new more
root_enters tree table kind way new room more visit node walk entered number rest empty pushed grown =
    subst (λ w. IsWalk tree table kind w more) (sym (pushed ∙ ap (λ w. w ++ visit ∷ []) empty))
    (walk_entered tree table kind [] visit node tree.root room more walk (ap (λ b. b || false) (eq-eqb tree.root tree.root refl))
    (open_listed tree [] tree.root node walk.bounds (root_named tree) entered) entered number rest grown)

held_more : (n : ℕ) → n + 1 ≡ suc n
held_more n = omega arith

pub root_page : (tree : Tree) (way new : List Visit) (visit : Visit) (node : NodePage) → opened tree tree.root ≡ Ok node → visit.rest ≡ parts_of node
    → way ≡ [] → new ≡ way ++ visit ∷ [] → to_come tree None new ≡ rows_of tree
root_page tree way new visit node entered rest empty pushed =
    let below = items_of tree (held_count tree) in
    ap (come tree (held_count tree)) (pushed ∙ ap (λ w. w ++ visit ∷ []) empty)
    ∙ ap (flat_map (part_items below)) rest
    ∙ sym (ap (λ n. items_of tree n tree.root) (held_more (held_count tree)) ∙ ap (page_items below tree.root) entered)

pub root_refused : (tree : Tree) (way : List Visit) (fault : TreeFault) → opened tree tree.root ≡ Err fault → way ≡ []
    → to_come tree (Some fault) way ≡ rows_of tree
root_refused tree way fault is empty =
    ap (to_come tree (Some fault)) empty
    ∙ sym (ap (λ n. items_of tree n tree.root) (held_more (held_count tree)) ∙ ap (page_items (items_of tree (held_count tree)) tree.root) is)

-- before the walk
pub walk_start : (tree : Tree) (table : List (ℕ × Bool)) (kind : Option Kind) (room : ℕ) → IsBounded tree
    → ((number : ℕ) → lookup (nat_eq number) table ≡ said tree number) → kind ≡ root_kind tree → length (namers tree (tree_pages tree)) < room
    → IsWalk tree table kind [] room
walk_start tree table kind room bounds says same_kind enough =
    record { bounds = bounds; says = says; same_kind = same_kind; enough = enough; is_way = tt; apart = none_apart }

pub kind_is : (tree : Tree) (kind : Option Kind) → kind ≡ view_kind tree.usable tree.root (tree.view tree.root) → kind ≡ root_kind tree
unfolding root_kind
kind_is tree kind is = is

pub empty_walk : (tree : Tree) (table : List (ℕ × Bool)) (kind : Option Kind) (way : List Visit) (room : ℕ)
    → IsWalk tree table kind [] room → way ≡ [] → IsWalk tree table kind way room
empty_walk tree table kind way room walk empty = subst (λ w. IsWalk tree table kind w room) (sym empty) walk

pub walk_room_first : (tree : Tree) (table : List (ℕ × Bool)) (kind : Option Kind) (way : List Visit) (room : ℕ) (visit : Visit) (node : NodePage)
    → IsWalk tree table kind [] room → opened tree tree.root ≡ Ok node → visit.number ≡ tree.root → visit.rest ≡ parts_of node
    → way ≡ [] → length way < room
walk_room_first tree table kind way room visit node walk entered number rest empty =
    let more : IsWalk tree table kind (visit ∷ []) room
    = root_enters tree table kind [] (visit ∷ []) room room visit node walk entered number rest refl refl (omega arith) in
    let first = walk_room tree table kind [] visit room more in
    subst (λ w. length w < room) (sym empty) first
