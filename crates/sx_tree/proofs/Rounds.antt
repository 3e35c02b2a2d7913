-- The rounds that find the pages of a tree, against a list of pages that is closed.
use Rattle.std.proofs.Common.{◌≡◌, inl, inr, ℕ, zero, suc, ◌+◌, ◌-◌, ◌<◌, ◌≤◌, min, Bool, true, false, ◌||◌, ◌&&◌, List, [], ◌∷◌, ◌++◌, Option, Some, None, length, take, drop, is_some, filter, nat_eq, refl, sym, ap, subst, ◌∙◌, arith, append-nil, eqb-true, eq-eqb, eq-or-lt_of_le, length-append}
use Rattle.std.specs.Prelude.{◌⊎◌}
use Rattle.std.specs.List.{flat_map, IsDistinct, range_with_len}
use Rattle.std.proofs.Math.Seq.{take-append_seam, take-append-add}
use Rattle.std.proofs.lemmas.List.{take-append-drop, take-append-le, take_all}
use Rattle.std.proofs.lemmas.List.Elements.{filter-append}
use Rattle.std.proofs.lemmas.List.Folds.{list_any-append}
use Rattle.std.proofs.lemmas.Grind.{flat_map-append}
use Rattle.std.proofs.lemmas.Bool.{cases_lt}
use Rattle.std.proofs.lemmas.Cmp.{nat_eq_equiv}
use Rattle.std.proofs.lemmas.Map.Made.{length-le_from_is_member}
use Rattle.sx_base.specs.Held.{held_pages}
use Rattle.sx_tree.specs.Trees.{Tree, IsBounded, is_held, children, names, each_once, named_by, rounds, held_count, tree_pages, stands_in, IsClosed}
use Rattle.sx_tree.proofs.Numbers.{has, none_apart, once_grows, once_has, once_apart, filter_has}

pub names_more : (tree : Tree) (some more : List ℕ) → names tree (some ++ more) ≡ names tree some ++ flat_map (children tree) more
names_more tree some more = ap (λ l. tree.root ∷ l) (flat_map-append (children tree) some more)

-- more pages name more
pub named_grows : (tree : Tree) (some more : List ℕ) → (rest : List ℕ) × (named_by tree (some ++ more) ≡ named_by tree some ++ rest)
named_grows tree some more =
    let grown = once_grows (filter (is_held tree) (names tree some)) (filter (is_held tree) (flat_map (children tree) more)) in
    (grown.0, ap each_once (ap (filter (is_held tree)) (names_more tree some more) ∙ filter-append (is_held tree) (names tree some) (flat_map (children tree) more)) ∙ grown.1)

-- a list of pages that names itself, and that was found from its front: its first n pages name more than n
pub record IsClosure (tree : Tree) (pages : List ℕ) : Type 0 where
  pub closed : named_by tree pages ≡ pages
  pub found : (n : ℕ) → n < length pages → n < length (named_by tree (take n pages))

-- a round is a front of the pages
record IsFront (tree : Tree) (pages : List ℕ) (n : ℕ) : Type 0 where
  count : ℕ
  within : count ≤ length pages
  least : min n (length pages) ≤ count
  front : rounds tree n ≡ take count pages

front_of : (pages front rest : List ℕ) → pages ≡ front ++ rest → (length front ≤ length pages) × (front ≡ take (length front) pages)
front_of pages front rest is =
    (omega (arith, ap length is, length-append front rest), sym (ap (take (length front)) is ∙ take-append_seam front rest))

grown_case : (tree : Tree) (pages : List ℕ) (n count : ℕ) → IsClosure tree pages → count ≤ length pages → min n (length pages) ≤ count
    → min (n + 1) (length pages) ≤ length (named_by tree (take count pages))
grown_case tree pages n count closure within least =
    elim (eq-or-lt_of_le within) [
      | inl all ↦
          let whole : named_by tree (take count pages) ≡ pages = ap (named_by tree) (take_all count pages (omega arith)) ∙ closure.closed in
          let long : length (named_by tree (take count pages)) ≡ length pages = ap length whole in
          omega (arith, long)
      | inr below ↦
          let more = closure.found count (omega arith) in
          omega (arith, more)
    ]

round_front : (tree : Tree) (pages : List ℕ) (n : ℕ) → IsClosure tree pages → IsFront tree pages n
round_front tree pages zero closure = record { count = 0; within = omega arith; least = omega arith; front = refl }
round_front tree pages (suc n) closure =
    let before = round_front tree pages n closure in
    let grown = named_grows tree (take before.count pages) (drop before.count pages) in
    let parts : pages ≡ named_by tree (take before.count pages) ++ grown.0
    = sym closure.closed ∙ ap (named_by tree) (sym (take-append-drop before.count pages)) ∙ grown.1 in
    let front = front_of pages (named_by tree (take before.count pages)) grown.0 parts in
    let more = grown_case tree pages n before.count closure before.within before.least in
    record {
      count = length (named_by tree (take before.count pages));
      within = front.0;
      least = omega (arith, more);
      front = ap (named_by tree) before.front ∙ front.1;
    }

-- as many rounds as there are pages, or more, find exactly these
pub closure_rounds : (tree : Tree) (pages : List ℕ) (n : ℕ) → IsClosure tree pages → length pages ≤ n → rounds tree n ≡ pages
closure_rounds tree pages n closure enough =
    let front = round_front tree pages n closure in
    front.front ∙ take_all front.count pages (omega (arith, front.least, front.within))

-- ---- the rounds are closed once there are as many of them as held pages

-- each page of a round is held, and none stands there twice
pub round_held : (tree : Tree) (n q : ℕ) → has (rounds tree n) q ≡ true → is_held tree q ≡ true
round_held tree zero q there = let clash : false ≡ true = there in cc
round_held tree (suc n) q there =
    both_true (has (names tree (rounds tree n)) q) (is_held tree q)
    (sym (once_has (filter (is_held tree) (names tree (rounds tree n))) q ∙ filter_has (is_held tree) (names tree (rounds tree n)) q) ∙ there)
  where
    both_true : (a b : Bool) → (a && b) ≡ true → b ≡ true
    both_true true b is = is
    both_true false b is = let clash : false ≡ true = is in cc

pub round_apart : (tree : Tree) (n : ℕ) → IsDistinct nat_eq (rounds tree n)
round_apart tree zero = none_apart
round_apart tree (suc n) = once_apart (filter (is_held tree) (names tree (rounds tree n)))

range_has : (a n q : ℕ) → a ≤ q → q < a + n → has (range_with_len a n) q ≡ true
range_has a zero q low high = absurd (omega arith)
range_has a (suc n) q low high =
    elim (eq-or-lt_of_le low) [
      | inl here ↦ first (nat_eq q a) (eq-eqb q a (sym here))
      | inr above ↦ later (nat_eq q a) (range_has (a + 1) n q (omega arith) (omega arith))
    ]
  where
    first : (b : Bool) → b ≡ true → (b || has (range_with_len (a + 1) n) q) ≡ true
    first true is = refl
    first false is = let clash : false ≡ true = is in cc

    later : (b : Bool) → has (range_with_len (a + 1) n) q ≡ true → (b || has (range_with_len (a + 1) n) q) ≡ true
    later true is = refl
    later false is = is

no_view : (found : Option (List ℕ)) → found ≡ None → is_some found ≡ true → ⊥
no_view None none there = let clash : false ≡ true = there in cc
no_view (Some page) none there = let clash : Some page ≡ None = none in cc

-- a held page is listed
pub held_listed : (tree : Tree) (q : ℕ) → IsBounded tree → is_held tree q ≡ true → has (held_pages tree.size tree.view) q ≡ true
unfolding held_pages
held_listed tree zero bounds there = absurd (no_view (tree.view 0) bounds.from_one there)
held_listed tree (suc q) bounds there =
    elim (cases_lt tree.size (suc q)) [
      | inl past ↦ absurd (no_view (tree.view (suc q)) (bounds.within (suc q) past) there)
      | inr within ↦
          let range = range_has 1 tree.size (suc q) (omega arith) (omega arith) in
          filter_has (is_held tree) (range_with_len 1 tree.size) (suc q) ∙ rw (range, there) refl
    ]

-- so no more pages than are held, if none stands twice
pub held_few : (tree : Tree) (pages : List ℕ) → IsBounded tree → IsDistinct nat_eq pages → ((q : ℕ) → has pages q ≡ true → is_held tree q ≡ true)
    → length pages ≤ held_count tree
held_few tree pages bounds apart held =
    length-le_from_is_member nat_eq_equiv pages (held_pages tree.size tree.view) apart (λ q there. held_listed tree q bounds (held q there))

round_few : (tree : Tree) (n : ℕ) → IsBounded tree → length (rounds tree n) ≤ held_count tree
round_few tree n bounds = held_few tree (rounds tree n) bounds (round_apart tree n) (round_held tree n)

round_grows : (tree : Tree) (n : ℕ) → (more : List ℕ) × (rounds tree (suc n) ≡ rounds tree n ++ more)
round_grows tree zero = (rounds tree 1, refl)
round_grows tree (suc n) =
    let before = round_grows tree n in
    let grown = named_grows tree (rounds tree n) before.0 in
    (grown.0, ap (named_by tree) before.1 ∙ grown.1)

still : (tree : Tree) (n : ℕ) (more : List ℕ) → rounds tree (suc n) ≡ rounds tree n ++ more → n ≤ length (rounds tree n)
    → (suc n ≤ length (rounds tree (suc n))) ⊎ (rounds tree (suc (suc n)) ≡ rounds tree (suc n))
still tree n [] is long = inr (ap (named_by tree) (is ∙ append-nil (rounds tree n)))
still tree n (q ∷ more) is long = inl (omega (arith, ap length is, length-append (rounds tree n) (q ∷ more)))

-- each round finds a page more, or all later ones find none
long_or_still : (tree : Tree) (n : ℕ) → (n ≤ length (rounds tree n)) ⊎ (rounds tree (suc n) ≡ rounds tree n)
long_or_still tree zero = inl (omega arith)
long_or_still tree (suc n) =
    elim (long_or_still tree n) [
      | inl long ↦ let grown = round_grows tree n in still tree n grown.0 grown.1 long
      | inr same ↦ inr (ap (named_by tree) same)
    ]

none_more : (tree : Tree) (n : ℕ) (more : List ℕ) → rounds tree (suc n) ≡ rounds tree n ++ more → length (rounds tree (suc n)) ≤ length (rounds tree n)
    → rounds tree (suc n) ≡ rounds tree n
none_more tree n [] is few = is ∙ append-nil (rounds tree n)
none_more tree n (q ∷ more) is few = absurd (omega (arith, few, ap length is, length-append (rounds tree n) (q ∷ more)))

-- the pages of a tree name each other, and no page more
pub tree_closed : (tree : Tree) → IsBounded tree → named_by tree (tree_pages tree) ≡ tree_pages tree
unfolding tree_pages
tree_closed tree bounds =
    elim (long_or_still tree (held_count tree)) [
      | inl long ↦
          let grown = round_grows tree (held_count tree) in
          let few = round_few tree (suc (held_count tree)) bounds in
          none_more tree (held_count tree) grown.0 grown.1 (omega (arith, few, long))
      | inr same ↦ same
    ]

found_case : (tree : Tree) (n m : ℕ) (more : List ℕ) → rounds tree (suc n) ≡ rounds tree n ++ more → m < length (rounds tree (suc n))
    → (m < length (rounds tree n) → m < length (named_by tree (take m (rounds tree n))))
    → m < length (named_by tree (take m (rounds tree (suc n))))
found_case tree n m more is below before =
    elim (cases_lt m (length (rounds tree n))) [
      | inl early ↦
          let front : take m (rounds tree (suc n)) ≡ take m (rounds tree n) = ap (take m) is ∙ take-append-le m (rounds tree n) more (omega arith) in
          subst (λ l. m < length (named_by tree l)) (sym front) (before early)
      | inr late ↦
          let k = m - length (rounds tree n) in
          let place : length (rounds tree n) + k ≡ m = omega arith in
          let front : take m (rounds tree (suc n)) ≡ rounds tree n ++ take k more
          = ap (λ j. take j (rounds tree (suc n))) (sym place) ∙ ap (take (length (rounds tree n) + k)) is ∙ take-append-add (rounds tree n) more k in
          let grown = named_grows tree (rounds tree n) (take k more) in
          let all : length (named_by tree (take m (rounds tree (suc n)))) ≡ length (rounds tree (suc n) ++ grown.0)
          = ap length (ap (named_by tree) front ∙ grown.1) in
          omega (arith, all, length-append (rounds tree (suc n)) grown.0)
    ]

round_found : (tree : Tree) (n m : ℕ) → m < length (rounds tree n) → m < length (named_by tree (take m (rounds tree n)))
round_found tree zero m below = absurd (omega arith)
round_found tree (suc n) m below =
    let grown = round_grows tree n in
    found_case tree n m grown.0 grown.1 below (round_found tree n m)

pub tree_closure : (tree : Tree) → IsBounded tree → IsClosure tree (tree_pages tree)
unfolding tree_pages
tree_closure tree bounds = record { closed = tree_closed tree bounds; found = round_found tree (held_count tree) }

pub tree_few : (tree : Tree) → IsBounded tree → length (tree_pages tree) ≤ held_count tree
unfolding tree_pages
tree_few tree bounds = round_few tree (held_count tree) bounds

-- more rounds find no page more
pub more_rounds : (tree : Tree) (n : ℕ) → IsBounded tree → held_count tree ≤ n → rounds tree n ≡ tree_pages tree
more_rounds tree n bounds enough =
    closure_rounds tree (tree_pages tree) n (tree_closure tree bounds) (omega (arith, tree_few tree bounds))

-- a closed list found from its front is the pages of the tree
pub closure_is_tree : (tree : Tree) (pages : List ℕ) → IsClosure tree pages → length pages ≤ held_count tree → pages ≡ tree_pages tree
unfolding tree_pages
closure_is_tree tree pages closure few = sym (closure_rounds tree pages (held_count tree) closure few)

pub tree_held : (tree : Tree) (q : ℕ) → has (tree_pages tree) q ≡ true → is_held tree q ≡ true
unfolding tree_pages
tree_held tree q there = round_held tree (held_count tree) q there

pub tree_apart : (tree : Tree) → IsDistinct nat_eq (tree_pages tree)
unfolding tree_pages
tree_apart tree = round_apart tree (held_count tree)

-- ---- the least set

flat_case : (f : ℕ → List ℕ) (x q : ℕ) (xs : List ℕ) (b : Bool) → has (f x) q ≡ b → (b || has (flat_map f xs) q) ≡ true
    → (has (flat_map f xs) q ≡ true → (p : ℕ) × (has xs p ≡ true) × (has (f p) q ≡ true))
    → (p : ℕ) × (has (x ∷ xs) p ≡ true) × (has (f p) q ≡ true)
flat_case f x q xs true is there rest = (x, ap (λ b. b || has xs x) (eq-eqb x x refl), is)
flat_case f x q xs false is there rest =
    let found = rest there in
    (found.0, or_right (nat_eq found.0 x) (has xs found.0) found.1, found.2)
  where
    or_right : (a b : Bool) → b ≡ true → (a || b) ≡ true
    or_right true b is = refl
    or_right false b is = is

-- what stands in one of the lists
flat_has : (f : ℕ → List ℕ) (xs : List ℕ) (q : ℕ) → has (flat_map f xs) q ≡ true → (p : ℕ) × (has xs p ≡ true) × (has (f p) q ≡ true)
flat_has f [] q there = let clash : false ≡ true = there in cc
flat_has f (x ∷ xs) q there =
    flat_case f x q xs (has (f x) q) refl (sym (list_any-append (nat_eq q) (f x) (flat_map f xs)) ∙ there) (flat_has f xs q)

-- what a call of size says
pub bounds_are : (tree : Tree) (size : ℕ) → size ≡ tree.size → ((number : ℕ) → size < number → tree.view number ≡ None) → tree.view 0 ≡ None → IsBounded tree
bounds_are tree size is within from_one =
    record { within = subst (λ n. (number : ℕ) → n < number → tree.view number ≡ None) is within; from_one = from_one }

-- ---- closed, and the least that is

in_case : (f : ℕ → List ℕ) (x p q : ℕ) (xs : List ℕ) (b : Bool) → nat_eq p x ≡ b → (b || has xs p) ≡ true → has (f p) q ≡ true
    → (has xs p ≡ true → has (flat_map f xs) q ≡ true) → (has (f x) q || has (flat_map f xs) q) ≡ true
in_case f x p q xs true same there named rest =
    let here : has (f x) q ≡ true = ap (λ n. has (f n) q) (sym (eqb-true p x same)) ∙ named in
    rw here refl
in_case f x p q xs false same there named rest = right (has (f x) q) (rest there)
  where
    right : (a : Bool) → has (flat_map f xs) q ≡ true → (a || has (flat_map f xs) q) ≡ true
    right true is = refl
    right false is = is

-- what one of the lists has
pub flat_in : (f : ℕ → List ℕ) (xs : List ℕ) (p q : ℕ) → has xs p ≡ true → has (f p) q ≡ true → has (flat_map f xs) q ≡ true
flat_in f [] p q there named = let clash : false ≡ true = there in cc
flat_in f (x ∷ xs) p q there named =
    list_any-append (nat_eq q) (f x) (flat_map f xs)
    ∙ in_case f x p q xs (nat_eq p x) refl there named (λ in_rest. flat_in f xs p q in_rest named)

-- a held page that is named is one of the tree
pub named_listed : (tree : Tree) (q : ℕ) → IsBounded tree → has (names tree (tree_pages tree)) q ≡ true → is_held tree q ≡ true
    → has (tree_pages tree) q ≡ true
named_listed tree q bounds named held =
    ap (λ pages. has pages q) (sym (tree_closed tree bounds))
    ∙ once_has _ q
    ∙ filter_has (is_held tree) (names tree (tree_pages tree)) q
    ∙ rw (named, held) refl

pub root_named : (tree : Tree) → has (names tree (tree_pages tree)) tree.root ≡ true
root_named tree = rw (eq-eqb tree.root tree.root refl) refl

tree_root : (tree : Tree) → IsBounded tree → is_held tree tree.root ≡ true → has (tree_pages tree) tree.root ≡ true
tree_root tree bounds held = named_listed tree tree.root bounds (root_named tree) held

tree_child : (tree : Tree) (page child : ℕ) → IsBounded tree → has (tree_pages tree) page ≡ true → has (children tree page) child ≡ true
    → is_held tree child ≡ true → has (tree_pages tree) child ≡ true
tree_child tree page child bounds there named held =
    named_listed tree child bounds (right (nat_eq child tree.root) (flat_in (children tree) (tree_pages tree) page child there named)) held
  where
    right : (a : Bool) → has (flat_map (children tree) (tree_pages tree)) child ≡ true → (a || has (flat_map (children tree) (tree_pages tree)) child) ≡ true
    right true is = refl
    right false is = is

least_case : (tree : Tree) (set : ℕ → Bool) (pages : List ℕ) (q : ℕ) (b : Bool) → nat_eq q tree.root ≡ b → (b || has (flat_map (children tree) pages) q) ≡ true
    → is_held tree q ≡ true → (is_held tree tree.root ≡ true → set tree.root ≡ true)
    → ((page child : ℕ) → set page ≡ true → has (children tree page) child ≡ true → is_held tree child ≡ true → set child ≡ true)
    → ((p : ℕ) → has pages p ≡ true → set p ≡ true) → set q ≡ true
least_case tree set pages q true same there held root child before =
    let one : q ≡ tree.root = eqb-true q tree.root same in
    ap set one ∙ root (ap (is_held tree) (sym one) ∙ held)
least_case tree set pages q false same there held root child before =
    let from = flat_has (children tree) pages q there in
    child from.0 q (before from.0 from.1) from.2 held

round_least : (tree : Tree) (set : ℕ → Bool) → (is_held tree tree.root ≡ true → set tree.root ≡ true)
    → ((page child : ℕ) → set page ≡ true → has (children tree page) child ≡ true → is_held tree child ≡ true → set child ≡ true)
    → (n q : ℕ) → has (rounds tree n) q ≡ true → set q ≡ true
round_least tree set root child zero q there = let clash : false ≡ true = there in cc
round_least tree set root child (suc n) q there =
    let named = both_true (has (names tree (rounds tree n)) q) (is_held tree q)
    (sym (once_has (filter (is_held tree) (names tree (rounds tree n))) q ∙ filter_has (is_held tree) (names tree (rounds tree n)) q) ∙ there) in
    least_case tree set (rounds tree n) q (nat_eq q tree.root) refl named (round_held tree (suc n) q there) root child (round_least tree set root child n)
  where
    both_true : (a b : Bool) → (a && b) ≡ true → a ≡ true
    both_true true b is = refl
    both_true false b is = let clash : false ≡ true = is in cc

least_pages : (tree : Tree) (set : ℕ → Bool) → (is_held tree tree.root ≡ true → set tree.root ≡ true)
    → ((page child : ℕ) → set page ≡ true → has (children tree page) child ≡ true → is_held tree child ≡ true → set child ≡ true)
    → (number : ℕ) → has (tree_pages tree) number ≡ true → set number ≡ true
unfolding tree_pages
least_pages tree set root child number there = round_least tree set root child (held_count tree) number there

-- the pages of a tree are closed, and in each closed set
pub tree_is_closed : (tree : Tree) → IsBounded tree → IsClosed tree (stands_in (tree_pages tree))
tree_is_closed tree bounds = record {
  root = tree_root tree bounds;
  child = λ page child. tree_child tree page child bounds;
}

pub tree_is_least : (tree : Tree) (set : ℕ → Bool) (number : ℕ) → IsClosed tree set → stands_in (tree_pages tree) number ≡ true → set number ≡ true
tree_is_least tree set number closed there = least_pages tree set closed.root closed.child number there
