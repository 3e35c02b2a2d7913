-- The table of the pages that were named, as its list and its marks say it.
use Rattle.std.proofs.Common.{◌≡◌, ℕ, ◌<◌, ◌≤◌, ◌||◌, Bool, true, false, cond, List, [], ◌∷◌, ◌++◌, Option, Some, None, is_some, unwrap_or, Result, Ok, is_ok, if◌then◌else◌, length, slice_get, get_or, nat_eq, refl, sym, ap, ◌∙◌, arith, eqb-true, eq-eqb}
use Rattle.std.specs.List.{list_any}
use Rattle.std.specs.Map.{lookup, keys_of}
use Rattle.std.specs.Ordering.{nat_cmp, is_eq}
use Rattle.std.proofs.Math.Bool.{or-false}
use Rattle.std.proofs.lemmas.Bool.Decides.{nat_tests}
use Rattle.std.proofs.lemmas.List.{map-append}
use Rattle.std.proofs.lemmas.Option.{slice_get-get_or, slice_get_past}
use Rattle.std.proofs.lemmas.List.Folds.{list_any-append}
use Rattle.sx_tree.specs.Tables.{named_again, with_name, entries_of, IsMarked}

-- the two tests of equal pages
pub same_page : (a b : ℕ) → is_eq (nat_cmp a b) ≡ nat_eq a b
same_page a b = grind (arith, nat_tests)

-- ---- what stands in the table

found_case : (marks : ℕ → Option Bool) (q x : ℕ) (order : List ℕ) (b : Bool) → nat_eq q x ≡ b
    → lookup (nat_eq q) (entries_of marks order) ≡ cond (list_any (nat_eq q) order) (Some (unwrap_or (marks q) false)) None
    → cond b (Some (unwrap_or (marks x) false)) (lookup (nat_eq q) (entries_of marks order)) ≡ cond (b || list_any (nat_eq q) order) (Some (unwrap_or (marks q) false)) None
found_case marks q x order true same rest = ap (λ n. Some (unwrap_or (marks n) false)) (sym (eqb-true q x same))
found_case marks q x order false same rest = rest

made : (marks : ℕ → Option Bool) (q : ℕ) (order : List ℕ)
    → lookup (nat_eq q) (entries_of marks order) ≡ cond (list_any (nat_eq q) order) (Some (unwrap_or (marks q) false)) None
made marks q [] = refl
made marks q (x ∷ order) = found_case marks q x order (nat_eq q x) refl (made marks q order)

mark_case : (mark : Option Bool) (there : Bool) → is_some mark ≡ there → cond there (Some (unwrap_or mark false)) None ≡ mark
mark_case None true is = let never : false ≡ true = is in cc
mark_case None false is = refl
mark_case (Some again) true is = refl
mark_case (Some again) false is = let never : true ≡ false = is in cc

-- a look-up of a page gives its mark
pub entry_is_mark : (marks : ℕ → Option Bool) (order : List ℕ) (q : ℕ) → IsMarked marks order → lookup (nat_eq q) (entries_of marks order) ≡ marks q
entry_is_mark marks order q is = made marks q order ∙ mark_case (marks q) (list_any (nat_eq q) order) (is.there q)

-- the keys are the pages in their order
pub keys_are_order : (marks : ℕ → Option Bool) (order : List ℕ) → keys_of (entries_of marks order) ≡ order
keys_are_order marks [] = refl
keys_are_order marks (x ∷ order) = ap (λ keys. x ∷ keys) (keys_are_order marks order)

-- the page at a place of the order
pub page_here : (marks : ℕ → Option Bool) (order : List ℕ) (place page : ℕ) → place < length order → page ≡ get_or order place page
    → Some page ≡ slice_get (keys_of (entries_of marks order)) place
page_here marks order place page within is =
    ap Some is ∙ sym (slice_get-get_or order place page within) ∙ sym (ap (λ keys. slice_get keys place) (keys_are_order marks order))

pub page_past : (marks : ℕ → Option Bool) (order : List ℕ) (place : ℕ) → length order ≤ place → None ≡ slice_get (keys_of (entries_of marks order)) place
page_past marks order place past =
    sym (slice_get_past order place past) ∙ sym (ap (λ keys. slice_get keys place) (keys_are_order marks order))

-- ---- one more name

abbrev entry : ℕ → Bool → ℕ × Bool
entry number again = (number, again)

again_case : (x : ℕ) (same : Bool) (old : Option Bool) → entry x (unwrap_or (cond same (Some true) (cond same (Some false) old)) false) ≡ entry x (same || unwrap_or old false)
again_case x true old = refl
again_case x false old = refl

again_all : (old once twice : ℕ → Option Bool) (q : ℕ) (order : List ℕ) → ((p : ℕ) → once p ≡ cond (nat_eq q p) (Some false) (old p))
    → ((p : ℕ) → twice p ≡ cond (nat_eq q p) (Some true) (once p)) → entries_of twice order ≡ named_again (entries_of old order) q
again_all old once twice q [] first second = refl
again_all old once twice q (x ∷ order) first second =
    ap (λ mark. entry x (unwrap_or mark false) ∷ entries_of twice order) (second x ∙ ap (cond (nat_eq q x) (Some true)) (first x))
    ∙ ap (λ first_one. first_one ∷ entries_of twice order) (again_case x (nat_eq q x) (old x))
    ∙ ap (λ rest. entry x (nat_eq q x || unwrap_or (old x) false) ∷ rest) (again_all old once twice q order first second)

-- a page that stands there
pub name_again : (old once twice : ℕ → Option Bool) (q : ℕ) (order : List ℕ) → IsMarked old order → is_some (old q) ≡ true
    → ((p : ℕ) → once p ≡ cond (nat_eq q p) (Some false) (old p)) → ((p : ℕ) → twice p ≡ cond (nat_eq q p) (Some true) (once p))
    → entries_of twice order ≡ with_name (entries_of old order) q
unfolding with_name
name_again old once twice q order is there first second =
    let found : is_some (lookup (nat_eq q) (entries_of old order)) ≡ true = ap is_some (entry_is_mark old order q is) ∙ there in
    rw found (again_all old once twice q order first second)

other_case : (x : ℕ) (b : Bool) (old now : Option Bool) → b ≡ false → now ≡ cond b (Some false) old → entry x (unwrap_or now false) ≡ entry x (unwrap_or old false)
other_case x true old now apart is = let never : true ≡ false = apart in absurd cc
other_case x false old now apart is = ap (λ mark. entry x (unwrap_or mark false)) is

none_here : (a b : Bool) → (a || b) ≡ false → (a ≡ false) × (b ≡ false)
none_here true b is = let never : true ≡ false = is in absurd cc
none_here false b is = (refl, is)

others_stay : (old once : ℕ → Option Bool) (q : ℕ) (order : List ℕ) → list_any (nat_eq q) order ≡ false
    → ((p : ℕ) → once p ≡ cond (nat_eq q p) (Some false) (old p)) → entries_of once order ≡ entries_of old order
others_stay old once q [] none first = refl
others_stay old once q (x ∷ order) none first =
    let apart = none_here (nat_eq q x) (list_any (nat_eq q) order) none in
    ap (λ first_one. first_one ∷ entries_of once order) (other_case x (nat_eq q x) (old x) (once x) apart.0 (first x))
    ∙ ap (λ rest. entry x (unwrap_or (old x) false) ∷ rest) (others_stay old once q order apart.1 first)

itself : (q : ℕ) → nat_eq q q ≡ true
itself q = eq-eqb q q refl

-- a page that comes to it
pub name_first : (old once : ℕ → Option Bool) (q : ℕ) (order now : List ℕ) → IsMarked old order → is_some (old q) ≡ false
    → ((p : ℕ) → once p ≡ cond (nat_eq q p) (Some false) (old p)) → now ≡ order ++ q ∷ []
    → entries_of once now ≡ with_name (entries_of old order) q
unfolding with_name
name_first old once q order now is there first pushed =
    let absent : is_some (lookup (nat_eq q) (entries_of old order)) ≡ false = ap is_some (entry_is_mark old order q is) ∙ there in
    let out : list_any (nat_eq q) order ≡ false = sym (is.there q) ∙ there in
    let mark : once q ≡ Some false = first q ∙ ap (λ b. cond b (Some false) (old q)) (itself q) in
    rw absent
    (ap (entries_of once) pushed
    ∙ map-append (λ (number : ℕ). entry number (unwrap_or (once number) false)) order (q ∷ [])
    ∙ ap (λ front. front ++ entry q (unwrap_or (once q) false) ∷ []) (others_stay old once q order out first)
    ∙ ap (λ last. entries_of old order ++ entry q (unwrap_or last false) ∷ []) mark)

turned : (p q : ℕ) (b : Bool) → nat_eq p q ≡ b → nat_eq q p ≡ b
turned p q true is = eq-eqb q p (sym (eqb-true p q is))
turned p q false is = other (nat_eq q p) refl
  where
    other : (c : Bool) → nat_eq q p ≡ c → nat_eq q p ≡ false
    other true same = let never : true ≡ false = sym (eq-eqb p q (sym (eqb-true q p same))) ∙ is in absurd cc
    other false same = same

there_case : (p q : ℕ) (order : List ℕ) (b : Bool) (old mark : Option Bool) → nat_eq q p ≡ b → is_some old ≡ list_any (nat_eq p) order
    → mark ≡ cond b (Some false) old → is_some mark ≡ (list_any (nat_eq p) order || b)
there_case p q order true old mark same is now = ap is_some now ∙ sym (or_true (list_any (nat_eq p) order))
  where
    or_true : (a : Bool) → (a || true) ≡ true
    or_true true = refl
    or_true false = refl
there_case p q order false old mark same is now = ap is_some now ∙ is ∙ sym (or-false (list_any (nat_eq p) order))

-- the marks are those of the pages again
pub marked_first : (old once : ℕ → Option Bool) (q : ℕ) (order now : List ℕ) → IsMarked old order
    → ((p : ℕ) → once p ≡ cond (nat_eq q p) (Some false) (old p)) → now ≡ order ++ q ∷ [] → IsMarked once now
marked_first old once q order now is first pushed = record {
  there = λ p.
      there_case p q order (nat_eq q p) (old p) (once p) refl (is.there p) (first p)
      ∙ ap (λ b. list_any (nat_eq p) order || b) (sym (turned q p (nat_eq q p) refl))
      ∙ ap (λ b. list_any (nat_eq p) order || b) (sym (or-false (nat_eq p q)))
      ∙ sym (list_any-append (nat_eq p) order (q ∷ []))
      ∙ ap (list_any (nat_eq p)) (sym pushed);
}

stays_case : (b value : Bool) (old mark : Option Bool) (order : List ℕ) (p q : ℕ) → nat_eq q p ≡ b → is_some old ≡ list_any (nat_eq p) order
    → list_any (nat_eq q) order ≡ true → mark ≡ cond b (Some value) old → is_some mark ≡ list_any (nat_eq p) order
stays_case true value old mark order p q same is there now =
    ap is_some now ∙ sym there ∙ ap (λ n. list_any (nat_eq n) order) (eqb-true q p same)
stays_case false value old mark order p q same is there now = ap is_some now ∙ is

-- and where it was there
pub marked_again : (old now : ℕ → Option Bool) (value : Bool) (q : ℕ) (order : List ℕ) → IsMarked old order → is_some (old q) ≡ true
    → ((p : ℕ) → now p ≡ cond (nat_eq q p) (Some value) (old p)) → IsMarked now order
marked_again old now value q order is there next = record {
  there = λ p. stays_case (nat_eq q p) value (old p) (now p) order p q refl (is.there p) (sym (is.there q) ∙ there) (next p);
}

-- a page was pushed
pub pushed_is : {E : Type 0} (old kept new : List ℕ) (q : ℕ) (tried : Result (Unit {0}) E) (done : Unit {0}) → kept ≡ old
    → new ≡ (if is_ok tried then kept ++ q ∷ [] else kept) → tried ≡ Ok done → new ≡ old ++ q ∷ []
pushed_is old kept new q tried done same items is =
    items ∙ ap (λ ok. if is_ok ok then kept ++ q ∷ [] else kept) is ∙ ap (λ l. l ++ q ∷ []) same
