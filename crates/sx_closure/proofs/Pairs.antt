-- Pairs and lists of pairs: which are the same, which stand in a list, and lists without a repeat.
use Rattle.std.proofs.Common.{◌≡◌, ℕ, ◌+◌, ◌≤◌, ◌&&◌, ◌||◌, ◌==◌, Bool, true, false, cond, List, [], ◌∷◌, ◌++◌, length, length-append, append_assoc, subst, filter, refl, sym, ap, ◌∙◌, arith}
use Rattle.std.specs.List.{flat_map}
use Rattle.std.proofs.lemmas.Bool.{eqb-true, eqb-false, eq-eqb, ne_eqb, and_parts, and_from, or_left, or_right, or_parts, or_from, false≢true}
use Rattle.std.specs.List.Sorted.{IsPermutation}
use Rattle.std.proofs.lemmas.List.Folds.{list_any-append}
use Rattle.std.proofs.lemmas.List.Concat.{flat_map-append}
use Rattle.std.proofs.lemmas.List.Sorted.{IsPermutation-refl, IsPermutation-append_left, IsPermutation-append_right, IsPermutation-append_comm, IsPermutation-trans}
use Rattle.sx_base.specs.declared.role.Role.{Role}
use Rattle.sx_base.specs.declared.role.Role.TheVariants.{Node, Overflow, Trunk, FreeLeaf, PointerMap}
use Rattle.sx_closure.specs.declared.pair.Pair.{Pair}
use Rattle.sx_closure.specs.Graph.{role_number, same_pair, is_in}

pub or_true : (a : Bool) → true ≡ (a || true)
or_true true = refl
or_true false = refl

pub or_false : (a : Bool) → a ≡ (a || false)
or_false true = refl
or_false false = refl

pub or_none : (a : Bool) → (a || false) ≡ a
or_none true = refl
or_none false = refl

pub or_assoc : (a b c : Bool) → ((a || b) || c) ≡ (a || (b || c))
or_assoc true b c = refl
or_assoc false b c = refl

pub flipped : (a b : ℕ) (t : Bool) → (a == b) ≡ t → (b == a) ≡ t
flipped a b true is = eq-eqb b a (sym (eqb-true a b is))
flipped a b false is = ne_eqb b a (λ e. eqb-false a b is (sym e))

-- the number tells the role
role_is : (one other : Role) → role_number one ≡ role_number other → one ≡ other
role_is Node Node same = refl
role_is Overflow Overflow same = refl
role_is Trunk Trunk same = refl
role_is FreeLeaf FreeLeaf same = refl
role_is PointerMap PointerMap same = refl
role_is Node Overflow same = absurd (omega arith)
role_is Node Trunk same = absurd (omega arith)
role_is Node FreeLeaf same = absurd (omega arith)
role_is Node PointerMap same = absurd (omega arith)
role_is Overflow Node same = absurd (omega arith)
role_is Overflow Trunk same = absurd (omega arith)
role_is Overflow FreeLeaf same = absurd (omega arith)
role_is Overflow PointerMap same = absurd (omega arith)
role_is Trunk Node same = absurd (omega arith)
role_is Trunk Overflow same = absurd (omega arith)
role_is Trunk FreeLeaf same = absurd (omega arith)
role_is Trunk PointerMap same = absurd (omega arith)
role_is FreeLeaf Node same = absurd (omega arith)
role_is FreeLeaf Overflow same = absurd (omega arith)
role_is FreeLeaf Trunk same = absurd (omega arith)
role_is FreeLeaf PointerMap same = absurd (omega arith)
role_is PointerMap Node same = absurd (omega arith)
role_is PointerMap Overflow same = absurd (omega arith)
role_is PointerMap Trunk same = absurd (omega arith)
role_is PointerMap FreeLeaf same = absurd (omega arith)

pair_of : ℕ → Role → Pair
pair_of page role = record { page = page; role = role }

pub same_is : (one other : Pair) → same_pair one other ≡ true → one ≡ other
same_is one other same =
    let parts = and_parts (one.page == other.page) (role_number one.role == role_number other.role) same in
    let page : one.page ≡ other.page = eqb-true one.page other.page parts.0 in
    let role : one.role ≡ other.role = role_is one.role other.role (eqb-true (role_number one.role) (role_number other.role) parts.1) in
    ap (λ n. record { page = n; role = one.role }) page ∙ ap (λ r. record { page = other.page; role = r }) role

pub same_self : (one : Pair) → same_pair one one ≡ true
same_self one = and_from (one.page == one.page) (role_number one.role == role_number one.role) (eq-eqb one.page one.page refl) (eq-eqb (role_number one.role) (role_number one.role) refl)

-- a test that is true at the same pair as another is the same test
pub is_in_head : (pair : Pair) (pairs : List Pair) → is_in (pair ∷ pairs) pair ≡ true
is_in_head pair pairs = or_left (same_pair pair pair) (is_in pairs pair) (same_self pair)

pub is_in_append : (some others : List Pair) (pair : Pair) → is_in (some ++ others) pair ≡ (is_in some pair || is_in others pair)
is_in_append some others pair = list_any-append (same_pair pair) some others

-- no pair stands twice in the list
abbrev pub Apart : List Pair → Type 0
Apart [] = Unit {0}
Apart (pair ∷ pairs) = (is_in pairs pair ≡ false) × Apart pairs

-- two tests with the same answers of true
bools : (a b : Bool) → (a ≡ true → b ≡ true) → (b ≡ true → a ≡ true) → a ≡ b
bools true true f g = refl
bools false false f g = refl
bools true false f g = sym (f refl)
bools false true f g = g refl

pub same_answer : (a b : Bool) → (a ≡ true → b ≡ true) → (b ≡ true → a ≡ true) → a ≡ b
same_answer = bools

none : (a : Bool) → (a && false) ≡ false
none true = refl
none false = refl

filter_case : (test : Pair → Bool) (one : Pair) (pairs : List Pair) (pair : Pair) (t : Bool) → test one ≡ t → (s : Bool) → same_pair pair one ≡ s
    → is_in (filter test pairs) pair ≡ (is_in pairs pair && test pair)
    → is_in (cond (test one) (one ∷ filter test pairs) (filter test pairs)) pair ≡ ((same_pair pair one || is_in pairs pair) && test pair)
filter_case test one pairs pair true is true same more =
    let it : pair ≡ one = same_is pair one same in
    let passes : test pair ≡ true = ap test it ∙ is in
    rw (is, same, passes) refl
filter_case test one pairs pair true is false same more = rw (is, same) more
filter_case test one pairs pair false is true same more =
    let it : pair ≡ one = same_is pair one same in
    let fails : test pair ≡ false = ap test it ∙ is in
    rw (is, same, fails) (rw fails at more ∙ none (is_in pairs pair))
filter_case test one pairs pair false is false same more = rw (is, same) more

-- a filter keeps what passes
pub is_in_filter : (test : Pair → Bool) (pairs : List Pair) (pair : Pair) → is_in (filter test pairs) pair ≡ (is_in pairs pair && test pair)
is_in_filter test [] pair = refl
is_in_filter test (one ∷ pairs) pair = filter_case test one pairs pair (test one) refl (same_pair pair one) refl (is_in_filter test pairs pair)

apart_case : (t : Bool) (pair : Pair) (pairs : List Pair) → is_in pairs pair ≡ false → Apart pairs → Apart (cond t (pair ∷ pairs) pairs)
apart_case true pair pairs none apart = (none, apart)
apart_case false pair pairs none apart = apart

-- a filter of a list without a repeat has none
pub apart_filter : (test : Pair → Bool) (pairs : List Pair) → Apart pairs → Apart (filter test pairs)
apart_filter test [] apart = tt
apart_filter test (pair ∷ pairs) apart = apart_case (test pair) pair (filter test pairs)
    (is_in_filter test pairs pair ∙ ap (λ a. a && test pair) apart.0) (apart_filter test pairs apart.1)

flip : (one pair : Pair) (s : Bool) → same_pair one pair ≡ s → same_pair pair one ≡ false → same_pair one pair ≡ false
flip one pair false is other = is
flip one pair true is other = absurd (false≢true (sym other ∙ ap (λ p. same_pair p one) (sym (same_is one pair is)) ∙ same_self one))

pub apart_push : (pairs : List Pair) (pair : Pair) → Apart pairs → is_in pairs pair ≡ false → Apart (pairs ++ pair ∷ [])
apart_push [] pair apart none = (refl, tt)
apart_push (one ∷ pairs) pair apart none =
    let parts = or_parts (same_pair pair one) (is_in pairs pair) none in
    (is_in_append pairs (pair ∷ []) one ∙ ap (λ a. a || (same_pair one pair || false)) apart.0 ∙ ap (λ a. a || false) (flip one pair (same_pair one pair) refl parts.0), apart_push pairs pair apart.1 parts.1)

-- a pair of a list, and the list without it
pub record IsSplit (pairs : List Pair) (pair : Pair) : Type 0 where
  pub before : List Pair
  pub after : List Pair
  pub joined : pairs ≡ before ++ pair ∷ after

split_case : (one : Pair) (pairs : List Pair) (pair : Pair) (s : Bool) → same_pair pair one ≡ s → (same_pair pair one || is_in pairs pair) ≡ true
    → (is_in pairs pair ≡ true → IsSplit pairs pair) → IsSplit (one ∷ pairs) pair
split_case one pairs pair true same there more =
    record { before = []; after = pairs; joined = ap (λ p. p ∷ pairs) (sym (same_is pair one same)) }
split_case one pairs pair false same there more =
    let rest = more (rw same at there) in
    record { before = one ∷ rest.before; after = rest.after; joined = ap (λ ps. one ∷ ps) rest.joined }

pub split_at : (pairs : List Pair) (pair : Pair) → is_in pairs pair ≡ true → IsSplit pairs pair
split_at [] pair there = absurd (false≢true there)
split_at (one ∷ pairs) pair there = split_case one pairs pair (same_pair pair one) refl there (split_at pairs pair)

-- ---- two lists of the same pairs

not_self : (one pair : Pair) (s : Bool) → same_pair one pair ≡ s → same_pair pair one ≡ false → same_pair one pair ≡ false
not_self one pair false is other = is
not_self one pair true is other = absurd (false≢true (sym other ∙ ap (λ p. same_pair p one) (sym (same_is one pair is)) ∙ same_self one))

-- a list without one of its pairs
pub apart_without : (before : List Pair) (pair : Pair) (after : List Pair) → Apart (before ++ pair ∷ after)
    → Apart (before ++ after) × (is_in (before ++ after) pair ≡ false)
apart_without [] pair after apart = (apart.1, apart.0)
apart_without (one ∷ before) pair after apart =
    let more = apart_without before pair after apart.1 in
    let parts = or_parts (is_in before one) (is_in (pair ∷ after) one) (sym (is_in_append before (pair ∷ after) one) ∙ apart.0) in
    let others = or_parts (same_pair one pair) (is_in after one) parts.1 in
    let none : is_in (before ++ after) one ≡ false = is_in_append before after one ∙ or_from (is_in before one) (is_in after one) parts.0 others.1 in
    ((none, more.0), or_from (same_pair pair one) (is_in (before ++ after) pair) (not_self pair one (same_pair pair one) refl others.0) more.1)

or_swap : (a b c : Bool) → (a || (b || c)) ≡ (b || (a || c))
or_swap true true c = refl
or_swap true false c = refl
or_swap false true c = refl
or_swap false false c = refl

pub is_in_without : (before : List Pair) (pair : Pair) (after : List Pair) (other : Pair)
    → is_in (before ++ pair ∷ after) other ≡ (same_pair other pair || is_in (before ++ after) other)
is_in_without before pair after other =
    is_in_append before (pair ∷ after) other
    ∙ or_swap (is_in before other) (same_pair other pair) (is_in after other)
    ∙ ap (λ a. same_pair other pair || a) (sym (is_in_append before after other))

-- a list without a repeat isn't longer than one that holds its pairs
without_case : (other pair : Pair) (rest : List Pair) (s : Bool) → same_pair other pair ≡ s → is_in rest pair ≡ false → is_in rest other ≡ true → same_pair other pair ≡ false
without_case other pair rest false is none there = is
without_case other pair rest true is none there =
    absurd (false≢true (sym none ∙ ap (is_in rest) (sym (same_is other pair is)) ∙ there))

pub few : (some others : List Pair) → Apart some → ((pair : Pair) → is_in some pair ≡ true → is_in others pair ≡ true) → length some ≤ length others
few [] others apart within = omega arith
few (pair ∷ some) others apart within =
    let cut = split_at others pair (within pair (is_in_head pair some)) in
    let rest = cut.before ++ cut.after in
    let more = few some rest apart.1 (λ other there.
    let not_it = without_case other pair some (same_pair other pair) refl apart.0 there in
    let all : is_in others other ≡ true = within other (or_right (same_pair other pair) (is_in some other) there) in
    let parts : (same_pair other pair || is_in rest other) ≡ true = sym (is_in_without cut.before pair cut.after other) ∙ ap (λ ps. is_in ps other) (sym cut.joined) ∙ all in
    (rw not_it at parts)) in
    let long : length others ≡ length cut.before + length (pair ∷ cut.after) = ap length cut.joined ∙ length-append cut.before (pair ∷ cut.after) in
    omega (arith, more, long, length-append cut.before cut.after)

-- they give the same pieces, in some order
rest_case : (pair other : Pair) (some rest : List Pair) (s : Bool) → same_pair other pair ≡ s → is_in some pair ≡ false → is_in rest pair ≡ false
    → (same_pair other pair || is_in some other) ≡ (same_pair other pair || is_in rest other) → is_in some other ≡ is_in rest other
rest_case pair other some rest true is none nor same =
    let it = same_is other pair is in
    ap (is_in some) it ∙ none ∙ sym nor ∙ ap (is_in rest) (sym it)
rest_case pair other some rest false is none nor same = rw is at same

pub same_pieces : {A : Type 0} (f : Pair → List A) (some others : List Pair) → Apart some → Apart others → ((pair : Pair) → is_in some pair ≡ is_in others pair)
    → IsPermutation (flat_map f some) (flat_map f others)
same_pieces f [] [] apart differ same = IsPermutation-refl []
same_pieces f [] (pair ∷ others) apart differ same = absurd (false≢true (same pair ∙ is_in_head pair others))
same_pieces {A} f (pair ∷ some) others apart differ same =
    let cut = split_at others pair (sym (same pair) ∙ is_in_head pair some) in
    let rest = cut.before ++ cut.after in
    let without = apart_without cut.before pair cut.after (subst Apart cut.joined differ) in
    let more : IsPermutation (flat_map f some) (flat_map f rest) = same_pieces f some rest apart.1 without.0 (λ other.
    rest_case pair other some rest (same_pair other pair) refl apart.0 without.1
    (same other ∙ ap (λ ps. is_in ps other) cut.joined ∙ is_in_without cut.before pair cut.after other)) in
    let first = f pair in
    let before = flat_map f cut.before in
    let after = flat_map f cut.after in
    let one : IsPermutation (first ++ flat_map f some) (first ++ flat_map f rest) = IsPermutation-append_right first (flat_map f some) (flat_map f rest) more in
    let two : first ++ flat_map f rest ≡ (first ++ before) ++ after = ap (λ xs. first ++ xs) (flat_map-append f cut.before cut.after) ∙ sym (append_assoc first before after) in
    let three : IsPermutation ((first ++ before) ++ after) ((before ++ first) ++ after) = IsPermutation-append_left after (first ++ before) (before ++ first) (IsPermutation-append_comm first before) in
    let four : (before ++ first) ++ after ≡ flat_map f others = append_assoc before first after ∙ sym (flat_map-append f cut.before (pair ∷ cut.after)) ∙ ap (flat_map f) (sym cut.joined) in
    let five : IsPermutation (first ++ flat_map f some) ((first ++ before) ++ after) = subst (IsPermutation (first ++ flat_map f some)) two one in
    IsPermutation-trans (first ++ flat_map f some) ((first ++ before) ++ after) (flat_map f others) five (subst (IsPermutation ((first ++ before) ++ after)) four three)
