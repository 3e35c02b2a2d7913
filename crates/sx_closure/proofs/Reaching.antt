-- The rounds: what each adds, and that so many are enough.
use Rattle.std.proofs.Common.{◌≡◌, ℕ, zero, suc, ◌+◌, ◌*◌, ◌<◌, ◌&&◌, ◌||◌, ◌==◌, Bool, true, false, List, [], ◌∷◌, ◌++◌, length, length-append, refl, sym, ap, ◌∙◌, arith}
use Rattle.std.specs.List.{flat_map}
use Rattle.std.proofs.lemmas.Bool.{and_parts, and_from, or_left, or_right, false≢true}
use Rattle.std.proofs.lemmas.List.Folds.{list_any-append}
use Rattle.sx_base.specs.declared.role.Role.{Role}
use Rattle.sx_base.specs.declared.role.Role.TheVariants.{Node, Overflow, Trunk, FreeLeaf, PointerMap}
use Rattle.sx_closure.specs.declared.pair.Pair.{Pair}
use Rattle.sx_closure.specs.declared.pair.Target.{Target}
use Rattle.sx_closure.specs.Graph.{role_number, same_pair, is_in, is_named, Graph, is_held, roles_of, pairs_of, reach}
use Rattle.sx_closure.proofs.Pairs.{flipped, same_is, is_in_append, is_in_head, is_in_filter, Apart, apart_filter}
use Rattle.sx_closure.proofs.Tallies.{Differ}

-- ---- the pairs of held pages

abbrev pub pair_in : ℕ → Role → Pair
pair_in page role = record { page = page; role = role }

roles_case : (pair : Pair) (role : Role) (number : ℕ) (b : Bool) → pair.role ≡ role → (pair.page == number) ≡ b → is_in (roles_of number) pair ≡ b
roles_case pair Node number true role is = rw (role, is) refl
roles_case pair Node number false role is = rw (role, is) refl
roles_case pair Overflow number true role is = rw (role, is) refl
roles_case pair Overflow number false role is = rw (role, is) refl
roles_case pair Trunk number true role is = rw (role, is) refl
roles_case pair Trunk number false role is = rw (role, is) refl
roles_case pair FreeLeaf number true role is = rw (role, is) refl
roles_case pair FreeLeaf number false role is = rw (role, is) refl
roles_case pair PointerMap number true role is = rw (role, is) refl
roles_case pair PointerMap number false role is = rw (role, is) refl

roles_in : (pair : Pair) (number : ℕ) → is_in (roles_of number) pair ≡ (number == pair.page)
roles_in pair number = roles_case pair pair.role number (number == pair.page) refl (flipped number pair.page (number == pair.page) refl)

in_roles : (held : List ℕ) (pair : Pair) → is_in (flat_map roles_of held) pair ≡ is_held held pair.page
in_roles [] pair = refl
in_roles (number ∷ held) pair =
    is_in_append (roles_of number) (flat_map roles_of held) pair
    ∙ ap (λ a. a || is_in (flat_map roles_of held) pair) (roles_in pair number)
    ∙ ap (λ a. (number == pair.page) || a) (in_roles held pair)

pub in_pairs : (graph : Graph) (pair : Pair) → is_in (pairs_of graph) pair ≡ is_held graph.held pair.page
unfolding pairs_of
in_pairs graph pair = in_roles graph.held pair

-- the four roles that aren't named by roots alone
abbrev pub four_of : ℕ → List Pair
four_of page = pair_in page Node ∷ pair_in page Overflow ∷ pair_in page Trunk ∷ pair_in page FreeLeaf ∷ []

four_case : (pair : Pair) (role : Role) (number : ℕ) (b : Bool) → pair.role ≡ role → role_number role < 4 → (pair.page == number) ≡ b → is_in (four_of number) pair ≡ b
four_case pair Node number true role low is = rw (role, is) refl
four_case pair Node number false role low is = rw (role, is) refl
four_case pair Overflow number true role low is = rw (role, is) refl
four_case pair Overflow number false role low is = rw (role, is) refl
four_case pair Trunk number true role low is = rw (role, is) refl
four_case pair Trunk number false role low is = rw (role, is) refl
four_case pair FreeLeaf number true role low is = rw (role, is) refl
four_case pair FreeLeaf number false role low is = rw (role, is) refl
four_case pair PointerMap number b role low is = absurd (omega arith)

pub in_four : (held : List ℕ) (pair : Pair) → role_number pair.role < 4 → is_in (flat_map four_of held) pair ≡ is_held held pair.page
in_four [] pair low = refl
in_four (number ∷ held) pair low =
    is_in_append (four_of number) (flat_map four_of held) pair
    ∙ ap (λ a. a || is_in (flat_map four_of held) pair) (four_case pair pair.role number (number == pair.page) refl low (flipped number pair.page (number == pair.page) refl))
    ∙ ap (λ a. (number == pair.page) || a) (in_four held pair low)

pub length-four : (held : List ℕ) → length (flat_map four_of held) ≡ 4 * length held
length-four [] = omega arith
length-four (number ∷ held) = let more = length-four held in let long = length-append (four_of number) (flat_map four_of held) in omega (arith, more, long)

length-roles : (held : List ℕ) → length (flat_map roles_of held) ≡ 5 * length held
length-roles [] = omega arith
length-roles (number ∷ held) = let more = length-roles held in let long = length-append (roles_of number) (flat_map roles_of held) in omega (arith, more, long)

pub length-pairs : (graph : Graph) → length (pairs_of graph) ≡ 5 * length graph.held
unfolding pairs_of
length-pairs graph = length-roles graph.held

-- ---- what a list of targets names

pub named_append : (some others : List Target) (pair : Pair) → is_named (some ++ others) pair ≡ (is_named some pair || is_named others pair)
named_append some others pair = list_any-append (λ target. same_pair pair target.pair) some others

-- a pair of the list names the pair
pub record IsFrom (targets : Pair → List Target) (pairs : List Pair) (pair : Pair) : Type 0 where
  pub source : Pair
  pub there : is_in pairs source ≡ true
  pub names : is_named (targets source) pair ≡ true

from_case : (targets : Pair → List Target) (one : Pair) (pairs : List Pair) (pair : Pair) (b : Bool) → is_named (targets one) pair ≡ b
    → (is_named (targets one) pair || is_named (flat_map targets pairs) pair) ≡ true
    → (is_named (flat_map targets pairs) pair ≡ true → IsFrom targets pairs pair) → IsFrom targets (one ∷ pairs) pair
from_case targets one pairs pair true is named more = record { source = one; there = is_in_head one pairs; names = is }
from_case targets one pairs pair false is named more =
    let rest = more (rw is at named) in
    record { source = rest.source; there = or_right (same_pair rest.source one) (is_in pairs rest.source) rest.there; names = rest.names }

pub named_from : (targets : Pair → List Target) (pairs : List Pair) (pair : Pair) → is_named (flat_map targets pairs) pair ≡ true → IsFrom targets pairs pair
named_from targets [] pair named = absurd (false≢true named)
named_from targets (one ∷ pairs) pair named =
    from_case targets one pairs pair (is_named (targets one) pair) refl (sym (named_append (targets one) (flat_map targets pairs) pair) ∙ named) (named_from targets pairs pair)

to_case : (targets : Pair → List Target) (one : Pair) (pairs : List Pair) (source pair : Pair) (b : Bool) → same_pair source one ≡ b
    → (same_pair source one || is_in pairs source) ≡ true → is_named (targets source) pair ≡ true
    → (is_in pairs source ≡ true → is_named (flat_map targets pairs) pair ≡ true) → (is_named (targets one) pair || is_named (flat_map targets pairs) pair) ≡ true
to_case targets one pairs source pair true is there names more =
    or_left (is_named (targets one) pair) (is_named (flat_map targets pairs) pair) (ap (λ p. is_named (targets p) pair) (sym (same_is source one is)) ∙ names)
to_case targets one pairs source pair false is there names more =
    or_right (is_named (targets one) pair) (is_named (flat_map targets pairs) pair) (more (rw is at there))

pub named_to : (targets : Pair → List Target) (pairs : List Pair) (source pair : Pair) → is_in pairs source ≡ true → is_named (targets source) pair ≡ true
    → is_named (flat_map targets pairs) pair ≡ true
named_to targets [] source pair there names = absurd (false≢true there)
named_to targets (one ∷ pairs) source pair there names =
    named_append (targets one) (flat_map targets pairs) pair
    ∙ to_case targets one pairs source pair (same_pair source one) refl there names (λ more. named_to targets pairs source pair more names)

-- ---- the rounds

pub reach_none : (graph : Graph) (pair : Pair) → is_in (reach graph 0) pair ≡ (is_held graph.held pair.page && is_named graph.roots pair)
unfolding reach
reach_none graph pair =
    is_in_filter (is_named graph.roots) (pairs_of graph) pair ∙ ap (λ a. a && is_named graph.roots pair) (in_pairs graph pair)

pub reach_one : (graph : Graph) (rounds : ℕ) (pair : Pair)
    → is_in (reach graph (suc rounds)) pair ≡ (is_held graph.held pair.page && (is_in (reach graph rounds) pair || is_named (flat_map graph.targets (reach graph rounds)) pair))
unfolding reach
reach_one graph rounds pair =
    let test : Pair → Bool = λ p. is_in (reach graph rounds) p || is_named (flat_map graph.targets (reach graph rounds)) p in
    is_in_filter test (pairs_of graph) pair ∙ ap (λ a. a && test pair) (in_pairs graph pair)

pub reach_held : (graph : Graph) (rounds : ℕ) (pair : Pair) → is_in (reach graph rounds) pair ≡ true → is_held graph.held pair.page ≡ true
reach_held graph zero pair there = (and_parts (is_held graph.held pair.page) (is_named graph.roots pair) (sym (reach_none graph pair) ∙ there)).0
reach_held graph (suc rounds) pair there =
    (and_parts (is_held graph.held pair.page) (is_in (reach graph rounds) pair || is_named (flat_map graph.targets (reach graph rounds)) pair)
    (sym (reach_one graph rounds pair) ∙ there)).0

-- what was reached stays so
pub reach_stays : (graph : Graph) (rounds : ℕ) (pair : Pair) → is_in (reach graph rounds) pair ≡ true → is_in (reach graph (suc rounds)) pair ≡ true
reach_stays graph rounds pair there =
    reach_one graph rounds pair
    ∙ and_from (is_held graph.held pair.page) (is_in (reach graph rounds) pair || is_named (flat_map graph.targets (reach graph rounds)) pair)
    (reach_held graph rounds pair there) (or_left (is_in (reach graph rounds) pair) (is_named (flat_map graph.targets (reach graph rounds)) pair) there)

pub reach_more : (graph : Graph) (rounds more : ℕ) (pair : Pair) → is_in (reach graph rounds) pair ≡ true → is_in (reach graph (rounds + more)) pair ≡ true
reach_more graph rounds zero pair there = let e : rounds + 0 ≡ rounds = omega arith in rw e there
reach_more graph rounds (suc more) pair there =
    let e : rounds + suc more ≡ suc (rounds + more) = omega arith in
    rw e (reach_stays graph (rounds + more) pair (reach_more graph rounds more pair there))

-- and a round reaches what a reached pair names
pub reach_next : (graph : Graph) (rounds : ℕ) (source pair : Pair) → is_in (reach graph rounds) source ≡ true → is_named (graph.targets source) pair ≡ true
    → is_held graph.held pair.page ≡ true → is_in (reach graph (suc rounds)) pair ≡ true
reach_next graph rounds source pair there names held =
    reach_one graph rounds pair
    ∙ and_from (is_held graph.held pair.page) (is_in (reach graph rounds) pair || is_named (flat_map graph.targets (reach graph rounds)) pair) held
    (or_right (is_in (reach graph rounds) pair) (is_named (flat_map graph.targets (reach graph rounds)) pair)
    (named_to graph.targets (reach graph rounds) source pair there names))

-- a list that holds the held pairs that the roots and its own pairs name holds what is reached
within_case : (graph : Graph) (met : List Pair)
    → ((pair : Pair) → is_named (graph.roots ++ flat_map graph.targets met) pair ≡ true → is_held graph.held pair.page ≡ true → is_in met pair ≡ true)
    → (rounds : ℕ) (pair : Pair) (b : Bool) → is_in (reach graph rounds) pair ≡ b → is_held graph.held pair.page ≡ true
    → (is_in (reach graph rounds) pair || is_named (flat_map graph.targets (reach graph rounds)) pair) ≡ true
    → ((pair : Pair) → is_in (reach graph rounds) pair ≡ true → is_in met pair ≡ true) → is_in met pair ≡ true
within_case graph met closed rounds pair true is held either more = more pair is
within_case graph met closed rounds pair false is held either more =
    let from = named_from graph.targets (reach graph rounds) pair (rw is at either) in
    closed pair
    (named_append graph.roots (flat_map graph.targets met) pair
    ∙ or_right (is_named graph.roots pair) (is_named (flat_map graph.targets met) pair)
    (named_to graph.targets met from.source pair (more from.source from.there) from.names))
    held

pub reach_within : (graph : Graph) (met : List Pair)
    → ((pair : Pair) → is_named (graph.roots ++ flat_map graph.targets met) pair ≡ true → is_held graph.held pair.page ≡ true → is_in met pair ≡ true)
    → (rounds : ℕ) (pair : Pair) → is_in (reach graph rounds) pair ≡ true → is_in met pair ≡ true
reach_within graph met closed zero pair there =
    let parts = and_parts (is_held graph.held pair.page) (is_named graph.roots pair) (sym (reach_none graph pair) ∙ there) in
    closed pair (named_append graph.roots (flat_map graph.targets met) pair ∙ or_left (is_named graph.roots pair) (is_named (flat_map graph.targets met) pair) parts.1) parts.0
reach_within graph met closed (suc rounds) pair there =
    let before = is_in (reach graph rounds) pair in
    let named = is_named (flat_map graph.targets (reach graph rounds)) pair in
    let parts = and_parts (is_held graph.held pair.page) (before || named) (sym (reach_one graph rounds pair) ∙ there) in
    within_case graph met closed rounds pair before refl parts.0 parts.1 (reach_within graph met closed rounds)

-- the pairs of held pages stand apart
one_apart : (number : ℕ) (rest : List Pair) (b : Bool) → (number == number) ≡ b → (is_in rest (pair_in number Node) ≡ false) → (is_in rest (pair_in number Overflow) ≡ false)
    → (is_in rest (pair_in number Trunk) ≡ false) → (is_in rest (pair_in number FreeLeaf) ≡ false) → (is_in rest (pair_in number PointerMap) ≡ false) → Apart rest
    → Apart (roles_of number ++ rest)
one_apart number rest true is node overflow trunk free_leaf pointer_map apart =
    (rw is node, (rw is overflow, (rw is trunk, (rw is free_leaf, (pointer_map, apart)))))
one_apart number rest false is node overflow trunk free_leaf pointer_map apart =
    (rw is node, (rw is overflow, (rw is trunk, (rw is free_leaf, (pointer_map, apart)))))

nor_in : (number : ℕ) (held : List ℕ) (role : Role) → is_held held number ≡ false → is_in (flat_map roles_of held) (pair_in number role) ≡ false
nor_in number held role none = in_roles held (record { page = number; role = role }) ∙ none

apart_all : (held : List ℕ) → Differ held → Apart (flat_map roles_of held)
apart_all [] differ = tt
apart_all (number ∷ held) differ =
    let rest = flat_map roles_of held in
    let nor : (role : Role) → is_in rest (pair_in number role) ≡ false = λ role. nor_in number held role differ.0 in
    one_apart number rest (number == number) refl (nor Node) (nor Overflow) (nor Trunk) (nor FreeLeaf) (nor PointerMap) (apart_all held differ.1)

pub apart_pairs : (graph : Graph) → Differ graph.held → Apart (pairs_of graph)
unfolding pairs_of
apart_pairs graph differ = apart_all graph.held differ

-- the reached pairs stand apart
apart_from : (graph : Graph) (rounds : ℕ) → Apart (pairs_of graph) → Apart (reach graph rounds)
unfolding reach
apart_from graph zero apart = apart_filter (is_named graph.roots) (pairs_of graph) apart
apart_from graph (suc rounds) apart =
    apart_filter (λ p. is_in (reach graph rounds) p || is_named (flat_map graph.targets (reach graph rounds)) p) (pairs_of graph) apart

pub apart_reach : (graph : Graph) (rounds : ℕ) → Differ graph.held → Apart (reach graph rounds)
apart_reach graph rounds differ = apart_from graph rounds (apart_pairs graph differ)
