-- How the reached pairs are followed from one graph to another, over lists alone: a list of pairs in an order in which each
-- is named by a root or by a pair behind it, but for those that have lost a name.
use Rattle.std.proofs.Common.{◌≡◌, ℕ, zero, suc, ◌+◌, ◌-◌, ◌*◌, ◌<◌, ◌≤◌, ◌||◌, Bool, true, false, not, List, [], ◌∷◌, length, filter, ◌⊎◌, inl, inr, refl, sym, ap, subst, ◌∙◌, arith}
use Rattle.std.specs.List.{flat_map}
use Rattle.std.proofs.lemmas.Bool.{or_right, or_cases, and_parts, and_from, false≢true, false_from_ne_true}
use Rattle.sx_closure.specs.declared.pair.Pair.{Pair}
use Rattle.sx_closure.specs.declared.pair.Source.TheVariants.{Root}
use Rattle.sx_closure.specs.Graph.{role_number, same_pair, is_in, is_named, Graph, IsGraph, is_held, reach, reached}
use Rattle.sx_closure.proofs.Pairs.{same_is, same_answer, is_in_head, is_in_filter, apart_filter, few}
use Rattle.sx_closure.proofs.Ranks.{differ}
use Rattle.sx_closure.proofs.Reaching.{named_append, named_from, four_of, in_four, length-four, reach_none, reach_one, reach_held, reach_stays, reach_more, reach_next, reach_within, apart_reach}
use Rattle.sx_closure.proofs.Standing.{reach_named}
use Rattle.sx_closure.proofs.Pairs.{Apart}
use Rattle.sx_closure.proofs.Walks.{seen_by}
use Rattle.sx_follow.specs.Orders.{IsOrder}

-- ---- a pair that is reached in any round is reached in the last

pub record IsReached (graph : Graph) (pair : Pair) : Type 0 where
  pub rounds : ℕ
  pub there : is_in (reach graph rounds) pair ≡ true

-- the pairs that no root names
abbrev late : Graph → ℕ → List Pair
late graph rounds = filter (λ pair. not (is_named graph.roots pair)) (reach graph rounds)

not_named : (b : Bool) → not b ≡ true → b ≡ false
not_named false is = refl
not_named true is = absurd (false≢true is)

late_parts : (graph : Graph) (rounds : ℕ) (pair : Pair) → is_in (late graph rounds) pair ≡ true
    → (is_in (reach graph rounds) pair ≡ true) × (is_named graph.roots pair ≡ false)
late_parts graph rounds pair there =
    let parts = and_parts (is_in (reach graph rounds) pair) (not (is_named graph.roots pair))
    (sym (is_in_filter (λ p. not (is_named graph.roots p)) (reach graph rounds) pair) ∙ there) in
    (parts.0, not_named (is_named graph.roots pair) parts.1)

late_from : (graph : Graph) (rounds : ℕ) (pair : Pair) → is_in (reach graph rounds) pair ≡ true → is_named graph.roots pair ≡ false
    → is_in (late graph rounds) pair ≡ true
late_from graph rounds pair there none =
    is_in_filter (λ p. not (is_named graph.roots p)) (reach graph rounds) pair
    ∙ and_from (is_in (reach graph rounds) pair) (not (is_named graph.roots pair)) there (ap not none)

low_case : (graph : Graph) (rounds : ℕ) (pair : Pair) → IsGraph graph → is_named graph.roots pair ≡ false
    → (is_named graph.roots pair ≡ true) ⊎ (is_named (flat_map graph.targets (reach graph rounds)) pair ≡ true) → role_number pair.role < 4
low_case graph rounds pair is none (inl root) = absurd (false≢true (sym none ∙ root))
low_case graph rounds pair is none (inr named) =
    let from = named_from graph.targets (reach graph rounds) pair named in
    is.no_maps from.source (record { pair = pair; source = Root; rest = 0 }) from.names

late_low : (graph : Graph) (rounds : ℕ) (pair : Pair) → IsGraph graph → is_in (late graph rounds) pair ≡ true → role_number pair.role < 4
late_low graph rounds pair is there =
    let parts = late_parts graph rounds pair there in
    low_case graph rounds pair is parts.1
    (or_cases (is_named graph.roots pair) (is_named (flat_map graph.targets (reach graph rounds)) pair)
    (sym (named_append graph.roots (flat_map graph.targets (reach graph rounds)) pair) ∙ reach_named graph rounds pair parts.0))

late_apart : (graph : Graph) (rounds : ℕ) → IsGraph graph → Apart (late graph rounds)
late_apart graph rounds is =
    apart_filter (λ p. not (is_named graph.roots p)) (reach graph rounds) (apart_reach graph rounds (differ graph.held is.rising))

late_few : (graph : Graph) (rounds : ℕ) → IsGraph graph → length (late graph rounds) ≤ 4 * length graph.held
late_few graph rounds is =
    let some : length (late graph rounds) ≤ length (flat_map four_of graph.held) =
    few (late graph rounds) (flat_map four_of graph.held) (late_apart graph rounds is) (λ pair there.
    in_four graph.held pair (late_low graph rounds pair is there) ∙ reach_held graph rounds pair (late_parts graph rounds pair there).0) in
    omega (arith, some, length-four graph.held)

-- a round that adds none is the last that does
abbrev IsStable : Graph → ℕ → Type 0
IsStable graph rounds = (pair : Pair) → is_in (reach graph (suc rounds)) pair ≡ true → is_in (reach graph rounds) pair ≡ true

stable_case : (graph : Graph) (rounds more : ℕ) (pair : Pair) → IsStable graph rounds → is_held graph.held pair.page ≡ true
    → ((p : Pair) → is_in (reach graph (rounds + more)) p ≡ true → is_in (reach graph rounds) p ≡ true)
    → (is_in (reach graph (rounds + more)) pair ≡ true) ⊎ (is_named (flat_map graph.targets (reach graph (rounds + more))) pair ≡ true)
    → is_in (reach graph rounds) pair ≡ true
stable_case graph rounds more pair stable held before (inl old) = before pair old
stable_case graph rounds more pair stable held before (inr new) =
    let from = named_from graph.targets (reach graph (rounds + more)) pair new in
    stable pair (reach_next graph rounds from.source pair (before from.source from.there) from.names held)

stable_all : (graph : Graph) (rounds more : ℕ) → IsStable graph rounds → (pair : Pair) → is_in (reach graph (rounds + more)) pair ≡ true
    → is_in (reach graph rounds) pair ≡ true
stable_all graph rounds zero stable pair there = let e : rounds + 0 ≡ rounds = omega arith in subst (λ n. is_in (reach graph n) pair ≡ true) e there
stable_all graph rounds (suc more) stable pair there =
    let e : rounds + suc more ≡ suc (rounds + more) = omega arith in
    let next : is_in (reach graph (suc (rounds + more))) pair ≡ true = subst (λ n. is_in (reach graph n) pair ≡ true) e there in
    let before = is_in (reach graph (rounds + more)) pair in
    let named = is_named (flat_map graph.targets (reach graph (rounds + more))) pair in
    let parts = and_parts (is_held graph.held pair.page) (before || named) (sym (reach_one graph (rounds + more) pair) ∙ next) in
    stable_case graph rounds more pair stable parts.0 (stable_all graph rounds more stable) (or_cases before named parts.1)

-- of two lists the first has a pair more, or lies in the second
record IsNew (some others : List Pair) : Type 0 where
  pub pair : Pair
  pub there : is_in some pair ≡ true
  pub none : is_in others pair ≡ false

within_case : (one : Pair) (some others : List Pair) → is_in others one ≡ true → ((pair : Pair) → is_in some pair ≡ true → is_in others pair ≡ true)
    → (pair : Pair) → (same_pair pair one ≡ true) ⊎ (is_in some pair ≡ true) → is_in others pair ≡ true
within_case one some others there within pair (inl same) = ap (is_in others) (same_is pair one same) ∙ there
within_case one some others there within pair (inr more) = within pair more

new_case : (one : Pair) (some others : List Pair) (b : Bool) → is_in others one ≡ b
    → IsNew some others ⊎ ((pair : Pair) → is_in some pair ≡ true → is_in others pair ≡ true)
    → IsNew (one ∷ some) others ⊎ ((pair : Pair) → is_in (one ∷ some) pair ≡ true → is_in others pair ≡ true)
new_case one some others false is rest = inl (record { pair = one; there = is_in_head one some; none = is })
new_case one some others true is (inl new) =
    inl (record { pair = new.pair; there = or_right (same_pair new.pair one) (is_in some new.pair) new.there; none = new.none })
new_case one some others true is (inr within) =
    inr (λ pair there. within_case one some others is within pair (or_cases (same_pair pair one) (is_in some pair) there))

new_or_within : (some others : List Pair) → IsNew some others ⊎ ((pair : Pair) → is_in some pair ≡ true → is_in others pair ≡ true)
new_or_within [] others = inr (λ pair there. absurd (false≢true there))
new_or_within (one ∷ some) others = new_case one some others (is_in others one) refl (new_or_within some others)

-- a pair that a root names is reached at once
rooted : (graph : Graph) (rounds : ℕ) (pair : Pair) → is_held graph.held pair.page ≡ true → is_named graph.roots pair ≡ true
    → is_in (reach graph rounds) pair ≡ true
rooted graph rounds pair held root =
    subst (λ n. is_in (reach graph n) pair ≡ true) (omega arith)
    (reach_more graph 0 rounds pair (reach_none graph pair ∙ and_from (is_held graph.held pair.page) (is_named graph.roots pair) held root))

-- so each round adds one of the late pairs, or an earlier one was the last that added any
record IsLast (graph : Graph) (rounds : ℕ) : Type 0 where
  pub last : ℕ
  pub below : last < rounds
  pub stable : IsStable graph last

more_late : (graph : Graph) (rounds : ℕ) → IsGraph graph → IsNew (reach graph (suc rounds)) (reach graph rounds) → length (late graph rounds) < length (late graph (suc rounds))
more_late graph rounds is new =
    let held = reach_held graph (suc rounds) new.pair new.there in
    let unnamed : is_named graph.roots new.pair ≡ false = false_from_ne_true (is_named graph.roots new.pair) (λ root.
    false≢true (sym new.none ∙ rooted graph rounds new.pair held root)) in
    let apart : is_in (late graph rounds) new.pair ≡ false = false_from_ne_true (is_in (late graph rounds) new.pair) (λ there.
    false≢true (sym new.none ∙ (late_parts graph rounds new.pair there).0)) in
    let all = few (new.pair ∷ late graph rounds) (late graph (suc rounds)) (apart, late_apart graph rounds is) (λ pair there.
    elim (or_cases (same_pair pair new.pair) (is_in (late graph rounds) pair) there) [
      | inl same ↦ ap (is_in (late graph (suc rounds))) (same_is pair new.pair same) ∙ late_from graph (suc rounds) new.pair new.there unnamed
      | inr old ↦ (let parts = late_parts graph rounds pair old in late_from graph (suc rounds) pair (reach_stays graph rounds pair parts.0) parts.1)
    ]) in
    omega (arith, all)

grown : (graph : Graph) (rounds : ℕ) → IsGraph graph → (rounds ≤ length (late graph rounds)) ⊎ IsLast graph rounds
grown graph zero is = inl (omega arith)
grown graph (suc rounds) is =
    elim (grown graph rounds is) [
      | inr before ↦ inr (record { last = before.last; below = omega (arith, before.below); stable = before.stable })
      | inl some ↦ elim (new_or_within (reach graph (suc rounds)) (reach graph rounds)) [
        | inl new ↦ (let more = more_late graph rounds is new in inl (omega (arith, some, more)))
        | inr within ↦ inr (record { last = rounds; below = omega arith; stable = within })
      ]
    ]

last_case : (graph : Graph) (pair : Pair) → IsGraph graph → IsReached graph pair
    → (4 * length graph.held + 1 ≤ length (late graph (4 * length graph.held + 1))) ⊎ IsLast graph (4 * length graph.held + 1)
    → is_in (reached graph) pair ≡ true
last_case graph pair is there (inl many) = absurd (omega (arith, many, late_few graph (4 * length graph.held + 1) is))
last_case graph pair is there (inr end) =
    let whole : end.last + (4 * length graph.held - end.last) ≡ 4 * length graph.held = omega (arith, end.below) in
    let turned : there.rounds + end.last ≡ end.last + there.rounds = omega arith in
    let far : is_in (reach graph (end.last + there.rounds)) pair ≡ true =
    subst (λ n. is_in (reach graph n) pair ≡ true) turned (reach_more graph there.rounds end.last pair there.there) in
    subst (λ n. is_in (reach graph n) pair ≡ true) whole
    (reach_more graph end.last (4 * length graph.held - end.last) pair (stable_all graph end.last there.rounds end.stable pair far))

pub reach_enough : (graph : Graph) (pair : Pair) → IsGraph graph → IsReached graph pair → is_in (reached graph) pair ≡ true
reach_enough graph pair is there = last_case graph pair is there (grown graph (4 * length graph.held + 1) is)

pub reached_root : (graph : Graph) (pair : Pair) → is_held graph.held pair.page ≡ true → is_named graph.roots pair ≡ true → IsReached graph pair
reached_root graph pair held root = record { rounds = 0; there = rooted graph 0 pair held root }

pub reached_next : (graph : Graph) (source pair : Pair) → IsReached graph source → is_named (graph.targets source) pair ≡ true → is_held graph.held pair.page ≡ true
    → IsReached graph pair
reached_next graph source pair before names held = record { rounds = suc before.rounds; there = reach_next graph before.rounds source pair before.there names held }

-- ---- an order of the marked pairs

-- each held pair that a root or a marked pair names is marked
abbrev pub IsClosed : Graph → List Pair → Type 0
IsClosed graph met = (pair : Pair) → is_named (seen_by graph met) pair ≡ true → is_held graph.held pair.page ≡ true → is_in met pair ≡ true

pub order_apart : (graph : Graph) (lost met : List Pair) → IsOrder graph lost met → Apart met
order_apart graph lost [] order = tt
order_apart graph lost (pair ∷ met) order = (order.1, order_apart graph lost met order.3)

pub order_held : (graph : Graph) (lost met : List Pair) → IsOrder graph lost met → (pair : Pair) → is_in met pair ≡ true → is_held graph.held pair.page ≡ true
order_held graph lost [] order pair there = absurd (false≢true there)
order_held graph lost (one ∷ met) order pair there =
    elim (or_cases (same_pair pair one) (is_in met pair) there) [
      | inl same ↦ subst (λ p. is_held graph.held p.page ≡ true) (sym (same_is pair one same)) order.0
      | inr more ↦ order_held graph lost met order.3 pair more
    ]

-- a pair that a root or a reached pair names is reached
pub named_reached : (graph : Graph) (met : List Pair) (pair : Pair) → ((p : Pair) → is_in met p ≡ true → IsReached graph p) → is_held graph.held pair.page ≡ true
    → is_named (seen_by graph met) pair ≡ true → IsReached graph pair
named_reached graph met pair before held named =
    elim (or_cases (is_named graph.roots pair) (is_named (flat_map graph.targets met) pair) (sym (named_append graph.roots (flat_map graph.targets met) pair) ∙ named)) [
      | inl root ↦ reached_root graph pair held root
      | inr more ↦ (let from = named_from graph.targets met pair more in reached_next graph from.source pair (before from.source from.there) from.names held)
    ]

order_reached : (graph : Graph) (met : List Pair) → IsOrder graph [] met → (pair : Pair) → is_in met pair ≡ true → IsReached graph pair
order_reached graph [] order pair there = absurd (false≢true there)
order_reached graph (one ∷ met) order pair there =
    let before = order_reached graph met order.3 in
    elim (or_cases (same_pair pair one) (is_in met pair) there) [
      | inl same ↦ subst (IsReached graph) (sym (same_is pair one same)) (named_reached graph met one before order.0 order.2)
      | inr more ↦ before pair more
    ]

-- the fixed point: where all marked pairs are reached, and what they name is marked, they are the reached pairs
pub marked_are : (graph : Graph) (met : List Pair) → IsGraph graph → ((pair : Pair) → is_in met pair ≡ true → IsReached graph pair) → IsClosed graph met
    → (pair : Pair) → is_in met pair ≡ is_in (reached graph) pair
marked_are graph met is known closed pair =
    same_answer (is_in met pair) (is_in (reached graph) pair) (λ there. reach_enough graph pair is (known pair there))
    (reach_within graph met closed (4 * length graph.held) pair)

pub order_is_reach : (graph : Graph) (met : List Pair) → IsGraph graph → IsOrder graph [] met → IsClosed graph met
    → (pair : Pair) → is_in met pair ≡ is_in (reached graph) pair
order_is_reach graph met is order closed = marked_are graph met is (order_reached graph met order) closed
