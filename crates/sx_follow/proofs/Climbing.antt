-- Which marked pairs are still reached when some have lost a name: those that a way of single references leads to from a
-- root, and what they name.
use Rattle.std.proofs.Common.{◌≡◌, ℕ, true, List, [], ◌∷◌, ◌++◌, Option, Some, None, ◌⊎◌, inl, inr, refl, sym, ap, subst, ◌∙◌}
use Rattle.std.specs.List.{flat_map, All}
use Rattle.std.proofs.lemmas.List.Elements.{All-head, All-tail}
use Rattle.std.proofs.lemmas.Bool.{or_right, or_cases, false≢true}
use Rattle.sx_closure.specs.declared.pair.Pair.{Pair}
use Rattle.sx_closure.specs.declared.pair.Target.{Target}
use Rattle.sx_closure.specs.Graph.{same_pair, is_in, is_named, Graph, is_held, to_page, only}
use Rattle.sx_closure.proofs.Pairs.{same_is, is_in_head}
use Rattle.sx_closure.proofs.Reaching.{named_append, named_from}
use Rattle.sx_closure.proofs.Numbering.{Among, among_page, page_among, only_among, only_is, among_named}
use Rattle.sx_closure.proofs.Standing.{named_by}
use Rattle.sx_follow.proofs.Following.{IsReached, order_held, reached_root, reached_next}
use Rattle.sx_follow.specs.Climbing.{source_page, IsSourced}
use Rattle.sx_closure.proofs.Walks.{seen_by}
use Rattle.sx_follow.specs.Orders.{IsOrder}

-- each marked pair is named by a root or a marked pair
abbrev pub AllNamed : Graph → List Pair → Type 0
AllNamed graph met = (pair : Pair) → is_in met pair ≡ true → is_named (seen_by graph met) pair ≡ true

-- the marked pairs of a page are reached
abbrev pub IsGood : Graph → List Pair → ℕ → Type 0
IsGood graph met page = (pair : Pair) → is_in met pair ≡ true → pair.page ≡ page → IsReached graph pair

-- ---- one step up

among_split : (some others : List Target) (target : Target) → Among (some ++ others) target → Among some target ⊎ Among others target
among_split [] others target there = inr there
among_split (one ∷ some) others target (inl same) = inl (inl same)
among_split (one ∷ some) others target (inr there) =
    elim (among_split some others target there) [
      | inl front ↦ inl (inr front)
      | inr back ↦ inr back
    ]

record IsPiece (targets : Pair → List Target) (pairs : List Pair) (target : Target) : Type 0 where
  pub source : Pair
  pub there : is_in pairs source ≡ true
  pub among : Among (targets source) target

among_from : (targets : Pair → List Target) (pairs : List Pair) (target : Target) → Among (flat_map targets pairs) target → IsPiece targets pairs target
among_from targets [] target there = absurd there
among_from targets (one ∷ pairs) target there =
    elim (among_split (targets one) (flat_map targets pairs) target there) [
      | inl front ↦ record { source = one; there = is_in_head one pairs; among = front }
      | inr back ↦ (let rest = among_from targets pairs target back in
          record { source = rest.source; there = or_right (same_pair rest.source one) (is_in pairs rest.source) rest.there; among = rest.among })
    ]

-- the one reference to a page names its marked pair
one_pair : (graph : Graph) (met : List Pair) (page : ℕ) (target : Target) (pair : Pair) → AllNamed graph met → only (to_page page (seen_by graph met)) ≡ Some target
    → is_in met pair ≡ true → pair.page ≡ page → target.pair ≡ pair
one_pair graph met page target pair named one there at =
    let found = named_by (seen_by graph met) pair (named pair there) in
    let same : found.target ≡ target = only_is (to_page page (seen_by graph met)) target found.target one
    (among_page page found.target (seen_by graph met) (ap (λ p. p.page) found.names ∙ at) found.among) in
    ap (λ t. t.pair) (sym same) ∙ found.names

-- what holds of each target holds of one of them
among_all : (P : Target → Type 0) (targets : List Target) (target : Target) → All P targets → Among targets target → P target
among_all P [] target each there = absurd there
among_all P (one ∷ targets) target each (inl same) = subst P same (All-head P one targets each)
among_all P (one ∷ targets) target each (inr there) = among_all P targets target (All-tail P one targets each) there

some_page : (one other : ℕ) → ◌≡◌ {A = Option ℕ} (Some one) (Some other) → one ≡ other
some_page one other same = cc

no_page : (page : ℕ) → ◌≡◌ {A = Option ℕ} (Some page) None → ⊥
no_page page same = cc

-- a page whose one reference stands in no page, or in one whose marked pairs are reached
pub climb : (graph : Graph) (lost met : List Pair) (page : ℕ) (target : Target) → IsSourced graph → IsOrder graph lost met → AllNamed graph met
    → only (to_page page (seen_by graph met)) ≡ Some target
    → ((before : ℕ) → source_page target.source ≡ Some before → IsGood graph met before) → IsGood graph met page
climb graph lost met page target sourced order named one good pair there at =
    let held = order_held graph lost met order pair there in
    let is : target.pair ≡ pair = one_pair graph met page target pair named one there at in
    let among = (page_among page target (seen_by graph met) (only_among (to_page page (seen_by graph met)) target one)).0 in
    elim (among_split graph.roots (flat_map graph.targets met) target among) [
      | inl root ↦ reached_root graph pair held (ap (is_named graph.roots) (sym is) ∙ among_named graph.roots target root)
      | inr more ↦ (let from = among_from graph.targets met target more in
          let before = good from.source.page (among_all (λ t. source_page t.source ≡ Some from.source.page) (graph.targets from.source) target (sourced.pairs from.source) from.among) from.source from.there refl in
          reached_next graph from.source pair before (ap (is_named (graph.targets from.source)) (sym is) ∙ among_named (graph.targets from.source) target from.among) held)
    ]

-- ---- all marked pairs

-- a pair names nothing, or is reached
abbrev pub EndsOrReached : Graph → Pair → Type 0
EndsOrReached graph pair = (graph.targets pair ≡ []) ⊎ IsReached graph pair

names_some : (graph : Graph) (source pair : Pair) → graph.targets source ≡ [] → is_named (graph.targets source) pair ≡ true → ⊥
names_some graph source pair none named = false≢true (ap (λ targets. is_named targets pair) (sym none) ∙ named)

named_still : (graph : Graph) (met : List Pair) (pair : Pair) → ((p : Pair) → is_in met p ≡ true → EndsOrReached graph p) → is_held graph.held pair.page ≡ true
    → is_named (seen_by graph met) pair ≡ true → IsReached graph pair
named_still graph met pair before held named =
    elim (or_cases (is_named graph.roots pair) (is_named (flat_map graph.targets met) pair) (sym (named_append graph.roots (flat_map graph.targets met) pair) ∙ named)) [
      | inl root ↦ reached_root graph pair held root
      | inr more ↦ (let from = named_from graph.targets met pair more in
          elim (before from.source from.there) [
            | inl none ↦ absurd (names_some graph from.source pair none from.names)
            | inr there ↦ reached_next graph from.source pair there from.names held
          ])
    ]

each_still : (graph : Graph) (lost met : List Pair) → IsOrder graph lost met → ((pair : Pair) → is_in met pair ≡ true → is_in lost pair ≡ true → EndsOrReached graph pair)
    → (pair : Pair) → is_in met pair ≡ true → EndsOrReached graph pair
each_still graph lost [] order checked pair there = absurd (false≢true there)
each_still graph lost (one ∷ met) order checked pair there =
    let before = each_still graph lost met order.3 (λ p in_met. checked p (or_right (same_pair p one) (is_in met p) in_met)) in
    elim (or_cases (same_pair pair one) (is_in met pair) there) [
      | inl same ↦ subst (EndsOrReached graph) (sym (same_is pair one same)) (elim (or_cases (is_in lost one) (is_named (seen_by graph met) one) order.2) [
        | inl gone ↦ checked one (is_in_head one met) gone
        | inr named ↦ inr (named_still graph met one before order.0 named)
      ])
      | inr more ↦ before pair more
    ]

-- where each marked pair that has lost a name ends or is reached, all marked pairs are reached
pub still_reached : (graph : Graph) (lost met : List Pair) → IsOrder graph lost met → AllNamed graph met
    → ((pair : Pair) → is_in met pair ≡ true → is_in lost pair ≡ true → EndsOrReached graph pair) → (pair : Pair) → is_in met pair ≡ true → IsReached graph pair
still_reached graph lost met order named checked pair there =
    named_still graph met pair (each_still graph lost met order checked) (order_held graph lost met order pair there) (named pair there)
