-- How the order of the marked pairs, and what they name together, change when what a pair names is exchanged, when a pair
-- is marked, and when one falls.
use Rattle.std.proofs.Common.{◌≡◌, ◌&&◌, ◌||◌, Bool, true, false, not, cond, List, [], ◌∷◌, ◌++◌, append_assoc, filter, ◌⊎◌, inl, inr, refl, sym, ap, subst, ◌∙◌}
use Rattle.std.specs.List.{flat_map}
use Rattle.std.specs.List.Sorted.{IsPermutation}
use Rattle.std.proofs.lemmas.Bool.{or_left, or_right, or_cases, and_from, false≢true}
use Rattle.std.proofs.lemmas.List.Sorted.{IsPermutation-append_left, IsPermutation-append_right, IsPermutation-append_comm, IsPermutation-trans}
use Rattle.sx_closure.specs.declared.pair.Pair.{Pair}
use Rattle.sx_closure.specs.declared.pair.Target.{Target}
use Rattle.sx_closure.specs.Graph.{same_pair, is_in, is_named, Graph, is_held}
use Rattle.sx_closure.proofs.Pairs.{same_is, same_self, same_answer, is_in_filter, apart_filter, same_pieces}
use Rattle.sx_closure.proofs.Reaching.{named_append, named_from, named_to}
use Rattle.sx_closure.proofs.Standing.{pieces_same}
use Rattle.sx_closure.proofs.Pairs.{Apart}
use Rattle.sx_closure.proofs.Walks.{seen_by}
use Rattle.sx_follow.specs.Orders.{IsOrder}

-- ---- exchange

-- what one graph names the other names, or it has lost that name
pub record IsExchange (one two : Graph) (lost met : List Pair) : Type 0 where
  pub held : (pair : Pair) → is_in met pair ≡ true → is_held two.held pair.page ≡ true
  pub roots : (pair : Pair) → is_named one.roots pair ≡ true → (is_in lost pair || is_named two.roots pair) ≡ true
  pub targets : (source pair : Pair) → is_in met source ≡ true → is_named (one.targets source) pair ≡ true → (is_in lost pair || is_named (two.targets source) pair) ≡ true

either : (lost named all : Bool) → (named ≡ true → all ≡ true) → (lost || named) ≡ true → (lost || all) ≡ true
either true named all more is = refl
either false named all more is = more is

exchange_named : (one two : Graph) (lost met : List Pair) (pair : Pair) → IsExchange one two lost met → is_named (seen_by one met) pair ≡ true
    → (is_in lost pair || is_named (seen_by two met) pair) ≡ true
exchange_named one two lost met pair exchange named =
    let roots = is_named two.roots pair in
    let pieces = is_named (flat_map two.targets met) pair in
    let whole = named_append two.roots (flat_map two.targets met) pair in
    elim (or_cases (is_named one.roots pair) (is_named (flat_map one.targets met) pair) (sym (named_append one.roots (flat_map one.targets met) pair) ∙ named)) [
      | inl root ↦ either (is_in lost pair) roots (is_named (seen_by two met) pair) (λ there. whole ∙ or_left roots pieces there) (exchange.roots pair root)
      | inr more ↦ (let from = named_from one.targets met pair more in
          either (is_in lost pair) (is_named (two.targets from.source) pair) (is_named (seen_by two met) pair)
          (λ there. whole ∙ or_right roots pieces (named_to two.targets met from.source pair from.there there))
          (exchange.targets from.source pair from.there from.names))
    ]

exchange_tail : (one two : Graph) (lost met : List Pair) (pair : Pair) → IsExchange one two lost (pair ∷ met) → IsExchange one two lost met
exchange_tail one two lost met pair exchange = record {
  held = λ other there. exchange.held other (or_right (same_pair other pair) (is_in met other) there);
  roots = exchange.roots;
  targets = λ source other there. exchange.targets source other (or_right (same_pair source pair) (is_in met source) there);
}

pub order_exchange : (one two : Graph) (before lost met : List Pair) → ((pair : Pair) → is_in before pair ≡ true → is_in lost pair ≡ true)
    → IsExchange one two lost met → IsOrder one before met → IsOrder two lost met
order_exchange one two before lost [] more exchange order = tt
order_exchange one two before lost (pair ∷ met) more exchange order =
    let rest = exchange_tail one two lost met pair exchange in
    let held = exchange.held pair (or_left (same_pair pair pair) (is_in met pair) (same_self pair)) in
    let named : (is_in lost pair || is_named (seen_by two met) pair) ≡ true =
    elim (or_cases (is_in before pair) (is_named (seen_by one met) pair) order.2) [
      | inl gone ↦ or_left (is_in lost pair) (is_named (seen_by two met) pair) (more pair gone)
      | inr there ↦ exchange_named one two lost met pair rest there
    ] in
    (held, order.1, named, order_exchange one two before lost met more rest order.3)

-- ---- fall

-- the pairs without one of them
abbrev pub without : Pair → List Pair → List Pair
without pair met = filter (λ other. not (same_pair pair other)) met

flip_same : (one other : Pair) → same_pair one other ≡ true → same_pair other one ≡ true
flip_same one other same = ap (λ p. same_pair other p) (same_is one other same) ∙ same_self other

-- a pair is the one, or stands in the rest
without_case : (met : List Pair) (pair other : Pair) (b : Bool) → same_pair pair other ≡ b → is_in met other ≡ true → (same_pair other pair ≡ true) ⊎ (is_in (without pair met) other ≡ true)
without_case met pair other true is there = inl (flip_same pair other is)
without_case met pair other false is there =
    inr (is_in_filter (λ p. not (same_pair pair p)) met other ∙ and_from (is_in met other) (not (same_pair pair other)) there (ap not is))

pub one_or_rest : (met : List Pair) (pair other : Pair) → is_in met other ≡ true → (same_pair other pair ≡ true) ⊎ (is_in (without pair met) other ≡ true)
one_or_rest met pair other there = without_case met pair other (same_pair pair other) refl there

and_first : (a b : Bool) → (a && b) ≡ true → a ≡ true
and_first true b is = refl
and_first false b is = absurd (false≢true is)

pub in_rest : (met : List Pair) (pair other : Pair) → is_in (without pair met) other ≡ true → is_in met other ≡ true
in_rest met pair other there =
    and_first (is_in met other) (not (same_pair pair other)) (sym (is_in_filter (λ p. not (same_pair pair p)) met other) ∙ there)

and_none : (a : Bool) → (a && false) ≡ false
and_none true = refl
and_none false = refl

pub none_left : (met : List Pair) (pair : Pair) → is_in (without pair met) pair ≡ false
none_left met pair =
    is_in_filter (λ p. not (same_pair pair p)) met pair ∙ ap (λ b. is_in met pair && not b) (same_self pair) ∙ and_none (is_in met pair)

pub not_in_rest : (met : List Pair) (pair other : Pair) → is_in met other ≡ false → is_in (without pair met) other ≡ false
not_in_rest met pair other none = is_in_filter (λ p. not (same_pair pair p)) met other ∙ ap (λ a. a && not (same_pair pair other)) none

-- what the rest names of what all name, but for what the one names
rest_named : (graph : Graph) (lost met : List Pair) (pair other : Pair) → ((p : Pair) → is_named (graph.targets pair) p ≡ true → is_in lost p ≡ true)
    → is_named (seen_by graph met) other ≡ true → (is_in lost other || is_named (seen_by graph (without pair met)) other) ≡ true
rest_named graph lost met pair other gone named =
    let roots = is_named graph.roots other in
    let pieces = is_named (flat_map graph.targets (without pair met)) other in
    let all = is_named (seen_by graph (without pair met)) other in
    let whole = named_append graph.roots (flat_map graph.targets (without pair met)) other in
    elim (or_cases roots (is_named (flat_map graph.targets met) other) (sym (named_append graph.roots (flat_map graph.targets met) other) ∙ named)) [
      | inl root ↦ or_right (is_in lost other) all (whole ∙ or_left roots pieces root)
      | inr more ↦ (let from = named_from graph.targets met other more in
          elim (one_or_rest met pair from.source from.there) [
            | inl same ↦ or_left (is_in lost other) all (gone other (ap (λ p. is_named (graph.targets p) other) (sym (same_is from.source pair same)) ∙ from.names))
            | inr rest ↦ or_right (is_in lost other) all (whole ∙ or_right roots pieces (named_to graph.targets (without pair met) from.source other rest from.names))
          ])
    ]

fall_case : (graph : Graph) (before lost : List Pair) (pair one : Pair) (met : List Pair) (b : Bool) → same_pair pair one ≡ b
    → ((p : Pair) → is_in before p ≡ true → is_in lost p ≡ true) → ((p : Pair) → is_named (graph.targets pair) p ≡ true → is_in lost p ≡ true)
    → IsOrder graph before (one ∷ met) → IsOrder graph lost (without pair met) → IsOrder graph lost (cond (not b) (one ∷ without pair met) (without pair met))
fall_case graph before lost pair one met true is more gone order rest = rest
fall_case graph before lost pair one met false is more gone order rest =
    let all = is_named (seen_by graph (without pair met)) one in
    let named : (is_in lost one || all) ≡ true =
    elim (or_cases (is_in before one) (is_named (seen_by graph met) one) order.2) [
      | inl lost_it ↦ or_left (is_in lost one) all (more one lost_it)
      | inr there ↦ rest_named graph lost met pair one gone there
    ] in
    (order.0, not_in_rest met pair one order.1, named, rest)

-- a pair falls: what it named has lost that name
pub order_fall : (graph : Graph) (before lost : List Pair) (pair : Pair) (met : List Pair) → ((p : Pair) → is_in before p ≡ true → is_in lost p ≡ true)
    → ((p : Pair) → is_named (graph.targets pair) p ≡ true → is_in lost p ≡ true) → IsOrder graph before met → IsOrder graph lost (without pair met)
order_fall graph before lost pair [] more gone order = tt
order_fall graph before lost pair (one ∷ met) more gone order =
    fall_case graph before lost pair one met (same_pair pair one) refl more gone order (order_fall graph before lost pair met more gone order.3)

-- ---- what all name together

-- with a pair more it is what that names, and what the others name
pub to_front : (roots some others : List Target) → IsPermutation (roots ++ (some ++ others)) (some ++ (roots ++ others))
to_front roots some others =
    subst (λ all. IsPermutation all (some ++ (roots ++ others))) (append_assoc roots some others)
    (subst (IsPermutation ((roots ++ some) ++ others)) (append_assoc some roots others)
    (IsPermutation-append_left others (roots ++ some) (some ++ roots) (IsPermutation-append_comm roots some)))

pub seen_more : (graph : Graph) (pair : Pair) (met : List Pair) → IsPermutation (seen_by graph (pair ∷ met)) (graph.targets pair ++ seen_by graph met)
seen_more graph pair met = to_front graph.roots (graph.targets pair) (flat_map graph.targets met)

split_in : (met : List Pair) (pair other : Pair) → is_in met pair ≡ true → is_in met other ≡ is_in (pair ∷ without pair met) other
split_in met pair other there =
    same_answer (is_in met other) (is_in (pair ∷ without pair met) other)
    (λ in_met. elim (one_or_rest met pair other in_met) [
      | inl same ↦ or_left (same_pair other pair) (is_in (without pair met) other) same
      | inr rest ↦ or_right (same_pair other pair) (is_in (without pair met) other) rest
    ])
    (λ in_both. elim (or_cases (same_pair other pair) (is_in (without pair met) other) in_both) [
      | inl same ↦ ap (is_in met) (same_is other pair same) ∙ there
      | inr rest ↦ in_rest met pair other rest
    ])

-- and of all it is what one of them names, and what the rest names
pub seen_without : (graph : Graph) (pair : Pair) (met : List Pair) → Apart met → is_in met pair ≡ true
    → IsPermutation (seen_by graph met) (graph.targets pair ++ seen_by graph (without pair met))
seen_without graph pair met apart there =
    let rest = without pair met in
    let pieces : IsPermutation (flat_map graph.targets met) (graph.targets pair ++ flat_map graph.targets rest) =
    same_pieces graph.targets met (pair ∷ rest) apart (none_left met pair, apart_filter (λ p. not (same_pair pair p)) met apart) (λ other. split_in met pair other there) in
    IsPermutation-trans (seen_by graph met) (graph.roots ++ (graph.targets pair ++ flat_map graph.targets rest)) (graph.targets pair ++ seen_by graph rest)
    (IsPermutation-append_right graph.roots (flat_map graph.targets met) (graph.targets pair ++ flat_map graph.targets rest) pieces)
    (to_front graph.roots (graph.targets pair) (flat_map graph.targets rest))

differs : (s : Bool) (a : Bool) → (a && not s) ≡ true → s ≡ false
differs false a is = refl
differs true true is = absurd (false≢true is)
differs true false is = absurd (false≢true is)

other_is : (met : List Pair) (pair other : Pair) → is_in (without pair met) other ≡ true → same_pair pair other ≡ false
other_is met pair other there = differs (same_pair pair other) (is_in met other) (sym (is_in_filter (λ p. not (same_pair pair p)) met other) ∙ there)

-- the others name the same where one pair's names are exchanged
pub seen_others : (one two : Graph) (pair : Pair) (met : List Pair) → one.roots ≡ two.roots
    → ((other : Pair) → (same_pair pair other ≡ false) → one.targets other ≡ two.targets other) → seen_by one (without pair met) ≡ seen_by two (without pair met)
seen_others one two pair met roots same =
    ap (λ some. some ++ flat_map one.targets (without pair met)) roots
    ∙ ap (λ pieces. two.roots ++ pieces) (pieces_same one.targets two.targets (without pair met) (λ other there. same other (other_is met pair other there)))
