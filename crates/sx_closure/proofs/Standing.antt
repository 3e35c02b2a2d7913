-- What pairs name that name the same; and that a reached pair is named by a reference to its page.
use Rattle.std.proofs.Common.{◌≡◌, ℕ, zero, suc, ◌*◌, ◌||◌, Bool, true, false, List, [], ◌∷◌, ◌++◌, length, inl, inr, refl, sym, ap, subst, ◌∙◌}
use Rattle.std.specs.List.{flat_map}
use Rattle.std.proofs.lemmas.Bool.{or_left, or_right, or_cases, and_parts, false≢true}
use Rattle.sx_closure.specs.declared.pair.Pair.{Pair}
use Rattle.sx_closure.specs.declared.pair.Target.{Target}
use Rattle.sx_closure.specs.Graph.{same_pair, is_in, is_named, Graph, is_held, reach, reached, all_targets, references_to}
use Rattle.sx_closure.proofs.Pairs.{same_is, is_in_head}
use Rattle.sx_closure.proofs.Reaching.{named_append, named_from, named_to, reach_none, reach_one, reach_held, reach_stays}
use Rattle.sx_closure.proofs.Counting.{to_held}
use Rattle.sx_closure.proofs.Numbering.{Among, among_page}

pub pieces_same : (f g : Pair → List Target) (pairs : List Pair) → ((pair : Pair) → is_in pairs pair ≡ true → f pair ≡ g pair) → flat_map f pairs ≡ flat_map g pairs
pieces_same f g [] same = refl
pieces_same f g (pair ∷ pairs) same =
    ap (λ front. front ++ flat_map f pairs) (same pair (is_in_head pair pairs))
    ∙ ap (λ rest. g pair ++ rest) (pieces_same f g pairs (λ other there. same other (or_right (same_pair other pair) (is_in pairs other) there)))

-- ---- a pair that is reached is named by a reference to its page

more_named : (graph : Graph) (some others : List Pair) (pair : Pair) → ((p : Pair) → is_in some p ≡ true → is_in others p ≡ true)
    → is_named (flat_map graph.targets some) pair ≡ true → is_named (flat_map graph.targets others) pair ≡ true
more_named graph some others pair within named =
    let from = named_from graph.targets some pair named in
    named_to graph.targets others from.source pair (within from.source from.there) from.names

pub reach_named : (graph : Graph) (rounds : ℕ) (pair : Pair) → is_in (reach graph rounds) pair ≡ true
    → is_named (graph.roots ++ flat_map graph.targets (reach graph rounds)) pair ≡ true
reach_named graph zero pair there =
    named_append graph.roots (flat_map graph.targets (reach graph 0)) pair
    ∙ or_left (is_named graph.roots pair) (is_named (flat_map graph.targets (reach graph 0)) pair)
    (and_parts (is_held graph.held pair.page) (is_named graph.roots pair) (sym (reach_none graph pair) ∙ there)).1
reach_named graph (suc rounds) pair there =
    let before = is_in (reach graph rounds) pair in
    let named = is_named (flat_map graph.targets (reach graph rounds)) pair in
    let root = is_named graph.roots pair in
    let next = is_named (flat_map graph.targets (reach graph (suc rounds))) pair in
    let stays : named ≡ true → next ≡ true = more_named graph (reach graph rounds) (reach graph (suc rounds)) pair (reach_stays graph rounds) in
    named_append graph.roots (flat_map graph.targets (reach graph (suc rounds))) pair
    ∙ elim (or_cases before named (and_parts (is_held graph.held pair.page) (before || named) (sym (reach_one graph rounds pair) ∙ there)).1) [
      | inl old ↦ elim (or_cases root named (sym (named_append graph.roots (flat_map graph.targets (reach graph rounds)) pair) ∙ reach_named graph rounds pair old)) [
        | inl first ↦ or_left root next first
        | inr later ↦ or_right root next (stays later)
      ]
      | inr new ↦ or_right root next (stays new)
    ]

-- a target that names the pair
pub record IsNamedBy (targets : List Target) (pair : Pair) : Type 0 where
  pub target : Target
  pub among : Among targets target
  pub names : target.pair ≡ pair

named_case : (one : Target) (targets : List Target) (pair : Pair) (b : Bool) → same_pair pair one.pair ≡ b → (b || is_named targets pair) ≡ true
    → (is_named targets pair ≡ true → IsNamedBy targets pair) → IsNamedBy (one ∷ targets) pair
named_case one targets pair true is named more = record { target = one; among = inl refl; names = sym (same_is pair one.pair is) }
named_case one targets pair false is named more = let rest = more named in record { target = rest.target; among = inr rest.among; names = rest.names }

pub named_by : (targets : List Target) (pair : Pair) → is_named targets pair ≡ true → IsNamedBy targets pair
named_by [] pair named = absurd (false≢true named)
named_by (one ∷ targets) pair named = named_case one targets pair (same_pair pair one.pair) refl named (named_by targets pair)

pub reference_to : (graph : Graph) (pair : Pair) → is_in (reached graph) pair ≡ true → IsNamedBy (references_to graph pair.page) pair
reference_to graph pair there =
    let found = named_by (all_targets graph) pair (reach_named graph (4 * length graph.held) pair there) in
    let held = reach_held graph (4 * length graph.held) pair there in
    record {
      target = found.target;
      among = subst (λ targets. Among targets found.target) (sym (to_held graph.held pair.page (all_targets graph) held))
          (among_page pair.page found.target (all_targets graph) (ap (λ p. p.page) found.names) found.among);
      names = found.names;
    }
