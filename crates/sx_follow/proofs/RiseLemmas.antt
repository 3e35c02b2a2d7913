-- What rises with one target more, and with the names of one pair more.
use Rattle.std.proofs.Common.{◌≡◌, ℕ, ◌+◌, ◌*◌, ◌<◌, ◌≤◌, ◌==◌, ◌&&◌, ◌||◌, Bool, true, false, cond, List, [], ◌∷◌, ◌++◌, length, length-append, append_assoc, fold, get_or, take, take_all, Option, Some, None, is_some, ◌⊎◌, inl, inr, refl, sym, ap, subst, ◌∙◌, arith}
use Rattle.std.specs.List.{flat_map}
use Rattle.std.specs.List.Sorted.{IsPermutation}
use Rattle.std.proofs.lemmas.Bool.{and_parts, or_left, or_right, or_cases, false≢true, or_parts, false_from_ne_true, eqb-true, eqb-false}
use Rattle.std.proofs.lemmas.List.{take-append-le, take_more, flat_map_more}
use Rattle.std.proofs.lemmas.List.Sorted.{IsPermutation-append_left, IsPermutation-append_comm, list_any-IsPermutation}
use Rattle.sx_base.specs.declared.role.Role.{Role}
use Rattle.sx_base.specs.declared.role.Role.TheVariants.{Node, Overflow, Trunk, FreeLeaf, PointerMap}
use Rattle.sx_closure.specs.declared.pair.Pair.{Pair}
use Rattle.sx_closure.specs.declared.pair.Target.{Target}
use Rattle.sx_closure.specs.Graph.{same_pair, is_in, is_named, Graph, IsGraph, is_held, pairs_of}
use Rattle.sx_closure.specs.Tallying.{rank_of}
use Rattle.sx_follow.specs.Sums.{of_role, total, summed, nothing, many_of, Sums, added_at, added, AreSums}
use Rattle.sx_follow.specs.Rising.{has_at, has_many, Rise, rose, rose_all}
use Rattle.sx_follow.specs.Risen.{IsRising}
use Rattle.sx_closure.proofs.Pairs.{or_none, same_is, same_self, is_in_append, apart_push, few}
use Rattle.sx_closure.proofs.Ranks.{differ}
use Rattle.sx_closure.proofs.Tallies.{Differ, at_rank, rank_is_some}
use Rattle.sx_closure.proofs.Reaching.{in_pairs, length-pairs, named_append, named_from, named_to}
use Rattle.sx_closure.proofs.Walks.{Begins, begins_same, begins_trans, is_in_at, is_in_take}
use Rattle.sx_follow.proofs.Summing.{named_some, some_named}
use Rattle.sx_follow.proofs.SumLemmas.{sums_more, sums_same}
use Rattle.sx_closure.proofs.Walks.{seen_by}

-- ---- how many references name a pair, as the sums say

many_role : (seen : List Target) (page : ℕ) (role : Role) → many_of (summed seen page) role ≡ total (of_role role) page seen
many_role seen page Node = refl
many_role seen page Overflow = refl
many_role seen page Trunk = refl
many_role seen page FreeLeaf = refl
many_role seen page PointerMap = refl

pub many_at : (seen : List Target) (all : Sums) (pair : Pair) (rank : ℕ) → AreSums seen all → rank_of all.held pair.page ≡ Some rank
    → many_of (get_or all.sums rank nothing) pair.role ≡ total (of_role pair.role) pair.page seen
many_at seen all pair rank are ranked =
    ap (λ sums. many_of (get_or sums rank nothing) pair.role) are.sums
    ∙ ap (λ sum. many_of sum pair.role) (at_rank all.held pair.page rank (summed seen) nothing ranked)
    ∙ many_role seen pair.page pair.role

-- none names it
pub none_named : (seen : List Target) (pair : Pair) → total (of_role pair.role) pair.page seen ≡ 0 → is_named seen pair ≡ false
none_named seen pair none = false_from_ne_true (is_named seen pair) (λ named. (let some = named_some seen pair named in absurd (omega (arith, some, none))))

-- ---- the state of the rise

pub rising_same : (graph : Graph) (lost base : List Pair) (some others : List Target) (state : Rise) → IsPermutation some others
    → IsRising graph lost base some state → IsRising graph lost base others state
rising_same graph lost base some others state perm is = record {
  held_is = is.held_is;
  are = sums_same some others state.sums perm is.are;
  met = is.met;
  order = is.order;
  parts = is.parts;
  marked = λ pair. is.marked pair
      ∙ ap (λ named. named && is_held graph.held pair.page) (list_any-IsPermutation (λ target. same_pair pair target.pair) some others perm);
  apart = is.apart;
  new = is.new;
}

-- a root names the pair, or one that rose or was reached before
abbrev pub IsNamedIn : Graph → List Pair → List Pair → Pair → Type 0
IsNamedIn graph todo base pair = is_named (seen_by graph (todo ++ base)) pair ≡ true

-- lists with the same pairs name the same
pub same_named : (graph : Graph) (some others : List Pair) (pair : Pair) → ((p : Pair) → is_in some p ≡ true → is_in others p ≡ true)
    → is_named (seen_by graph some) pair ≡ true → is_named (seen_by graph others) pair ≡ true
same_named graph some others pair within named =
    let roots = is_named graph.roots pair in
    let pieces = is_named (flat_map graph.targets others) pair in
    named_append graph.roots (flat_map graph.targets others) pair
    ∙ elim (or_cases roots (is_named (flat_map graph.targets some) pair) (sym (named_append graph.roots (flat_map graph.targets some) pair) ∙ named)) [
      | inl root ↦ or_left roots pieces root
      | inr more ↦ (let from = named_from graph.targets some pair more in
          or_right roots pieces (named_to graph.targets others from.source pair (within from.source from.there) from.names))
    ]

pub named_in_more : (graph : Graph) (todo more base : List Pair) (pair : Pair) → IsNamedIn graph todo base pair → IsNamedIn graph (todo ++ more) base pair
named_in_more graph todo more base pair named =
    same_named graph (todo ++ base) ((todo ++ more) ++ base) pair (λ p there.
    is_in_append (todo ++ more) base p ∙ elim (or_cases (is_in todo p) (is_in base p) (sym (is_in_append todo base p) ∙ there)) [
      | inl old ↦ or_left (is_in (todo ++ more) p) (is_in base p) (is_in_append todo more p ∙ or_left (is_in todo p) (is_in more p) old)
      | inr first ↦ or_right (is_in (todo ++ more) p) (is_in base p) first
    ]) named

-- ---- one target more

held_kept : (all : Sums) (target : Target) (o : Option ℕ) → (added_at all target o).held ≡ all.held
held_kept all target None = refl
held_kept all target (Some rank) = refl

pub added_held : (all : Sums) (target : Target) → (added all target).held ≡ all.held
unfolding added
added_held all target = held_kept all target (rank_of all.held target.pair.page)

stays_case : (s n h : Bool) → (s ≡ true → (n ≡ true) ⊎ (h ≡ false)) → (n && h) ≡ ((s || n) && h)
stays_case false n h old = refl
stays_case true true h old = refl
stays_case true false false old = refl
stays_case true false true old =
    elim (old refl) [
      | inl named ↦ absurd (false≢true named)
      | inr missing ↦ absurd (false≢true (sym missing))
    ]

new_case : (s n h : Bool) → (s ≡ true → h ≡ true) → (s || (n && h)) ≡ ((s || n) && h)
new_case false n h held = refl
new_case true n true held = refl
new_case true n false held = absurd (false≢true (held refl))

swap_or : (a b c : Bool) → (a || (b || c)) ≡ ((b || (a || false)) || c)
swap_or true true c = refl
swap_or true false c = refl
swap_or false true c = refl
swap_or false false c = refl

pub same_held : (graph : Graph) (one other : Pair) (b : Bool) → same_pair one other ≡ true → is_held graph.held other.page ≡ b → is_held graph.held one.page ≡ b
same_held graph one other b same is = ap (λ p. is_held graph.held p.page) (same_is one other same) ∙ is

-- its pair rose before, or can't rise
rise_stays : (graph : Graph) (lost base : List Pair) (seen : List Target) (state : Rise) (target : Target) → IsGraph graph → IsRising graph lost base seen state
    → (is_named seen target.pair ≡ true) ⊎ (is_held graph.held target.pair.page ≡ false)
    → IsRising graph lost base (target ∷ seen) (record { sums = added state.sums target; named = state.named ++ target.pair ∷ []; todo = state.todo })
rise_stays graph lost base seen state target good is old = record {
  held_is = added_held state.sums target ∙ is.held_is;
  are = sums_more seen state.sums target (subst Differ (sym is.held_is) (differ graph.held good.rising)) is.are;
  met = is.met;
  order = is.order;
  parts = is.parts;
  marked = λ pair. is.marked pair ∙ stays_case (same_pair pair target.pair) (is_named seen pair) (is_held graph.held pair.page) (λ same.
      elim old [
        | inl named ↦ inl (ap (is_named seen) (same_is pair target.pair same) ∙ named)
        | inr missing ↦ inr (same_held graph pair target.pair false same missing)
      ]);
  apart = is.apart;
  new = is.new;
}

-- it rises
rise_new : (graph : Graph) (lost base : List Pair) (seen : List Target) (state : Rise) (target : Target) → IsGraph graph → (is : IsRising graph lost base seen state)
    → IsNamedIn graph state.todo base target.pair → is_named seen target.pair ≡ false → is_held graph.held target.pair.page ≡ true
    → IsRising graph lost base (target ∷ seen) (record { sums = added state.sums target; named = state.named ++ target.pair ∷ []; todo = state.todo ++ target.pair ∷ [] })
rise_new graph lost base seen state target good is named none held =
    let pair = target.pair in
    let apart : is_in is.met pair ≡ false = is.marked pair ∙ ap (λ n. n && is_held graph.held pair.page) none in
    let parts = or_parts (is_in state.todo pair) (is_in base pair) (sym (is.parts pair) ∙ apart) in
    let by : is_named (seen_by graph is.met) pair ≡ true = same_named graph (state.todo ++ base) is.met pair (λ p there.
    is.parts p ∙ sym (is_in_append state.todo base p) ∙ there) named in
    record {
      held_is = added_held state.sums target ∙ is.held_is;
      are = sums_more seen state.sums target (subst Differ (sym is.held_is) (differ graph.held good.rising)) is.are;
      met = pair ∷ is.met;
      order = (held, apart, or_right (is_in lost pair) (is_named (seen_by graph is.met) pair) by, is.order);
      parts = λ other. ap (λ rest. same_pair other pair || rest) (is.parts other)
          ∙ swap_or (same_pair other pair) (is_in state.todo other) (is_in base other)
          ∙ ap (λ front. front || is_in base other) (sym (is_in_append state.todo (pair ∷ []) other));
      marked = λ other. ap (λ rest. same_pair other pair || rest) (is.marked other)
          ∙ new_case (same_pair other pair) (is_named seen other) (is_held graph.held other.page) (λ same. same_held graph other pair true same held);
      apart = apart_push state.todo pair is.apart parts.0;
      new = λ other in_todo. elim (or_cases (is_in state.todo other) (same_pair other pair || false) (sym (is_in_append state.todo (pair ∷ []) other) ∙ in_todo)) [
        | inl old ↦ is.new other old
        | inr same ↦ ap (is_in base) (same_is other pair (sym (or_none (same_pair other pair)) ∙ same)) ∙ parts.1
      ];
    }

some_case : (graph : Graph) (lost base : List Pair) (seen : List Target) (state : Rise) (target : Target) (many : ℕ) (b : Bool) → IsGraph graph → (is : IsRising graph lost base seen state)
    → IsNamedIn graph state.todo base target.pair → is_held graph.held target.pair.page ≡ true → many ≡ total (of_role target.pair.role) target.pair.page seen
    → (many == 0) ≡ b
    → IsRising graph lost base (target ∷ seen) (record { sums = added state.sums target; named = state.named ++ target.pair ∷ []; todo = cond b (state.todo ++ target.pair ∷ []) state.todo })
some_case graph lost base seen state target many true good is named held count sure =
    rise_new graph lost base seen state target good is named (none_named seen target.pair (sym count ∙ eqb-true many 0 sure)) held
some_case graph lost base seen state target many false good is named held count sure =
    let other = eqb-false many 0 sure in
    let some : 0 < total (of_role target.pair.role) target.pair.page seen = omega (arith, other, count) in
    rise_stays graph lost base seen state target good is (inl (some_named seen target.pair some))

rank_case : (graph : Graph) (lost base : List Pair) (seen : List Target) (state : Rise) (target : Target) (o : Option ℕ) → IsGraph graph → (is : IsRising graph lost base seen state)
    → IsNamedIn graph state.todo base target.pair → rank_of state.sums.held target.pair.page ≡ o
    → IsRising graph lost base (target ∷ seen)
    (record { sums = added state.sums target; named = state.named ++ target.pair ∷ []; todo = cond (has_at 0 state.sums target.pair o) (state.todo ++ target.pair ∷ []) state.todo })
rank_case graph lost base seen state target None good is named ranked =
    let missing : is_held graph.held target.pair.page ≡ false =
    ap (λ held. is_held held target.pair.page) (sym is.held_is) ∙ sym (rank_is_some state.sums.held target.pair.page) ∙ ap is_some ranked in
    rise_stays graph lost base seen state target good is (inr missing)
rank_case graph lost base seen state target (Some rank) good is named ranked =
    let held : is_held graph.held target.pair.page ≡ true =
    ap (λ pages. is_held pages target.pair.page) (sym is.held_is) ∙ sym (rank_is_some state.sums.held target.pair.page) ∙ ap is_some ranked in
    let many = many_of (get_or state.sums.sums rank nothing) target.pair.role in
    some_case graph lost base seen state target many (many == 0) good is named held (many_at seen state.sums target.pair rank is.are ranked) refl

pub rising_one : (graph : Graph) (lost base : List Pair) (seen : List Target) (state : Rise) (target : Target) → IsGraph graph → IsRising graph lost base seen state
    → IsNamedIn graph state.todo base target.pair → IsRising graph lost base (target ∷ seen) (rose state target)
unfolding rose
rising_one graph lost base seen state target good is named =
    rank_case graph lost base seen state target (rank_of state.sums.held target.pair.page) good is named refl

-- ---- one list of targets more

rose_begins_case : (b : Bool) (todo : List Pair) (pair : Pair) → Begins todo (cond b (todo ++ pair ∷ []) todo)
rose_begins_case true todo pair = record { more = pair ∷ []; joined = refl }
rose_begins_case false todo pair = begins_same todo

pub rose_begins : (state : Rise) (target : Target) → Begins state.todo (rose state target).todo
unfolding rose
rose_begins state target = rose_begins_case (has_many 0 state.sums target.pair) state.todo target.pair

named_begins : (graph : Graph) (todo now base : List Pair) (pair : Pair) → Begins todo now → IsNamedIn graph todo base pair → IsNamedIn graph now base pair
named_begins graph todo now base pair begins named =
    subst (λ all. IsNamedIn graph all base pair) (sym begins.joined) (named_in_more graph todo begins.more base pair named)

-- one target in front of a list, or between
moved : (targets seen : List Target) (target : Target) → IsPermutation (targets ++ target ∷ seen) (target ∷ (targets ++ seen))
moved targets seen target =
    subst (λ all. IsPermutation all (target ∷ (targets ++ seen))) (append_assoc targets (target ∷ []) seen)
    (IsPermutation-append_left seen (targets ++ target ∷ []) (target ∷ targets) (IsPermutation-append_comm targets (target ∷ [])))

-- what a step with a list leaves
pub record IsRisenBy (graph : Graph) (lost base : List Pair) (seen : List Target) (before now : Rise) : Type 0 where
  pub rising : IsRising graph lost base seen now
  pub begins : Begins before.todo now.todo

pub rising_all : (graph : Graph) (lost base : List Pair) (seen targets : List Target) (state : Rise) → IsGraph graph → IsRising graph lost base seen state
    → ((pair : Pair) → is_named targets pair ≡ true → IsNamedIn graph state.todo base pair) → IsRisenBy graph lost base (targets ++ seen) state (fold rose state targets)
rising_all graph lost base seen [] state good is named = record { rising = is; begins = begins_same state.todo }
rising_all graph lost base seen (target ∷ targets) state good is named =
    let pair = target.pair in
    let first = named pair (or_left (same_pair pair pair) (is_named targets pair) (same_self pair)) in
    let one = rising_one graph lost base seen state target good is first in
    let begins = rose_begins state target in
    let rest = rising_all graph lost base (target ∷ seen) targets (rose state target) good one (λ other there.
    named_begins graph state.todo (rose state target).todo base other begins (named other (or_right (same_pair other pair) (is_named targets other) there))) in
    record {
      rising = rising_same graph lost base (targets ++ target ∷ seen) (target ∷ (targets ++ seen)) (fold rose (rose state target) targets) (moved targets seen target) rest.rising;
      begins = begins_trans state.todo (rose state target).todo (fold rose (rose state target) targets).todo begins rest.begins;
    }

-- ---- the loop

-- so many of the pairs that rose have been asked
pub record IsRiseLoop (graph : Graph) (lost base : List Pair) (first : List Target) (next : ℕ) (state : Rise) : Type 0 where
  pub within : next ≤ length state.todo
  pub rising : IsRising graph lost base (flat_map graph.targets (take next state.todo) ++ first) state

pub rise_start : (graph : Graph) (lost base : List Pair) (first : List Target) (state : Rise) → IsRising graph lost base first state → IsRiseLoop graph lost base first 0 state
rise_start graph lost base first state is = record { within = omega arith; rising = is }

pieces_more : (targets : Pair → List Target) (asked : List Pair) (pair : Pair) → flat_map targets asked ++ targets pair ≡ flat_map targets (asked ++ pair ∷ [])
pieces_more targets asked pair = flat_map_more targets [] asked pair

asked_more : (graph : Graph) (asked : List Pair) (pair : Pair) (first : List Target)
    → IsPermutation (graph.targets pair ++ (flat_map graph.targets asked ++ first)) (flat_map graph.targets (asked ++ pair ∷ []) ++ first)
asked_more graph asked pair first =
    let pieces = flat_map graph.targets asked in
    let own = graph.targets pair in
    let front : IsPermutation (own ++ pieces) (pieces ++ own) = IsPermutation-append_comm own pieces in
    let all : IsPermutation ((own ++ pieces) ++ first) ((pieces ++ own) ++ first) = IsPermutation-append_left first (own ++ pieces) (pieces ++ own) front in
    subst (λ xs. IsPermutation xs (flat_map graph.targets (asked ++ pair ∷ []) ++ first)) (append_assoc own pieces first)
    (subst (λ xs. IsPermutation ((own ++ pieces) ++ first) (xs ++ first)) (pieces_more graph.targets asked pair) all)

pub rise_more : (graph : Graph) (lost base : List Pair) (first : List Target) (next : ℕ) (before now : Rise) (source : Pair) → IsGraph graph
    → IsRiseLoop graph lost base first next before → (next < length before.todo) × (source ≡ get_or before.todo next source) → now ≡ rose_all before (graph.targets source)
    → IsRiseLoop graph lost base first (next + 1) now
unfolding rose_all
rise_more graph lost base first next before now source good loop at made =
    let asked = take next before.todo in
    let there : is_in before.todo source ≡ true = is_in_take before.todo (next + 1) source
    (subst (λ p. is_in (take (next + 1) before.todo) p ≡ true) (sym at.1) (is_in_at before.todo next source at.0)) in
    let step = rising_all graph lost base (flat_map graph.targets asked ++ first) (graph.targets source) before good loop.rising (λ pair names.
    named_append graph.roots (flat_map graph.targets (before.todo ++ base)) pair
    ∙ or_right (is_named graph.roots pair) (is_named (flat_map graph.targets (before.todo ++ base)) pair)
    (named_to graph.targets (before.todo ++ base) source pair (is_in_append before.todo base source ∙ or_left (is_in before.todo source) (is_in base source) there) names)) in
    let next_state = fold rose before (graph.targets source) in
    let front : take (next + 1) next_state.todo ≡ asked ++ source ∷ [] =
    ap (take (next + 1)) step.begins.joined ∙ take-append-le (next + 1) before.todo step.begins.more (omega (arith, at.0))
    ∙ take_more before.todo next source at.0 ∙ ap (λ p. asked ++ p ∷ []) (sym at.1) in
    let long : length next_state.todo ≡ length before.todo + length step.begins.more = ap length step.begins.joined ∙ length-append before.todo step.begins.more in
    subst (IsRiseLoop graph lost base first (next + 1)) (sym made) (record {
      within = omega (arith, long, at.0);
      rising = subst (λ all. IsRising graph lost base (flat_map graph.targets all ++ first) next_state) (sym front)
          (rising_same graph lost base (graph.targets source ++ (flat_map graph.targets asked ++ first)) (flat_map graph.targets (asked ++ source ∷ []) ++ first) next_state
          (asked_more graph asked source first) step.rising);
    })

-- no more rise than there are pairs
pub rise_few : (graph : Graph) (lost base : List Pair) (first : List Target) (next : ℕ) (state : Rise) → IsRiseLoop graph lost base first next state
    → length state.todo ≤ 5 * length graph.held
rise_few graph lost base first next state loop =
    let is = loop.rising in
    let some = few state.todo (pairs_of graph) is.apart (λ pair there.
    in_pairs graph pair ∙ (and_parts (is_named (flat_map graph.targets (take next state.todo) ++ first) pair) (is_held graph.held pair.page)
    (sym (is.marked pair) ∙ is.parts pair ∙ or_left (is_in state.todo pair) (is_in base pair) there)).1) in
    omega (arith, some, length-pairs graph)

-- in the end all that rose have been asked
pub rise_end : (graph : Graph) (lost base : List Pair) (first : List Target) (next : ℕ) (state : Rise) → IsRiseLoop graph lost base first next state → length state.todo ≤ next
    → IsRising graph lost base (flat_map graph.targets state.todo ++ first) state
rise_end graph lost base first next state loop past =
    subst (λ all. IsRising graph lost base (flat_map graph.targets all ++ first) state) (take_all next state.todo past) loop.rising
