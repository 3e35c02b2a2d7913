-- What falls with one target taken back, and with the names of one pair.
use Rattle.std.proofs.Common.{◌≡◌, ℕ, zero, suc, ◌+◌, ◌*◌, ◌<◌, ◌≤◌, ◌==◌, ◌&&◌, ◌||◌, Bool, true, false, not, cond, List, [], ◌∷◌, ◌++◌, length, length-append, append_assoc, append-nil, map, fold, get_or, drop, Option, Some, None, is_some, ◌⊎◌, inl, inr, refl, sym, ap, subst, ◌∙◌, arith}
use Rattle.std.specs.List.{flat_map}
use Rattle.std.specs.List.Sorted.{IsPermutation}
use Rattle.std.proofs.lemmas.Bool.{and_from, or_left, or_right, or_cases, false≢true, false_from_ne_true, eqb-true, eqb-false, eq-eqb}
use Rattle.std.proofs.lemmas.List.{drop-append-le, drop_all}
use Rattle.std.proofs.lemmas.List.Concat.{flat_map-append}
use Rattle.std.proofs.lemmas.List.Sorted.{IsPermutation-refl, IsPermutation-append_right, list_any-IsPermutation}
use Rattle.sx_closure.specs.declared.pair.Pair.{Pair}
use Rattle.sx_closure.specs.declared.pair.Target.{Target}
use Rattle.sx_closure.specs.Graph.{role_number, same_pair, is_in, is_named, Graph, IsGraph, is_held, pairs_of}
use Rattle.sx_closure.proofs.Walks.{seen_by}
use Rattle.sx_closure.specs.Tallying.{rank_of}
use Rattle.sx_follow.specs.Sums.{of_role, weighed, total, nothing, many_of, Sums, taken_at, taken}
use Rattle.sx_follow.specs.Rising.{has_at, has_many}
use Rattle.sx_follow.specs.Falling.{Fall, fell, fell_all, IsFalling}
use Rattle.sx_closure.proofs.Pairs.{or_none, same_is, same_self, same_answer, is_in_append, is_in_filter, apart_push, few}
use Rattle.sx_closure.proofs.Ranks.{differ}
use Rattle.sx_closure.proofs.Tallies.{Differ, rank_is_some}
use Rattle.sx_closure.proofs.Reaching.{in_pairs, length-pairs, named_append}
use Rattle.sx_closure.proofs.Walks.{Begins, begins_same, begins_trans}
use Rattle.sx_follow.proofs.Summing.{total_more, some_named}
use Rattle.sx_follow.proofs.SumLemmas.{sums_less, sums_same}
use Rattle.sx_follow.proofs.Following.{order_apart}
use Rattle.sx_follow.proofs.Exchanging.{without, none_left, not_in_rest, order_fall, seen_without}
use Rattle.sx_follow.proofs.RiseLemmas.{many_at, none_named, same_held}

held_kept : (all : Sums) (target : Target) (o : Option ℕ) → (taken_at all target o).held ≡ all.held
held_kept all target None = refl
held_kept all target (Some rank) = refl

taken_held : (all : Sums) (target : Target) → (taken all target).held ≡ all.held
unfolding taken
taken_held all target = held_kept all target (rank_of all.held target.pair.page)

-- ---- one target taken back

-- what was lost, or would be, is lost, or will be
lost_case : (in_lost same named pushed : Bool) → (same ≡ true → pushed ≡ true) → (in_lost ≡ true → pushed ≡ true) → (in_lost || (same || named)) ≡ true → (pushed || named) ≡ true
lost_case true same named pushed is old there = rw (old refl) refl
lost_case false true named pushed is old there = rw (is refl) refl
lost_case false false named true is old there = refl
lost_case false false named false is old there = there

pushed_same : (lost : List Pair) (pair other : Pair) → same_pair other pair ≡ true → is_in (lost ++ pair ∷ []) other ≡ true
pushed_same lost pair other same =
    is_in_append lost (pair ∷ []) other ∙ or_right (is_in lost other) (is_in (pair ∷ []) other) (or_left (same_pair other pair) false same)

pushed_old : (lost : List Pair) (pair other : Pair) → is_in lost other ≡ true → is_in (lost ++ pair ∷ []) other ≡ true
pushed_old lost pair other there = is_in_append lost (pair ∷ []) other ∙ or_left (is_in lost other) (is_in (pair ∷ []) other) there

lost_push : (lost : List Pair) (pair other : Pair) (named : Bool) → (is_in lost other || (same_pair other pair || named)) ≡ true → (is_in (lost ++ pair ∷ []) other || named) ≡ true
lost_push lost pair other named there =
    lost_case (is_in lost other) (same_pair other pair) named (is_in (lost ++ pair ∷ []) other) (pushed_same lost pair other) (pushed_old lost pair other) there

marked_case : (s n h : Bool) → (s ≡ true → (n ≡ true) ⊎ (h ≡ false)) → ((s || n) && h) ≡ (n && h)
marked_case false n h old = refl
marked_case true true h old = refl
marked_case true false false old = refl
marked_case true false true old =
    elim (old refl) [
      | inl named ↦ absurd (false≢true named)
      | inr missing ↦ absurd (false≢true (sym missing))
    ]

-- its pair is named still, or isn't held
fall_stays : (graph : Graph) (rest : List Target) (state : Fall) (target : Target) → IsGraph graph → (is : IsFalling graph (target ∷ rest) state)
    → (is_named (rest ++ seen_by graph is.met) target.pair ≡ true) ⊎ (is_held graph.held target.pair.page ≡ false)
    → IsFalling graph rest (record { sums = taken state.sums target; lost = state.lost ++ target.pair ∷ []; todo = state.todo })
fall_stays graph rest state target good is old =
    let seen = rest ++ seen_by graph is.met in
    record {
      held_is = taken_held state.sums target ∙ is.held_is;
      met = is.met;
      are = sums_less (target ∷ seen) seen state.sums target (subst Differ (sym is.held_is) (differ graph.held good.rising)) (IsPermutation-refl (target ∷ seen)) is.are;
      gone = is.gone;
      order = is.order;
      lost = λ pair there. lost_push state.lost target.pair pair (is_named rest pair) (is.lost pair there);
      marked = λ pair. is.marked pair ∙ marked_case (same_pair pair target.pair) (is_named seen pair) (is_held graph.held pair.page) (λ same.
          elim old [
            | inl named ↦ inl (ap (is_named seen) (same_is pair target.pair same) ∙ named)
            | inr missing ↦ inr (same_held graph pair target.pair false same missing)
          ]);
      apart = is.apart;
      fallen = is.fallen;
      todo_held = is.todo_held;
    }

-- the pairs that some targets name
pub pairs_in : List Target → List Pair
pairs_in targets = map (λ target. target.pair) targets

pub in_pairs_of : (targets : List Target) (pair : Pair) → is_in (pairs_in targets) pair ≡ is_named targets pair
unfolding pairs_in
in_pairs_of [] pair = refl
in_pairs_of (target ∷ targets) pair = ap (λ rest. same_pair pair target.pair || rest) (in_pairs_of targets pair)

and_false : (a : Bool) → (a && false) ≡ false
and_false true = refl
and_false false = refl

and_true : (a : Bool) → (a && true) ≡ a
and_true true = refl
and_true false = refl

rest_case : (s n h : Bool) → (s ≡ true → n ≡ false) → (((s || n) && h) && not s) ≡ (n && h)
rest_case true n h none = rw (none refl) (and_false h)
rest_case false n h none = and_true (n && h)

or_named : (in_lost one two : Bool) → (in_lost || one) ≡ true → (in_lost || (one || two)) ≡ true
or_named true one two there = refl
or_named false true two there = refl
or_named false false two there = absurd (false≢true there)

or_last : (in_lost one two : Bool) → two ≡ true → (in_lost || (one || two)) ≡ true
or_last true one two there = refl
or_last false true two there = refl
or_last false false two there = there

same_turned : (one other : Pair) → same_pair one other ≡ same_pair other one
same_turned one other =
    same_answer (same_pair one other) (same_pair other one)
    (λ same. ap (λ p. same_pair other p) (same_is one other same) ∙ same_self other)
    (λ same. ap (λ p. same_pair one p) (same_is other one same) ∙ same_self one)

-- it falls
fall_new : (graph : Graph) (rest : List Target) (state : Fall) (target : Target) → IsGraph graph → (is : IsFalling graph (target ∷ rest) state)
    → is_named (rest ++ seen_by graph is.met) target.pair ≡ false → is_held graph.held target.pair.page ≡ true
    → IsFalling graph (rest ++ graph.targets target.pair)
    (record { sums = taken state.sums target; lost = state.lost ++ target.pair ∷ []; todo = state.todo ++ target.pair ∷ [] })
fall_new graph rest state target good is none held =
    let pair = target.pair in
    let own = graph.targets pair in
    let met = without pair is.met in
    let seen = rest ++ seen_by graph is.met in
    let there : is_in is.met pair ≡ true =
    is.marked pair ∙ and_from (same_pair pair pair || is_named seen pair) (is_held graph.held pair.page) (or_left (same_pair pair pair) (is_named seen pair) (same_self pair)) held in
    let apart = order_apart graph is.gone is.met is.order in
    let perm : IsPermutation seen ((rest ++ own) ++ seen_by graph met) =
    subst (IsPermutation seen) (sym (append_assoc rest own (seen_by graph met)))
    (IsPermutation-append_right rest (seen_by graph is.met) (own ++ seen_by graph met) (seen_without graph pair is.met apart there)) in
    let not_before : is_in state.todo pair ≡ false = false_from_ne_true (is_in state.todo pair) (λ fell_before. false≢true (sym (is.fallen pair fell_before) ∙ there)) in
    record {
      held_is = taken_held state.sums target ∙ is.held_is;
      met = met;
      are = sums_same seen ((rest ++ own) ++ seen_by graph met) (taken state.sums target) perm
          (sums_less (target ∷ seen) seen state.sums target (subst Differ (sym is.held_is) (differ graph.held good.rising)) (IsPermutation-refl (target ∷ seen)) is.are);
      gone = is.gone ++ pairs_in own;
      order = order_fall graph is.gone (is.gone ++ pairs_in own) pair is.met
          (λ p old. is_in_append is.gone (pairs_in own) p ∙ or_left (is_in is.gone p) (is_in (pairs_in own) p) old)
          (λ p named. is_in_append is.gone (pairs_in own) p ∙ or_right (is_in is.gone p) (is_in (pairs_in own) p) (in_pairs_of own p ∙ named)) is.order;
      lost = λ other in_gone. ap (λ n. is_in (state.lost ++ pair ∷ []) other || n) (named_append rest own other)
          ∙ elim (or_cases (is_in is.gone other) (is_in (pairs_in own) other) (sym (is_in_append is.gone (pairs_in own) other) ∙ in_gone)) [
            | inl old ↦ or_named (is_in (state.lost ++ pair ∷ []) other) (is_named rest other) (is_named own other)
                (lost_push state.lost pair other (is_named rest other) (is.lost other old))
            | inr named ↦ or_last (is_in (state.lost ++ pair ∷ []) other) (is_named rest other) (is_named own other) (sym (in_pairs_of own other) ∙ named)
          ];
      marked = λ other. is_in_filter (λ p. not (same_pair pair p)) is.met other
          ∙ ap (λ b. is_in is.met other && not b) (same_turned pair other)
          ∙ ap (λ b. b && not (same_pair other pair)) (is.marked other)
          ∙ rest_case (same_pair other pair) (is_named seen other) (is_held graph.held other.page) (λ same. ap (is_named seen) (same_is other pair same) ∙ none)
          ∙ ap (λ n. n && is_held graph.held other.page) (list_any-IsPermutation (λ t. same_pair other t.pair) seen ((rest ++ own) ++ seen_by graph met) perm);
      apart = apart_push state.todo pair is.apart not_before;
      fallen = λ other in_todo. elim (or_cases (is_in state.todo other) (same_pair other pair || false) (sym (is_in_append state.todo (pair ∷ []) other) ∙ in_todo)) [
        | inl old ↦ not_in_rest is.met pair other (is.fallen other old)
        | inr same ↦ ap (is_in met) (same_is other pair (sym (or_none (same_pair other pair)) ∙ same)) ∙ none_left is.met pair
      ];
      todo_held = λ other in_todo. elim (or_cases (is_in state.todo other) (same_pair other pair || false) (sym (is_in_append state.todo (pair ∷ []) other) ∙ in_todo)) [
        | inl old ↦ is.todo_held other old
        | inr same ↦ same_held graph other pair true (sym (or_none (same_pair other pair)) ∙ same) held
      ];
    }

-- what is still to be taken back, with the names of a pair that fell
abbrev with_own : Bool → List Target → List Target → List Target
with_own b rest own = cond b (rest ++ own) rest

count_one : (pair : Pair) (target : Target) (seen : List Target) → target.pair ≡ pair
    → total (of_role pair.role) pair.page (target ∷ seen) ≡ total (of_role pair.role) pair.page seen + 1
count_one pair target seen is =
    let it : of_role pair.role target ≡ 1 = ap (λ b. cond b 1 0) (eq-eqb (role_number pair.role) (role_number target.pair.role) (ap (λ p. role_number p.role) (sym is))) in
    let at : weighed (of_role pair.role) pair.page target ≡ of_role pair.role target =
    ap (λ b. cond b (of_role pair.role target) 0) (eq-eqb target.pair.page pair.page (ap (λ p. p.page) is)) in
    omega (arith, total_more (of_role pair.role) pair.page target seen, it, at)

many_case : (graph : Graph) (rest : List Target) (state : Fall) (target : Target) (many : ℕ) (b : Bool) → IsGraph graph → (is : IsFalling graph (target ∷ rest) state)
    → is_held graph.held target.pair.page ≡ true → many ≡ total (of_role target.pair.role) target.pair.page (target ∷ (rest ++ seen_by graph is.met)) → (many == 1) ≡ b
    → IsFalling graph (with_own b rest (graph.targets target.pair))
    (record { sums = taken state.sums target; lost = state.lost ++ target.pair ∷ []; todo = cond b (state.todo ++ target.pair ∷ []) state.todo })
many_case graph rest state target many true good is held count sure =
    let one = eqb-true many 1 sure in
    let seen = rest ++ seen_by graph is.met in
    let none : total (of_role target.pair.role) target.pair.page seen ≡ 0 = omega (arith, one, count, count_one target.pair target seen refl) in
    fall_new graph rest state target good is (none_named seen target.pair none) held
many_case graph rest state target many false good is held count sure =
    let other = eqb-false many 1 sure in
    let seen = rest ++ seen_by graph is.met in
    let some : 0 < total (of_role target.pair.role) target.pair.page seen = omega (arith, other, count, count_one target.pair target seen refl) in
    fall_stays graph rest state target good is (inl (some_named seen target.pair some))

rank_case : (graph : Graph) (rest : List Target) (state : Fall) (target : Target) (o : Option ℕ) → IsGraph graph → IsFalling graph (target ∷ rest) state
    → rank_of state.sums.held target.pair.page ≡ o
    → IsFalling graph (with_own (has_at 1 state.sums target.pair o) rest (graph.targets target.pair))
    (record { sums = taken state.sums target; lost = state.lost ++ target.pair ∷ []; todo = cond (has_at 1 state.sums target.pair o) (state.todo ++ target.pair ∷ []) state.todo })
rank_case graph rest state target None good is ranked =
    let missing : is_held graph.held target.pair.page ≡ false =
    ap (λ held. is_held held target.pair.page) (sym is.held_is) ∙ sym (rank_is_some state.sums.held target.pair.page) ∙ ap is_some ranked in
    fall_stays graph rest state target good is (inr missing)
rank_case graph rest state target (Some rank) good is ranked =
    let held : is_held graph.held target.pair.page ≡ true =
    ap (λ pages. is_held pages target.pair.page) (sym is.held_is) ∙ sym (rank_is_some state.sums.held target.pair.page) ∙ ap is_some ranked in
    let many = many_of (get_or state.sums.sums rank nothing) target.pair.role in
    many_case graph rest state target many (many == 1) good is held
    (many_at (target ∷ (rest ++ seen_by graph is.met)) state.sums target.pair rank is.are ranked) refl

pub fall_one : (graph : Graph) (rest : List Target) (state : Fall) (target : Target) → IsGraph graph → IsFalling graph (target ∷ rest) state
    → IsFalling graph (with_own (has_many 1 state.sums target.pair) rest (graph.targets target.pair)) (fell state target)
unfolding fell
fall_one graph rest state target good is = rank_case graph rest state target (rank_of state.sums.held target.pair.page) good is refl

-- ---- one list of targets taken back, while the names of those that fall are put behind

queue_case : (graph : Graph) (targets : List Target) (n : ℕ) (todo : List Pair) (pair : Pair) (b : Bool) → n ≤ length todo
    → with_own b (targets ++ flat_map graph.targets (drop n todo)) (graph.targets pair) ≡ targets ++ flat_map graph.targets (drop n (cond b (todo ++ pair ∷ []) todo))
queue_case graph targets n todo pair false within = refl
queue_case graph targets n todo pair true within =
    append_assoc targets (flat_map graph.targets (drop n todo)) (graph.targets pair)
    ∙ ap (λ rest. targets ++ rest)
    (ap (λ own. flat_map graph.targets (drop n todo) ++ own) (sym (append-nil (graph.targets pair)))
    ∙ sym (flat_map-append graph.targets (drop n todo) (pair ∷ []))
    ∙ ap (flat_map graph.targets) (sym (drop-append-le n todo (pair ∷ []) within)))

fell_todo : (state : Fall) (target : Target) → (fell state target).todo ≡ cond (has_many 1 state.sums target.pair) (state.todo ++ target.pair ∷ []) state.todo
unfolding fell
fell_todo state target = refl

fell_begins_case : (b : Bool) (todo : List Pair) (pair : Pair) → Begins todo (cond b (todo ++ pair ∷ []) todo)
fell_begins_case true todo pair = record { more = pair ∷ []; joined = refl }
fell_begins_case false todo pair = begins_same todo

fell_begins : (state : Fall) (target : Target) → Begins state.todo (fell state target).todo
fell_begins state target =
    subst (Begins state.todo) (sym (fell_todo state target)) (fell_begins_case (has_many 1 state.sums target.pair) state.todo target.pair)

begins_long : (front whole : List Pair) → Begins front whole → length front ≤ length whole
begins_long front whole begins = let long = ap length begins.joined ∙ length-append front begins.more in omega (arith, long)

pub record IsFallenBy (graph : Graph) (n : ℕ) (before now : Fall) : Type 0 where
  pub falling : IsFalling graph (flat_map graph.targets (drop n now.todo)) now
  pub begins : Begins before.todo now.todo

pub fall_all : (graph : Graph) (n : ℕ) (targets : List Target) (state : Fall) → IsGraph graph → n ≤ length state.todo
    → IsFalling graph (targets ++ flat_map graph.targets (drop n state.todo)) state → IsFallenBy graph n state (fold fell state targets)
fall_all graph n [] state good within is = record { falling = is; begins = begins_same state.todo }
fall_all graph n (target ∷ targets) state good within is =
    let pair = target.pair in
    let next = fell state target in
    let begins = fell_begins state target in
    let long = begins_long state.todo next.todo begins in
    let one = fall_one graph (targets ++ flat_map graph.targets (drop n state.todo)) state target good is in
    let queue : with_own (has_many 1 state.sums pair) (targets ++ flat_map graph.targets (drop n state.todo)) (graph.targets pair) ≡ targets ++ flat_map graph.targets (drop n next.todo) =
    queue_case graph targets n state.todo pair (has_many 1 state.sums pair) within
    ∙ ap (λ todo. targets ++ flat_map graph.targets (drop n todo)) (sym (fell_todo state target)) in
    let rest = fall_all graph n targets next good (omega (arith, long, within)) (subst (λ pending. IsFalling graph pending next) queue one) in
    record { falling = rest.falling; begins = begins_trans state.todo next.todo (fold fell next targets).todo begins rest.begins }

-- ---- the loop

pub record IsFallLoop (graph : Graph) (next : ℕ) (state : Fall) : Type 0 where
  pub within : next ≤ length state.todo
  pub falling : IsFalling graph (flat_map graph.targets (drop next state.todo)) state

pub fall_start : (graph : Graph) (state : Fall) → IsFalling graph (flat_map graph.targets state.todo) state → IsFallLoop graph 0 state
fall_start graph state is = record { within = omega arith; falling = is }

drop_at : (xs : List Pair) (n : ℕ) (d : Pair) → n < length xs → drop n xs ≡ get_or xs n d ∷ drop (n + 1) xs
drop_at [] n d within = absurd (omega (arith, within))
drop_at (x ∷ xs) zero d within = refl
drop_at (x ∷ xs) (suc n) d within =
    let e : suc n + 1 ≡ suc (n + 1) = omega arith in
    drop_at xs n d (omega (arith, within)) ∙ ap (λ k. get_or xs n d ∷ drop k (x ∷ xs)) (sym e)

pub fall_more : (graph : Graph) (next : ℕ) (before now : Fall) (source : Pair) → IsGraph graph → IsFallLoop graph next before
    → (next < length before.todo) × (source ≡ get_or before.todo next source) → now ≡ fell_all before (graph.targets source) → IsFallLoop graph (next + 1) now
unfolding fell_all
fall_more graph next before now source good loop at made =
    let front : flat_map graph.targets (drop next before.todo) ≡ graph.targets source ++ flat_map graph.targets (drop (next + 1) before.todo) =
    ap (flat_map graph.targets) (drop_at before.todo next source at.0 ∙ ap (λ p. p ∷ drop (next + 1) before.todo) (sym at.1)) in
    let step = fall_all graph (next + 1) (graph.targets source) before good (omega (arith, at.0)) (subst (λ pending. IsFalling graph pending before) front loop.falling) in
    let long = begins_long before.todo (fold fell before (graph.targets source)).todo step.begins in
    subst (IsFallLoop graph (next + 1)) (sym made) (record { within = omega (arith, long, at.0); falling = step.falling })

-- no more fall than there are pairs
pub fall_few : (graph : Graph) (next : ℕ) (state : Fall) → IsFallLoop graph next state → length state.todo ≤ 5 * length graph.held
fall_few graph next state loop =
    let is = loop.falling in
    let some = few state.todo (pairs_of graph) is.apart (λ pair there. in_pairs graph pair ∙ is.todo_held pair there) in
    omega (arith, some, length-pairs graph)

pub fall_end : (graph : Graph) (next : ℕ) (state : Fall) → IsFallLoop graph next state → length state.todo ≤ next → IsFalling graph [] state
fall_end graph next state loop past =
    subst (λ rest. IsFalling graph (flat_map graph.targets rest) state) (drop_all next state.todo past) loop.falling
