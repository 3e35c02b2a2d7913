-- The walk over the pairs that are met: what it keeps, and what it ends with.
use Rattle.std.proofs.Common.{◌≡◌, ℕ, zero, suc, ◌+◌, ◌-◌, ◌*◌, ◌<◌, ◌≤◌, ◌&&◌, ◌||◌, Bool, true, false, cond, List, [], ◌∷◌, ◌++◌, length, length-append, append_assoc, map, fold, get_or, take, drop, ◌⊎◌, inl, inr, Option, Some, None, is_some, refl, sym, ap, subst, ◌∙◌, arith}
use Rattle.std.specs.List.{flat_map}
use Rattle.std.proofs.lemmas.Bool.{and_parts, and_from, or_cases, or_left, or_right, false≢true}
use Rattle.std.proofs.lemmas.List.{take-append-le, take_more, take_all, append-nil, flat_map_more, length_push, drop-append-le, drop_all, take-append-drop, length-drop}
use Rattle.sx_closure.specs.declared.pair.Pair.{Pair}
use Rattle.sx_closure.specs.declared.pair.Target.{Target}
use Rattle.sx_closure.specs.declared.table.Marks.{Marks}
use Rattle.sx_closure.specs.Graph.{role_number, same_pair, is_in, is_named, Graph, IsGraph, is_held, pairs_of, reach, reached}
use Rattle.sx_closure.specs.Tallying.{is_marked, blank, rank_of, Tallied, meets, added_at, added, added_all}
use Rattle.sx_closure.proofs.Pairs.{or_none, same_is, same_self, same_answer, is_in_append, is_in_head, Apart, apart_push, few}
use Rattle.sx_closure.proofs.Tallies.{Differ, tallied, tallied_mark, at_rank, rank_is_some, IsTally, tally_none, tally_push}
use Rattle.sx_closure.proofs.Ranks.{differ}
use Rattle.sx_closure.proofs.Reaching.{in_pairs, length-pairs, four_of, in_four, length-four, named_append, reach_none, reach_stays, reach_more, reach_next, reach_within}

-- ---- the pairs met are those of held pages that the counted targets name

pub record IsMet (held : List ℕ) (seen : List Target) (met : List Pair) : Type 0 where
  pub apart : Apart met
  pub same : (pair : Pair) → is_in met pair ≡ (is_named seen pair && is_held held pair.page)

pub met_none : (held : List ℕ) → IsMet held [] []
met_none held = record { apart = tt; same = λ pair. refl }

named_push : (seen : List Target) (target : Target) (pair : Pair) → is_named (seen ++ target ∷ []) pair ≡ (is_named seen pair || same_pair pair target.pair)
named_push seen target pair = named_append seen (target ∷ []) pair ∙ ap (λ a. is_named seen pair || a) (or_none (same_pair pair target.pair))

-- a target that isn't held
and_case : (n s h : Bool) → (s ≡ true → h ≡ false) → (n && h) ≡ ((n || s) && h)
and_case true s h other = refl
and_case false false h other = refl
and_case false true h other = sym (other refl)

-- a pair that was met
met_case : (n s h : Bool) → (s ≡ true → n ≡ true) → (n && h) ≡ ((n || s) && h)
met_case true s h there = refl
met_case false false h there = refl
met_case false true h there = absurd (false≢true (there refl))

-- a pair that wasn't
new_case : (n s h : Bool) → (s ≡ true → h ≡ true) → ((n && h) || s) ≡ ((n || s) && h)
new_case true true true held = refl
new_case true false true held = refl
new_case true true false held = absurd (false≢true (held refl))
new_case true false false held = refl
new_case false true true held = refl
new_case false false true held = refl
new_case false true false held = sym (held refl)
new_case false false false held = refl

-- how the pairs met change with one target
pub met_rank : (held : List ℕ) (seen : List Target) (met : List Pair) (target : Target) (b : Bool) → is_named seen target.pair ≡ b
    → is_held held target.pair.page ≡ true → IsMet held seen met → IsMet held (seen ++ target ∷ []) (cond b met (met ++ target.pair ∷ []))
met_rank held seen met target true named there is = record {
  apart = is.apart;
  same = λ pair. is.same pair
      ∙ met_case (is_named seen pair) (same_pair pair target.pair) (is_held held pair.page) (λ same. ap (is_named seen) (same_is pair target.pair same) ∙ named)
      ∙ ap (λ a. a && is_held held pair.page) (sym (named_push seen target pair));
}
met_rank held seen met target false named there is = record {
  apart = apart_push met target.pair is.apart (is.same target.pair ∙ ap (λ a. a && is_held held target.pair.page) named);
  same = λ pair. is_in_append met (target.pair ∷ []) pair
      ∙ ap (λ a. is_in met pair || a) (or_none (same_pair pair target.pair))
      ∙ ap (λ a. a || same_pair pair target.pair) (is.same pair)
      ∙ new_case (is_named seen pair) (same_pair pair target.pair) (is_held held pair.page) (λ same. ap (λ p. is_held held p.page) (same_is pair target.pair same) ∙ there)
      ∙ ap (λ a. a && is_held held pair.page) (sym (named_push seen target pair));
}

pub met_dead : (held : List ℕ) (seen : List Target) (met : List Pair) (target : Target) → is_held held target.pair.page ≡ false → IsMet held seen met
    → IsMet held (seen ++ target ∷ []) met
met_dead held seen met target missing is = record {
  apart = is.apart;
  same = λ pair. is.same pair
      ∙ and_case (is_named seen pair) (same_pair pair target.pair) (is_held held pair.page) (λ same. ap (λ p. is_held held p.page) (same_is pair target.pair same) ∙ missing)
      ∙ ap (λ a. a && is_held held pair.page) (sym (named_push seen target pair));
}

-- a list begins with another
pub record Begins (front whole : List Pair) : Type 0 where
  pub more : List Pair
  pub joined : whole ≡ front ++ more

pub begins_same : (front : List Pair) → Begins front front
begins_same front = record { more = []; joined = sym (append-nil front) }

pub begins_trans : (one two three : List Pair) → Begins one two → Begins two three → Begins one three
begins_trans one two three first second = record {
  more = first.more ++ second.more;
  joined = second.joined ∙ ap (λ xs. xs ++ second.more) first.joined ∙ append_assoc one first.more second.more;
}

begins_has : (front whole : List Pair) (pair : Pair) → Begins front whole → is_in front pair ≡ true → is_in whole pair ≡ true
begins_has front whole pair begins there =
    ap (λ ps. is_in ps pair) begins.joined ∙ is_in_append front begins.more pair ∙ or_left (is_in front pair) (is_in begins.more pair) there

-- ---- how far the pairs met are from the roots: all but the first so many were added one at a time

pub record IsSound (graph : Graph) (first : ℕ) (met : List Pair) : Type 0 where
  pub rounds : ℕ
  pub long : length met ≡ first + rounds
  pub known : (pair : Pair) → is_in met pair ≡ true → is_in (reach graph rounds) pair ≡ true
  pub late : (pair : Pair) → is_in (drop first met) pair ≡ true → role_number pair.role < 4

known_case : (graph : Graph) (met : List Pair) (pair other : Pair) (rounds : ℕ) → ((is_in met other ≡ true) ⊎ ((same_pair other pair || false) ≡ true))
    → ((p : Pair) → is_in met p ≡ true → is_in (reach graph rounds) p ≡ true) → is_in (reach graph (suc rounds)) pair ≡ true → is_in (reach graph (suc rounds)) other ≡ true
known_case graph met pair other rounds (inl there) known next = reach_stays graph rounds other (known other there)
known_case graph met pair other rounds (inr same) known next =
    ap (is_in (reach graph (suc rounds))) (same_is other pair (sym (or_none (same_pair other pair)) ∙ same)) ∙ next

late_case : (first : ℕ) (met : List Pair) (pair other : Pair) → role_number pair.role < 4 → ((is_in (drop first met) other ≡ true) ⊎ ((same_pair other pair || false) ≡ true))
    → ((p : Pair) → is_in (drop first met) p ≡ true → role_number p.role < 4) → role_number other.role < 4
late_case first met pair other low (inl there) late = late other there
late_case first met pair other low (inr same) late =
    let it : other ≡ pair = same_is other pair (sym (or_none (same_pair other pair)) ∙ same) in
    rw it low

sound_new : (graph : Graph) (first : ℕ) (met : List Pair) (pair : Pair) → IsSound graph first met → role_number pair.role < 4
    → ((rounds : ℕ) → ((source : Pair) → is_in met source ≡ true → is_in (reach graph rounds) source ≡ true) → is_in (reach graph (suc rounds)) pair ≡ true)
    → IsSound graph first (met ++ pair ∷ [])
sound_new graph first met pair is low next = record {
  rounds = suc is.rounds;
  long = length_push met pair ∙ omega (arith, is.long);
  known = λ other there. known_case graph met pair other is.rounds (or_cases (is_in met other) (same_pair other pair || false) (sym (is_in_append met (pair ∷ []) other) ∙ there))
      is.known (next is.rounds is.known);
  late = λ other there. late_case first met pair other low
      (or_cases (is_in (drop first met) other) (same_pair other pair || false)
      (sym (is_in_append (drop first met) (pair ∷ []) other) ∙ ap (λ ps. is_in ps other) (sym (drop-append-le first met (pair ∷ []) (omega (arith, is.long)))) ∙ there))
      is.late;
}

-- ---- one target more

-- the pairs met stay, or the target's is new
abbrev pub Grows : List ℕ → List Pair → Target → List Pair → Type 0
Grows held met target now = (now ≡ met) ⊎ ((now ≡ met ++ target.pair ∷ []) × (is_held held target.pair.page ≡ true))

mark_case : (met : List Pair) (marks : Marks) (target : Target) (held : List ℕ) (b : Bool) → is_marked marks target.pair.role ≡ b → is_held held target.pair.page ≡ true
    → Grows held met target (meets met marks target.pair)
mark_case met marks target held true is there = inl (rw is refl)
mark_case met marks target held false is there = inr (rw is refl, there)

push_case : (seen : List Target) (tally : Tallied) (target : Target) → IsTally seen tally → IsMet tally.held seen tally.met
    → (o : Option ℕ) → rank_of tally.held target.pair.page ≡ o
    → IsMet tally.held (seen ++ target ∷ []) (added_at tally target o).met × Grows tally.held tally.met target (added_at tally target o).met
push_case seen tally target is met None ranked =
    let missing : is_held tally.held target.pair.page ≡ false = sym (rank_is_some tally.held target.pair.page) ∙ ap is_some ranked in
    (met_dead tally.held seen tally.met target missing met, inl refl)
push_case seen tally target is met (Some rank) ranked =
    let there : is_held tally.held target.pair.page ≡ true = sym (rank_is_some tally.held target.pair.page) ∙ ap is_some ranked in
    let entry = get_or tally.entries rank blank in
    let old : entry ≡ tallied seen target.pair.page =
    ap (λ es. get_or es rank blank) is.entries ∙ at_rank tally.held target.pair.page rank (tallied seen) blank ranked in
    let named : is_named seen target.pair ≡ is_marked entry.marks target.pair.role =
    sym (tallied_mark seen target.pair) ∙ ap (λ e. is_marked e.marks target.pair.role) (sym old) in (
      met_rank tally.held seen tally.met target (is_marked entry.marks target.pair.role) named there met,
      mark_case tally.met entry.marks target tally.held (is_marked entry.marks target.pair.role) refl there,
    )

held_case : (tally : Tallied) (target : Target) (o : Option ℕ) → (added_at tally target o).held ≡ tally.held
held_case tally target None = refl
held_case tally target (Some rank) = refl

pub added_held : (tally : Tallied) (target : Target) → (added tally target).held ≡ tally.held
unfolding added
added_held tally target = held_case tally target (rank_of tally.held target.pair.page)

met_push : (seen : List Target) (tally : Tallied) (target : Target) → IsTally seen tally → IsMet tally.held seen tally.met
    → IsMet tally.held (seen ++ target ∷ []) (added tally target).met × Grows tally.held tally.met target (added tally target).met
unfolding added
met_push seen tally target is met = push_case seen tally target is met (rank_of tally.held target.pair.page) refl

pub counted_push : (seen : List Target) (tally : Tallied) (target : Target) → Differ tally.held → IsTally seen tally → IsMet tally.held seen tally.met
    → IsTally (seen ++ target ∷ []) (added tally target) × IsMet (added tally target).held (seen ++ target ∷ []) (added tally target).met
    × Grows tally.held tally.met target (added tally target).met
counted_push seen tally target differ is met =
    let pushed = met_push seen tally target is met in (
      tally_push seen tally target differ is,
      subst (λ held. IsMet held (seen ++ target ∷ []) (added tally target).met) (sym (added_held tally target)) pushed.0,
      pushed.1,
    )

-- ---- one list of targets more

-- a list and one element in front of another list
in_front : {A : Type 0} (some : List A) (one : A) (others : List A) → (some ++ one ∷ []) ++ others ≡ some ++ one ∷ others
in_front some one others = append_assoc some (one ∷ []) others

pub record IsCountedAll (held : List ℕ) (seen : List Target) (tally : Tallied) : Type 0 where
  pub held_is : tally.held ≡ held
  pub tally_is : IsTally seen tally
  pub met_is : IsMet tally.held seen tally.met

counted_one : (held : List ℕ) (seen : List Target) (tally : Tallied) (target : Target) → Differ held → IsCountedAll held seen tally → IsCountedAll held (seen ++ target ∷ []) (added tally target)
counted_one held seen tally target differ is =
    let pushed = counted_push seen tally target (subst Differ (sym is.held_is) differ) is.tally_is is.met_is in
    record { held_is = added_held tally target ∙ is.held_is; tally_is = pushed.0; met_is = pushed.1 }

-- the roots' targets
pub counted_roots : (held : List ℕ) (seen targets : List Target) (tally : Tallied) → Differ held → IsCountedAll held seen tally
    → IsCountedAll held (seen ++ targets) (fold added tally targets)
counted_roots held seen [] tally differ is = subst (λ all. IsCountedAll held all tally) (sym (append-nil seen)) is
counted_roots held seen (target ∷ targets) tally differ is =
    subst (λ all. IsCountedAll held all (fold added (added tally target) targets)) (in_front seen target targets)
    (counted_roots held (seen ++ target ∷ []) targets (added tally target) differ (counted_one held seen tally target differ is))

-- the targets of one pair that was met
pub record IsOn (graph : Graph) (first : ℕ) (seen : List Target) (before : List Pair) (tally : Tallied) : Type 0 where
  pub counted_is : IsCountedAll graph.held seen tally
  pub sound : IsSound graph first tally.met
  pub begins : Begins before tally.met

sound_case : (graph : Graph) (first : ℕ) (met : List Pair) (target : Target) (source : Pair) (now : List Pair)
    → IsSound graph first met → is_in met source ≡ true → is_named (graph.targets source) target.pair ≡ true → role_number target.pair.role < 4
    → Grows graph.held met target now → IsSound graph first now × Begins met now
sound_case graph first met target source now sound there names low (inl same) = (subst (IsSound graph first) (sym same) sound, subst (Begins met) (sym same) (begins_same met))
sound_case graph first met target source now sound there names low (inr new) = (
  subst (IsSound graph first) (sym new.0)
      (sound_new graph first met target.pair sound low (λ rounds known. reach_next graph rounds source target.pair (known source there) names new.1)),
  record { more = target.pair ∷ []; joined = new.0 },
)

pub on_all : (graph : Graph) (first : ℕ) (source : Pair) → IsGraph graph → Differ graph.held
    → (targets : List Target) → ((pair : Pair) → is_named targets pair ≡ true → is_named (graph.targets source) pair ≡ true)
    → (seen : List Target) (before : List Pair) (tally : Tallied) → is_in before source ≡ true → IsOn graph first seen before tally
    → IsOn graph first (seen ++ targets) before (fold added tally targets)
on_all graph first source is differ [] names seen before tally there on = subst (λ all. IsOn graph first all before tally) (sym (append-nil seen)) on
on_all graph first source is differ (target ∷ targets) names seen before tally there on =
    let counts = on.counted_is in
    let pushed = counted_push seen tally target (subst Differ (sym counts.held_is) differ) counts.tally_is counts.met_is in
    let here : is_named (graph.targets source) target.pair ≡ true =
    names target.pair (or_left (same_pair target.pair target.pair) (is_named targets target.pair) (same_self target.pair)) in
    let grows : Grows graph.held tally.met target (added tally target).met = subst (λ held. Grows held tally.met target (added tally target).met) counts.held_is pushed.2 in
    let on_met = begins_has before tally.met source on.begins there in
    let stepped = sound_case graph first tally.met target source (added tally target).met on.sound on_met here (is.no_maps source target here) grows in
    subst (λ all. IsOn graph first all before (fold added (added tally target) targets)) (in_front seen target targets)
    (on_all graph first source is differ targets
    (λ pair named. names pair (or_right (same_pair pair target.pair) (is_named targets pair) named))
    (seen ++ target ∷ []) before (added tally target) there
    (record {
      counted_is = counted_one graph.held seen tally target differ counts;
      sound = stepped.0;
      begins = begins_trans before tally.met (added tally target).met on.begins stepped.1;
    }))

-- ---- the walk

-- the targets that are counted once so many of the pairs met have been asked
abbrev pub seen_by : Graph → List Pair → List Target
seen_by graph asked = graph.roots ++ flat_map graph.targets asked

pub record IsWalked (graph : Graph) (first next : ℕ) (tally : Tallied) : Type 0 where
  pub within : next ≤ length tally.met
  pub counted_is : IsCountedAll graph.held (seen_by graph (take next tally.met)) tally
  pub sound : IsSound graph first tally.met

-- it begins when the roots are counted
pub walk_start : (graph : Graph) (tally : Tallied) → IsCountedAll graph.held graph.roots tally → IsWalked graph (length tally.met) 0 tally
walk_start graph tally is = record {
  within = omega arith;
  counted_is = subst (λ all. IsCountedAll graph.held all tally) (sym (append-nil graph.roots)) is;
  sound = record {
    rounds = 0;
    long = omega arith;
    known = λ pair there.
        let parts = and_parts (is_named graph.roots pair) (is_held tally.held pair.page) (sym (is.met_is.same pair) ∙ there) in
        reach_none graph pair ∙ and_from (is_held graph.held pair.page) (is_named graph.roots pair) (ap (λ held. is_held held pair.page) (sym is.held_is) ∙ parts.1) parts.0;
    late = λ pair there. absurd (false≢true (ap (λ ps. is_in ps pair) (sym (drop_all (length tally.met) tally.met (omega arith))) ∙ there));
  };
}

pub is_in_at : (pairs : List Pair) (i : ℕ) (d : Pair) → i < length pairs → is_in (take (i + 1) pairs) (get_or pairs i d) ≡ true
is_in_at pairs i d within =
    ap (λ ps. is_in ps (get_or pairs i d)) (take_more pairs i d within)
    ∙ is_in_append (take i pairs) (get_or pairs i d ∷ []) (get_or pairs i d)
    ∙ or_right (is_in (take i pairs) (get_or pairs i d)) (is_in (get_or pairs i d ∷ []) (get_or pairs i d)) (is_in_head (get_or pairs i d) [])

pub is_in_take : (pairs : List Pair) (n : ℕ) (pair : Pair) → is_in (take n pairs) pair ≡ true → is_in pairs pair ≡ true
is_in_take pairs n pair there =
    ap (λ ps. is_in ps pair) (sym (take-append-drop n pairs)) ∙ is_in_append (take n pairs) (drop n pairs) pair
    ∙ or_left (is_in (take n pairs) pair) (is_in (drop n pairs) pair) there

-- it goes on with the next pair met
pub walk_on : (graph : Graph) (first next : ℕ) (tally : Tallied) (source : Pair) → IsGraph graph → Differ graph.held → IsWalked graph first next tally
    → next < length tally.met → source ≡ get_or tally.met next source
    → IsWalked graph first (next + 1) (added_all tally (graph.targets source)) × Begins tally.met (added_all tally (graph.targets source)).met
unfolding added_all
walk_on graph first next tally source is differ walked below at =
    let seen = seen_by graph (take next tally.met) in
    let targets = graph.targets source in
    let there : is_in tally.met source ≡ true =
    subst (λ p. is_in tally.met p ≡ true) (sym at) (is_in_take tally.met (next + 1) (get_or tally.met next source) (is_in_at tally.met next source below)) in
    let on = on_all graph first source is differ targets (λ pair named. named) seen tally.met tally there
    (record { counted_is = walked.counted_is; sound = walked.sound; begins = begins_same tally.met }) in
    let now = fold added tally targets in
    let long : length now.met ≡ length tally.met + length on.begins.more = ap length on.begins.joined ∙ length-append tally.met on.begins.more in
    let front : take (next + 1) now.met ≡ take next tally.met ++ source ∷ [] =
    ap (take (next + 1)) on.begins.joined ∙ take-append-le (next + 1) tally.met on.begins.more (omega arith)
    ∙ take_more tally.met next source below ∙ ap (λ p. take next tally.met ++ p ∷ []) (sym at) in
    let all : seen ++ targets ≡ seen_by graph (take (next + 1) now.met) =
    flat_map_more graph.targets graph.roots (take next tally.met) source ∙ ap (seen_by graph) (sym front) in
    let walked_on : IsWalked graph first (next + 1) now = record {
      within = omega (arith, long);
      counted_is = subst (λ s. IsCountedAll graph.held s now) all on.counted_is;
      sound = on.sound;
    } in
    (walked_on, on.begins)

-- so many rounds were enough
is_in_drop : (pairs : List Pair) (n : ℕ) (pair : Pair) → is_in (drop n pairs) pair ≡ true → is_in pairs pair ≡ true
is_in_drop pairs n pair there =
    ap (λ ps. is_in ps pair) (sym (take-append-drop n pairs)) ∙ is_in_append (take n pairs) (drop n pairs) pair
    ∙ or_right (is_in (take n pairs) pair) (is_in (drop n pairs) pair) there

apart_drop : (n : ℕ) (pairs : List Pair) → Apart pairs → Apart (drop n pairs)
apart_drop zero pairs apart = apart
apart_drop (suc n) [] apart = apart
apart_drop (suc n) (pair ∷ pairs) apart = apart_drop n pairs apart.1

few_rounds : (graph : Graph) (first : ℕ) (tally : Tallied) (sound : IsSound graph first tally.met) → Apart tally.met
    → ((pair : Pair) → is_in tally.met pair ≡ true → is_held graph.held pair.page ≡ true) → sound.rounds ≤ 4 * length graph.held
few_rounds graph first tally sound apart held =
    let late = drop first tally.met in
    let some : length late ≤ length (flat_map four_of graph.held) = few late (flat_map four_of graph.held) (apart_drop first tally.met apart)
    (λ pair there. in_four graph.held pair (sound.late pair there) ∙ held pair (is_in_drop tally.met first pair there)) in
    omega (arith, some, length-four graph.held, length-drop first tally.met, sound.long)

-- it ends with the reached pairs
pub walk_end : (graph : Graph) (first next : ℕ) (tally : Tallied) → IsGraph graph → IsWalked graph first next tally → length tally.met ≤ next
    → IsCountedAll graph.held (seen_by graph tally.met) tally × ((pair : Pair) → is_in tally.met pair ≡ is_in (reached graph) pair)
walk_end graph first next tally is walked past =
    let counts = subst (λ asked. IsCountedAll graph.held (seen_by graph asked) tally) (take_all next tally.met past) walked.counted_is in
    let met = counts.met_is in
    let held : (pair : Pair) → is_in tally.met pair ≡ true → is_held graph.held pair.page ≡ true = λ pair there.
    ap (λ all. is_held all pair.page) (sym counts.held_is) ∙ (and_parts (is_named (seen_by graph tally.met) pair) (is_held tally.held pair.page) (sym (met.same pair) ∙ there)).1 in
    let rounds = few_rounds graph first tally walked.sound met.apart held in
    let enough : walked.sound.rounds + (4 * length graph.held - walked.sound.rounds) ≡ 4 * length graph.held = omega (arith, rounds) in (
      counts,
      λ pair. same_answer (is_in tally.met pair) (is_in (reached graph) pair)
          (λ there. subst (λ n. is_in (reach graph n) pair ≡ true) enough
          (reach_more graph walked.sound.rounds (4 * length graph.held - walked.sound.rounds) pair (walked.sound.known pair there)))
          (reach_within graph tally.met (λ other named there. met.same other ∙ and_from (is_named (seen_by graph tally.met) other) (is_held tally.held other.page) named
          (ap (λ all. is_held all other.page) counts.held_is ∙ there)) (4 * length graph.held) pair),
    )

-- ---- what the loop keeps

pub record IsWalk (graph : Graph) (next : ℕ) (tally : Tallied) : Type 0 where
  pub first : ℕ
  pub walked : IsWalked graph first next tally

pub loop_start : (graph : Graph) (held : List ℕ) (tally : Tallied) → IsGraph graph → held ≡ graph.held
    → tally ≡ added_all (record { held = held; entries = map (λ page. blank) held; met = []; dead = 0 }) graph.roots
    → IsWalk graph 0 tally
unfolding added_all
loop_start graph held tally is same made =
    let fresh : Tallied = record { held = held; entries = map (λ page. blank) held; met = []; dead = 0 } in
    let none : IsCountedAll graph.held [] fresh = record { held_is = same; tally_is = tally_none held []; met_is = met_none held } in
    let counts : IsCountedAll graph.held graph.roots (fold added fresh graph.roots) = counted_roots graph.held [] graph.roots fresh (differ graph.held is.rising) none in
    record { first = length tally.met; walked = walk_start graph tally (subst (IsCountedAll graph.held graph.roots) (sym made) counts) }

pub loop_more : (graph : Graph) (next : ℕ) (before tally : Tallied) (source : Pair) → IsGraph graph → IsWalk graph next before
    → (next < length before.met) × (source ≡ get_or before.met next source) → tally ≡ added_all before (graph.targets source)
    → IsWalk graph (next + 1) tally
loop_more graph next before tally source is walk at made = record {
  first = walk.first;
  walked = subst (IsWalked graph walk.first (next + 1)) (sym made)
      (walk_on graph walk.first next before source is (differ graph.held is.rising) walk.walked at.0 at.1).0;
}

-- the pairs met before stay where they are
pub loop_begins : (graph : Graph) (next : ℕ) (before tally : Tallied) (source : Pair) → IsGraph graph → IsWalk graph next before
    → (next < length before.met) × (source ≡ get_or before.met next source) → tally ≡ added_all before (graph.targets source)
    → Begins before.met tally.met
loop_begins graph next before tally source is walk at made =
    subst (λ now. Begins before.met now.met) (sym made)
    (walk_on graph walk.first next before source is (differ graph.held is.rising) walk.walked at.0 at.1).1

-- no more are met than there are pairs
pub loop_few : (graph : Graph) (next : ℕ) (tally : Tallied) → IsWalk graph next tally → length tally.met ≤ 5 * length graph.held
loop_few graph next tally walk =
    let counts = walk.walked.counted_is in
    let met = counts.met_is in
    let some : length tally.met ≤ length (pairs_of graph) = few tally.met (pairs_of graph) met.apart (λ pair there.
    in_pairs graph pair ∙ ap (λ all. is_held all pair.page) (sym counts.held_is)
    ∙ (and_parts (is_named (seen_by graph (take next tally.met)) pair) (is_held tally.held pair.page) (sym (met.same pair) ∙ there)).1) in
    omega (arith, some, length-pairs graph)
