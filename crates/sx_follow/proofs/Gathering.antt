-- What comes and what goes between two graphs, gathered from the pairs whose names changed.
use Rattle.std.proofs.Common.{◌≡◌, ◌||◌, Bool, true, false, not, List, [], ◌∷◌, ◌++◌, append_assoc, append-nil, filter, inl, inr, refl, sym, ap, subst, ◌∙◌}
use Rattle.std.specs.List.{flat_map}
use Rattle.std.specs.List.Sorted.{IsPermutation}
use Rattle.std.proofs.lemmas.Bool.{or_parts, and_parts, and_from, or_left, or_right, or_cases, false≢true}
use Rattle.std.proofs.lemmas.List.Concat.{flat_map-append}
use Rattle.std.proofs.lemmas.List.Sorted.{IsPermutation-refl, IsPermutation-sym, IsPermutation-trans, IsPermutation-append_left, IsPermutation-append_right}
use Rattle.sx_closure.specs.declared.pair.Pair.{Pair}
use Rattle.sx_closure.specs.declared.pair.Target.{Target}
use Rattle.sx_closure.specs.Graph.{same_pair, is_in, is_named, Graph, IsGraph}
use Rattle.sx_closure.proofs.Pairs.{Apart, or_none, same_is, same_answer, is_in_append, is_in_filter, apart_filter, same_pieces}
use Rattle.sx_closure.proofs.Reaching.{named_append, named_to}
use Rattle.sx_closure.proofs.Standing.{pieces_same}
use Rattle.sx_closure.proofs.Walks.{seen_by}
use Rattle.sx_follow.specs.Sums.{Sums}
use Rattle.sx_follow.specs.Following.{HasFollowed, CanFollow}
use Rattle.sx_follow.specs.Gathered.{IsChange, IsGathered}
use Rattle.sx_follow.proofs.Exchanging.{to_front}
use Rattle.sx_follow.proofs.FollowLemmas.{both_apart}

-- the pairs of a list that others aren't
abbrev rest_of : List Pair → List Pair → List Pair
rest_of others met = filter (λ pair. not (is_in others pair)) met

not_false : (b : Bool) → not b ≡ true → b ≡ false
not_false false is = refl
not_false true is = absurd (false≢true is)

rest_parts : (others met : List Pair) (pair : Pair) → is_in (rest_of others met) pair ≡ true → (is_in met pair ≡ true) × (is_in others pair ≡ false)
rest_parts others met pair there =
    let both = and_parts (is_in met pair) (not (is_in others pair)) (sym (is_in_filter (λ p. not (is_in others p)) met pair) ∙ there) in
    (both.0, not_false (is_in others pair) both.1)

split_case : (others met : List Pair) (pair : Pair) (b : Bool) → is_in others pair ≡ b → is_in met pair ≡ true → is_in (others ++ rest_of others met) pair ≡ true
split_case others met pair true is there = is_in_append others (rest_of others met) pair ∙ or_left (is_in others pair) (is_in (rest_of others met) pair) is
split_case others met pair false is there =
    is_in_append others (rest_of others met) pair
    ∙ or_right (is_in others pair) (is_in (rest_of others met) pair)
    (is_in_filter (λ p. not (is_in others p)) met pair ∙ and_from (is_in met pair) (not (is_in others pair)) there (ap not is))

-- a pair of the others isn't in the rest
not_case : (others met : List Pair) (pair : Pair) (b : Bool) → is_in (rest_of others met) pair ≡ b → is_in others pair ≡ true → is_in (rest_of others met) pair ≡ false
not_case others met pair false is there = is
not_case others met pair true is there = absurd (false≢true (sym (rest_parts others met pair is).1 ∙ there))

not_in_rest : (others met : List Pair) (pair : Pair) → is_in others pair ≡ true → is_in (rest_of others met) pair ≡ false
not_in_rest others met pair there = not_case others met pair (is_in (rest_of others met) pair) refl there

-- what all name is what some of them name, and what the rest names
split_pieces : (targets : Pair → List Target) (some met : List Pair) → Apart some → Apart met → ((pair : Pair) → is_in some pair ≡ true → is_in met pair ≡ true)
    → IsPermutation (flat_map targets met) (flat_map targets some ++ flat_map targets (rest_of some met))
split_pieces targets some met apart differ within =
    let rest = rest_of some met in
    subst (IsPermutation (flat_map targets met)) (flat_map-append targets some rest)
    (same_pieces targets met (some ++ rest) differ
    (both_apart some rest apart (apart_filter (λ p. not (is_in some p)) met differ) (λ pair there. not_in_rest some met pair there))
    (λ pair. same_answer (is_in met pair) (is_in (some ++ rest) pair) (λ there. split_case some met pair (is_in some pair) refl there)
    (λ there. elim (or_cases (is_in some pair) (is_in rest pair) (sym (is_in_append some rest pair) ∙ there)) [
      | inl one ↦ within pair one
      | inr other ↦ (rest_parts some met pair other).0
    ])))

-- ---- two lists

-- none comes and none goes where they are the same
pub change_none : (old new : List Target) → old ≡ new → IsChange old new [] []
change_none old new same = record {
  counted = subst (IsPermutation old) same (IsPermutation-refl old);
  lost = λ pair named. ap (λ targets. is_named targets pair) (sym same) ∙ named;
  names = λ pair named. absurd (false≢true named);
}

ends_lost : (front old new back : Bool) → (front || (old || back)) ≡ true → (old || (front || (new || back))) ≡ true
ends_lost true true new back is = refl
ends_lost true false new back is = refl
ends_lost false true new back is = refl
ends_lost false false true back is = refl
ends_lost false false false true is = refl
ends_lost false false false false is = is

named_three : (front middle back : List Target) (pair : Pair)
    → is_named (front ++ (middle ++ back)) pair ≡ (is_named front pair || (is_named middle pair || is_named back pair))
named_three front middle back pair =
    named_append front (middle ++ back) pair ∙ ap (λ rest. is_named front pair || rest) (named_append middle back pair)

-- else what they don't have alike at both ends
pub change_ends : (front old new back : List Target) → IsChange (front ++ (old ++ back)) (front ++ (new ++ back)) new old
change_ends front old new back = record {
  counted = IsPermutation-trans (new ++ (front ++ (old ++ back))) (front ++ (new ++ (old ++ back))) (old ++ (front ++ (new ++ back)))
      (to_front new front (old ++ back))
      (IsPermutation-trans (front ++ (new ++ (old ++ back))) (front ++ (old ++ (new ++ back))) (old ++ (front ++ (new ++ back)))
      (IsPermutation-append_right front (new ++ (old ++ back)) (old ++ (new ++ back)) (to_front new old back))
      (to_front front old (new ++ back)));
  lost = λ pair named. ap (λ rest. is_named old pair || rest) (named_three front new back pair)
      ∙ ends_lost (is_named front pair) (is_named old pair) (is_named new pair) (is_named back pair) (sym (named_three front old back pair) ∙ named);
  names = λ pair named. named_three front new back pair
      ∙ or_right (is_named front pair) (is_named new pair || is_named back pair) (or_left (is_named new pair) (is_named back pair) named);
}

-- ---- from the one graph to the other

-- at first the roots change alone
pub gathered_start : (before graph : Graph) (met : List Pair) (come gone : List Target) → IsChange before.roots graph.roots come gone
    → IsGathered before graph met before.targets come gone
gathered_start before graph met come gone change = record {
  roots = change.lost;
  lost = λ source pair there named. or_right (is_named gone pair) (is_named (before.targets source) pair) named;
  names = λ pair named. named_append graph.roots (flat_map graph.targets met) pair
      ∙ or_left (is_named graph.roots pair) (is_named (flat_map graph.targets met) pair) (change.names pair named);
  counted =
      let pieces = flat_map before.targets met in
      subst (λ xs. IsPermutation xs (gone ++ (graph.roots ++ pieces))) (append_assoc come before.roots pieces)
      (subst (IsPermutation ((come ++ before.roots) ++ pieces)) (append_assoc gone graph.roots pieces)
      (IsPermutation-append_left pieces (come ++ before.roots) (gone ++ graph.roots) change.counted));
}

-- only what the reached pairs name tells
pub gathered_same : (before graph : Graph) (met : List Pair) (one two : Pair → List Target) (come gone : List Target)
    → ((pair : Pair) → is_in met pair ≡ true → one pair ≡ two pair) → IsGathered before graph met one come gone → IsGathered before graph met two come gone
gathered_same before graph met one two come gone same is = record {
  roots = is.roots;
  lost = λ source pair there named. ap (λ targets. is_named gone pair || is_named targets pair) (sym (same source there)) ∙ is.lost source pair there named;
  names = is.names;
  counted = subst (λ pieces. IsPermutation (come ++ seen_by before met) (gone ++ (graph.roots ++ pieces))) (pieces_same one two met same) is.counted;
}

-- a piece is pulled to the front
pulled : (gone roots piece rest : List Target) → IsPermutation (gone ++ (roots ++ (piece ++ rest))) (piece ++ (gone ++ (roots ++ rest)))
pulled gone roots piece rest =
    IsPermutation-trans (gone ++ (roots ++ (piece ++ rest))) (gone ++ (piece ++ (roots ++ rest))) (piece ++ (gone ++ (roots ++ rest)))
    (IsPermutation-append_right gone (roots ++ (piece ++ rest)) (piece ++ (roots ++ rest)) (to_front roots piece rest))
    (to_front gone piece (roots ++ rest))

-- one piece is exchanged
exchanged : (come gone seen roots old new more less rest : List Target) → IsPermutation (come ++ seen) (gone ++ (roots ++ (old ++ rest)))
    → IsPermutation (more ++ old) (less ++ new) → IsPermutation ((come ++ more) ++ seen) ((gone ++ less) ++ (roots ++ (new ++ rest)))
exchanged come gone seen roots old new more less rest counted change =
    let tail = gone ++ (roots ++ rest) in
    let one : IsPermutation (come ++ (more ++ seen)) (more ++ (come ++ seen)) = to_front come more seen in
    let two : IsPermutation (more ++ (come ++ seen)) (more ++ (gone ++ (roots ++ (old ++ rest)))) = IsPermutation-append_right more (come ++ seen) (gone ++ (roots ++ (old ++ rest))) counted in
    let three : IsPermutation (more ++ (gone ++ (roots ++ (old ++ rest)))) (more ++ (old ++ tail)) =
    IsPermutation-append_right more (gone ++ (roots ++ (old ++ rest))) (old ++ tail) (pulled gone roots old rest) in
    let four : IsPermutation (more ++ (old ++ tail)) (less ++ (new ++ tail)) =
    subst (λ xs. IsPermutation xs (less ++ (new ++ tail))) (append_assoc more old tail)
    (subst (IsPermutation ((more ++ old) ++ tail)) (append_assoc less new tail) (IsPermutation-append_left tail (more ++ old) (less ++ new) change)) in
    let five : IsPermutation (less ++ (new ++ tail)) (less ++ (gone ++ (roots ++ (new ++ rest)))) =
    IsPermutation-append_right less (new ++ tail) (gone ++ (roots ++ (new ++ rest)))
    (IsPermutation-sym (gone ++ (roots ++ (new ++ rest))) (new ++ tail) (pulled gone roots new rest)) in
    let six : IsPermutation (less ++ (gone ++ (roots ++ (new ++ rest)))) (gone ++ (less ++ (roots ++ (new ++ rest)))) = to_front less gone (roots ++ (new ++ rest)) in
    let all : IsPermutation (come ++ (more ++ seen)) (gone ++ (less ++ (roots ++ (new ++ rest)))) =
    IsPermutation-trans (come ++ (more ++ seen)) (more ++ (come ++ seen)) (gone ++ (less ++ (roots ++ (new ++ rest)))) one
    (IsPermutation-trans (more ++ (come ++ seen)) (more ++ (gone ++ (roots ++ (old ++ rest)))) (gone ++ (less ++ (roots ++ (new ++ rest)))) two
    (IsPermutation-trans (more ++ (gone ++ (roots ++ (old ++ rest)))) (more ++ (old ++ tail)) (gone ++ (less ++ (roots ++ (new ++ rest)))) three
    (IsPermutation-trans (more ++ (old ++ tail)) (less ++ (new ++ tail)) (gone ++ (less ++ (roots ++ (new ++ rest)))) four
    (IsPermutation-trans (less ++ (new ++ tail)) (less ++ (gone ++ (roots ++ (new ++ rest)))) (gone ++ (less ++ (roots ++ (new ++ rest)))) five six)))) in
    subst (λ xs. IsPermutation xs ((gone ++ less) ++ (roots ++ (new ++ rest)))) (sym (append_assoc come more seen))
    (subst (IsPermutation (come ++ (more ++ seen))) (sym (append_assoc gone less (roots ++ (new ++ rest)))) all)

-- what all name, with one pair in front
pair_first : (targets : Pair → List Target) (pair : Pair) (met : List Pair) → Apart met → is_in met pair ≡ true
    → IsPermutation (flat_map targets met) (targets pair ++ flat_map targets (rest_of (pair ∷ []) met))
pair_first targets pair met apart there =
    subst (λ front. IsPermutation (flat_map targets met) (front ++ flat_map targets (rest_of (pair ∷ []) met))) (append-nil (targets pair))
    (split_pieces targets (pair ∷ []) met (refl, tt) apart
    (λ other is. ap (is_in met) (same_is other pair (sym (or_none (same_pair other pair)) ∙ is)) ∙ there))

wider_left : (gone more named : Bool) → (gone || named) ≡ true → ((gone || more) || named) ≡ true
wider_left true more named is = refl
wider_left false true named is = refl
wider_left false false named is = is

wider_both : (gone more old new : Bool) → (gone || old) ≡ true → (old ≡ true → (more || new) ≡ true) → ((gone || more) || new) ≡ true
wider_both true more old new is next = refl
wider_both false more old new is next = next is

-- whether the pair is the one that changed
lost_case : (met : List Pair) (one two : Pair → List Target) (pair : Pair) (gone less : List Target) (source other : Pair) (b : Bool) → same_pair source pair ≡ b
    → ((x : Pair) → same_pair x pair ≡ false → two x ≡ one x)
    → ((q : Pair) → is_named (one pair) q ≡ true → (is_named less q || is_named (two pair) q) ≡ true)
    → (is_named gone other || is_named (one source) other) ≡ true → ((is_named gone other || is_named less other) || is_named (two source) other) ≡ true
lost_case met one two pair gone less source other false is stays change named =
    ap (λ targets. (is_named gone other || is_named less other) || is_named targets other) (stays source is)
    ∙ wider_left (is_named gone other) (is_named less other) (is_named (one source) other) named
lost_case met one two pair gone less source other true is stays change named =
    let same : source ≡ pair = same_is source pair is in
    let at : (is_named gone other || is_named (one pair) other) ≡ true = ap (λ p. is_named gone other || is_named (one p) other) (sym same) ∙ named in
    ap (λ p. (is_named gone other || is_named less other) || is_named (two p) other) same
    ∙ wider_both (is_named gone other) (is_named less other) (is_named (one pair) other) (is_named (two pair) other) at (change other)

not_same : (pair other : Pair) → is_in (pair ∷ []) other ≡ false → same_pair other pair ≡ false
not_same pair other none = (or_parts (same_pair other pair) false none).0

-- one reached pair names what it names in the other graph
pub gathered_one : (before graph : Graph) (met : List Pair) (one two : Pair → List Target) (pair : Pair) (come gone more less : List Target) → Apart met
    → is_in met pair ≡ true → ((x : Pair) → same_pair x pair ≡ false → two x ≡ one x) → two pair ≡ graph.targets pair → IsChange (one pair) (two pair) more less
    → IsGathered before graph met one come gone → IsGathered before graph met two (come ++ more) (gone ++ less)
gathered_one before graph met one two pair come gone more less apart there stays is_new change is =
    let rest = rest_of (pair ∷ []) met in
    let left : flat_map two rest ≡ flat_map one rest =
    pieces_same two one rest (λ other in_rest. stays other (not_same pair other (rest_parts (pair ∷ []) met other in_rest).1)) in
    let x = flat_map one rest in
    let was : IsPermutation (come ++ seen_by before met) (gone ++ (graph.roots ++ (one pair ++ x))) =
    IsPermutation-trans (come ++ seen_by before met) (gone ++ (graph.roots ++ flat_map one met)) (gone ++ (graph.roots ++ (one pair ++ x))) is.counted
    (IsPermutation-append_right gone (graph.roots ++ flat_map one met) (graph.roots ++ (one pair ++ x))
    (IsPermutation-append_right graph.roots (flat_map one met) (one pair ++ x) (pair_first one pair met apart there))) in
    let new : IsPermutation (flat_map two met) (two pair ++ x) =
    subst (λ xs. IsPermutation (flat_map two met) (two pair ++ xs)) left (pair_first two pair met apart there) in
    record {
      roots = λ other named. ap (λ b. b || is_named graph.roots other) (named_append gone less other)
          ∙ wider_left (is_named gone other) (is_named less other) (is_named graph.roots other) (is.roots other named);
      lost = λ source other in_met named. ap (λ b. b || is_named (two source) other) (named_append gone less other)
          ∙ lost_case met one two pair gone less source other (same_pair source pair) refl stays change.lost (is.lost source other in_met named);
      names = λ other named. elim (or_cases (is_named come other) (is_named more other) (sym (named_append come more other) ∙ named)) [
        | inl old ↦ is.names other old
        | inr fresh ↦ named_append graph.roots (flat_map graph.targets met) other
            ∙ or_right (is_named graph.roots other) (is_named (flat_map graph.targets met) other)
            (named_to graph.targets met pair other there (ap (λ targets. is_named targets other) (sym is_new) ∙ change.names other fresh))
      ];
      counted = IsPermutation-trans ((come ++ more) ++ seen_by before met) ((gone ++ less) ++ (graph.roots ++ (two pair ++ x))) ((gone ++ less) ++ (graph.roots ++ flat_map two met))
          (exchanged come gone (seen_by before met) graph.roots (one pair) (two pair) more less x was change.counted)
          (IsPermutation-append_right (gone ++ less) (graph.roots ++ (two pair ++ x)) (graph.roots ++ flat_map two met)
          (IsPermutation-append_right graph.roots (two pair ++ x) (flat_map two met) (IsPermutation-sym (flat_map two met) (two pair ++ x) new)));
    }

-- in the end the sums can be followed
pub gathered_follow : (before graph : Graph) (all : Sums) (targets : Pair → List Target) (come gone : List Target) → IsGraph before → (followed : HasFollowed before all)
    → before.held ≡ graph.held → ((pair : Pair) → is_in followed.met pair ≡ true → targets pair ≡ graph.targets pair)
    → IsGathered before graph followed.met targets come gone → CanFollow graph all come gone
gathered_follow before graph all targets come gone good followed held same is =
    let end = gathered_same before graph followed.met targets graph.targets come gone same is in
    record {
      before = before;
      good = good;
      followed = followed;
      held = held;
      roots = end.roots;
      targets = end.lost;
      names = end.names;
      counted = end.counted;
    }
