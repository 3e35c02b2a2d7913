-- From the targets that the walk has counted to those of the definition: the same, in another order.
use Rattle.std.proofs.Common.{◌≡◌, ℕ, zero, suc, ◌+◌, ◌-◌, ◌*◌, ◌^◌, ◌<◌, ◌≤◌, ◌==◌, Bool, true, false, not, cond, min, List, [], ◌∷◌, ◌++◌, length, length-append, map, filter, fold, get_or, Option, Some, None, is_some, refl, sym, ap, subst, ◌∙◌, arith, zero-add, add-mul, one-mul}
use Rattle.std.specs.Option.{option_map}
use Rattle.std.specs.List.{flat_map, Contains}
use Rattle.std.specs.List.Sorted.{IsPermutation}
use Rattle.std.proofs.lemmas.Bool.{eqb-true, ne_eqb, false≢true, and_parts, and_from}
use Rattle.std.proofs.lemmas.List.Elements.{filter-append}
use Rattle.std.proofs.lemmas.List.Sorted.{IsPermutation-append_right, length_permutation, Contains-permutation}
use Rattle.sx_closure.specs.declared.pair.Pair.{Pair}
use Rattle.sx_closure.specs.declared.pair.Target.{Target}
use Rattle.sx_closure.specs.Graph.{is_in, is_named, Graph, IsGraph, is_held, is_reference, pairs_of, reached, all_targets, to_page, references_to, only, dead_links}
use Rattle.sx_closure.specs.Chains.{one_reference}
use Rattle.sx_closure.specs.Tallying.{blank, counted, rank_of, Tallied, entry_at, count_of, one_of}
use Rattle.sx_closure.proofs.Pairs.{Apart, few, same_pieces}
use Rattle.sx_closure.proofs.Tallies.{Differ, tallied, tallied_count, counts_from, at_rank, rank_is_some}
use Rattle.sx_closure.proofs.Reaching.{in_pairs, length-pairs, reach_held, apart_reach}
use Rattle.sx_closure.proofs.Walks.{seen_by, IsWalked, IsWalk, walk_end}
use Rattle.sx_closure.proofs.Ranks.{differ}

filter_pieces : {A B : Type 0} (test : B → Bool) (f : A → List B) (xs : List A) → filter test (flat_map f xs) ≡ flat_map (λ x. filter test (f x)) xs
filter_pieces test f [] = refl
filter_pieces test f (x ∷ xs) =
    filter-append test (f x) (flat_map f xs) ∙ ap (λ rest. filter test (f x) ++ rest) (filter_pieces test f xs)

pub same_kept : (graph : Graph) (met : List Pair) (test : Target → Bool) → Apart met → Apart (reached graph) → ((pair : Pair) → is_in met pair ≡ is_in (reached graph) pair)
    → IsPermutation (filter test (seen_by graph met)) (filter test (all_targets graph))
same_kept graph met test apart differ same =
    let pieces : Pair → List Target = λ pair. filter test (graph.targets pair) in
    let roots = filter test graph.roots in
    let perm = IsPermutation-append_right roots (flat_map pieces met) (flat_map pieces (reached graph)) (same_pieces pieces met (reached graph) apart differ same) in
    let left : roots ++ flat_map pieces met ≡ filter test (seen_by graph met) =
    ap (λ rest. roots ++ rest) (sym (filter_pieces test graph.targets met)) ∙ sym (filter-append test graph.roots (flat_map graph.targets met)) in
    let right : roots ++ flat_map pieces (reached graph) ≡ filter test (all_targets graph) =
    ap (λ rest. roots ++ rest) (sym (filter_pieces test graph.targets (reached graph))) ∙ sym (filter-append test graph.roots (flat_map graph.targets (reached graph))) in
    subst (λ xs. IsPermutation xs (filter test (all_targets graph))) left (subst (IsPermutation (roots ++ flat_map pieces met)) right perm)

-- the one target of two lists with the same targets
one_there : (one other : Target) → Contains (one ∷ []) other → one ≡ other
one_there one other (zero, below, is) = is
one_there one other (suc k, below, is) = absurd (omega (arith, below))

same_only : (some others : List Target) → IsPermutation some others → only some ≡ only others
same_only [] [] perm = refl
same_only [] (one ∷ others) perm = absurd (omega (arith, length_permutation [] (one ∷ others) perm))
same_only (one ∷ []) [] perm = absurd (omega (arith, length_permutation (one ∷ []) [] perm))
same_only (one ∷ []) (other ∷ []) perm =
    ap Some (sym (one_there other one (Contains-permutation (one ∷ []) (other ∷ []) one perm (0, omega arith, refl))))
same_only (one ∷ []) (other ∷ more ∷ others) perm = absurd (omega (arith, length_permutation (one ∷ []) (other ∷ more ∷ others) perm))
same_only (one ∷ next ∷ some) [] perm = absurd (omega (arith, length_permutation (one ∷ next ∷ some) [] perm))
same_only (one ∷ next ∷ some) (other ∷ []) perm = absurd (omega (arith, length_permutation (one ∷ next ∷ some) (other ∷ []) perm))
same_only (one ∷ next ∷ some) (other ∷ more ∷ others) perm = refl

-- ---- the references to a page

-- of a held page no target falls away, of another all do
kept_case : (held : List ℕ) (page : ℕ) (target : Target) (kept : List Target) (b : Bool) → (target.pair.page == page) ≡ b → (r : Bool) → is_reference held target ≡ r → is_held held page ≡ true
    → to_page page (cond (is_reference held target) (target ∷ kept) kept) ≡ cond (target.pair.page == page) (target ∷ to_page page kept) (to_page page kept)
kept_case held page target kept b is true there all = rw there refl
kept_case held page target kept false is false there all = rw (there, is) refl
kept_case held page target kept true is false there all =
    absurd (false≢true (sym there ∙ ap (is_held held) (eqb-true target.pair.page page is) ∙ all))

pub to_held : (held : List ℕ) (page : ℕ) (targets : List Target) → is_held held page ≡ true → to_page page (filter (is_reference held) targets) ≡ to_page page targets
to_held held page [] there = refl
to_held held page (target ∷ targets) there =
    kept_case held page target (filter (is_reference held) targets) (target.pair.page == page) refl (is_reference held target) refl there
    ∙ ap (λ kept. cond (target.pair.page == page) (target ∷ kept) kept) (to_held held page targets there)

gone_case : (held : List ℕ) (page : ℕ) (target : Target) (kept : List Target) (b : Bool) → (target.pair.page == page) ≡ b → (r : Bool) → is_reference held target ≡ r → is_held held page ≡ false
    → to_page page (cond (is_reference held target) (target ∷ kept) kept) ≡ to_page page kept
gone_case held page target kept b is false there none = rw there refl
gone_case held page target kept false is true there none = rw (there, is) refl
gone_case held page target kept true is true there none =
    absurd (false≢true (sym none ∙ ap (is_held held) (sym (eqb-true target.pair.page page is)) ∙ there))

pub to_missing : (held : List ℕ) (page : ℕ) (targets : List Target) → is_held held page ≡ false → to_page page (filter (is_reference held) targets) ≡ []
to_missing held page [] none = refl
to_missing held page (target ∷ targets) none =
    gone_case held page target (filter (is_reference held) targets) (target.pair.page == page) refl (is_reference held target) refl none
    ∙ to_missing held page targets none

-- ---- a counter is right as long as it isn't at its last value

few_case : {A : Type 0} (b : Bool) (x : A) (xs : List A) (most : ℕ) → length xs ≤ most → length (cond b (x ∷ xs) xs) ≤ suc most
few_case true x xs most le = omega arith
few_case false x xs most le = omega arith

filter_few : {A : Type 0} (test : A → Bool) (xs : List A) → length (filter test xs) ≤ length xs
filter_few test [] = omega arith
filter_few test (x ∷ xs) = few_case (test x) x (filter test xs) (length xs) (filter_few test xs)

pieces_few : (targets : Pair → List Target) (most : ℕ) (pairs : List Pair) → ((pair : Pair) → length (targets pair) ≤ most) → length (flat_map targets pairs) ≤ length pairs * most
pieces_few targets most [] each = omega arith
pieces_few targets most (pair ∷ pairs) each =
    let more = pieces_few targets most pairs each in
    let long = length-append (targets pair) (flat_map targets pairs) in
    let parts : (length pairs + 1) * most ≡ length pairs * most + most = grind (arith, add-mul, one-mul) in
    let one = each pair in
    omega (arith, more, long, parts, one)

pub all_few : (graph : Graph) → IsGraph graph → Differ graph.held → length (all_targets graph) < 2 ^ 64 - 1
all_few graph is differ =
    let pairs : length (reached graph) ≤ length (pairs_of graph) = few (reached graph) (pairs_of graph) (apart_reach graph (4 * length graph.held) differ)
    (λ pair there. in_pairs graph pair ∙ reach_held graph (4 * length graph.held) pair there) in
    let pieces = pieces_few graph.targets (2 ^ 17) (reached graph) is.some in
    let long = length-append graph.roots (flat_map graph.targets (reached graph)) in
    omega (arith, pairs, length-pairs graph, pieces, long, is.few, is.few_roots)

-- ---- what the tally says of a page

-- the one target of a list is the last that was counted
first_case : (page : ℕ) (one : Target) (targets : List Target) (target : Target) (more : List Target) (b : Bool) → (one.pair.page == page) ≡ b
    → cond (one.pair.page == page) (one ∷ to_page page targets) (to_page page targets) ≡ target ∷ more
    → (to_page page targets ≡ target ∷ more → target.pair.page ≡ page) → target.pair.page ≡ page
first_case page one targets target more true at is rest =
    let same : one ∷ to_page page targets ≡ target ∷ more = rw at at is in
    let it : one ≡ target = cc in
    ap (λ t. t.pair.page) (sym it) ∙ eqb-true one.pair.page page at
first_case page one targets target more false at is rest = rest (rw at at is)

first_is : (page : ℕ) (targets : List Target) (target : Target) (more : List Target) → to_page page targets ≡ target ∷ more → target.pair.page ≡ page
first_is page [] target more is = absurd (cc)
first_is page (one ∷ targets) target more is = first_case page one targets target more (one.pair.page == page) refl is (first_is page targets target more)

entry_one : (page : ℕ) (targets : List Target) → ((target : Target) (more : List Target) → targets ≡ target ∷ more → target.pair.page ≡ page)
    → one_of page (Some (fold counted blank targets)) ≡ only targets
entry_one page [] first = refl
entry_one page (target ∷ []) first =
    let at = first target [] refl in
    ap (λ p. Some (record { pair = record { page = p; role = target.pair.role }; source = target.source; rest = target.rest })) (sym at)
entry_one page (one ∷ other ∷ more) first =
    let many : (fold counted blank (one ∷ other ∷ more)).count ≡ min (length (one ∷ other ∷ more)) (2 ^ 64 - 1) = counts_from blank (one ∷ other ∷ more) (omega arith) ∙ ap (λ n. min n (2 ^ 64 - 1)) (zero-add (length (one ∷ other ∷ more))) in
    let not_one : ((fold counted blank (one ∷ other ∷ more)).count == 1) ≡ false = ne_eqb _ 1 (λ e. omega (arith, many, e)) in
    rw not_one refl

page_case : (graph : Graph) (tally : Tallied) (seen : List Target) (page : ℕ) → tally.entries ≡ map (tallied seen) tally.held
    → (o : Option ℕ) → rank_of tally.held page ≡ o → entry_at tally.held tally.entries page ≡ option_map (λ rank. tallied seen page) o
page_case graph tally seen page is None ranked = ap (option_map (λ rank. get_or tally.entries rank blank)) ranked
page_case graph tally seen page is (Some rank) ranked =
    ap (option_map (λ r. get_or tally.entries r blank)) ranked
    ∙ ap Some (ap (λ es. get_or es rank blank) is ∙ at_rank tally.held page rank (tallied seen) blank ranked)

count_at : (graph : Graph) (tally : Tallied) (seen : List Target) (page : ℕ) → tally.held ≡ graph.held → tally.entries ≡ map (tallied seen) tally.held
    → length (all_targets graph) < 2 ^ 64 - 1 → IsPermutation (to_page page seen) (to_page page (all_targets graph))
    → (o : Option ℕ) → rank_of tally.held page ≡ o → count_of (entry_at tally.held tally.entries page) ≡ length (references_to graph page)
count_at graph tally seen page held is most perm None ranked =
    let missing : is_held graph.held page ≡ false = ap (λ all. is_held all page) (sym held) ∙ sym (rank_is_some tally.held page) ∙ ap is_some ranked in
    ap count_of (page_case graph tally seen page is None ranked) ∙ ap length (sym (to_missing graph.held page (all_targets graph) missing))
count_at graph tally seen page held is most perm (Some rank) ranked =
    let there : is_held graph.held page ≡ true = ap (λ all. is_held all page) (sym held) ∙ sym (rank_is_some tally.held page) ∙ ap is_some ranked in
    let same : length (references_to graph page) ≡ length (to_page page (all_targets graph)) = ap length (to_held graph.held page (all_targets graph) there) in
    let some : length (to_page page (all_targets graph)) ≤ length (all_targets graph) = filter_few (λ t. t.pair.page == page) (all_targets graph) in
    let as_many = length_permutation (to_page page seen) (to_page page (all_targets graph)) perm in
    ap count_of (page_case graph tally seen page is (Some rank) ranked) ∙ tallied_count seen page ∙ omega (arith, same, some, as_many, most)

one_at : (graph : Graph) (tally : Tallied) (seen : List Target) (page : ℕ) → tally.held ≡ graph.held → tally.entries ≡ map (tallied seen) tally.held
    → IsPermutation (to_page page seen) (to_page page (all_targets graph))
    → (o : Option ℕ) → rank_of tally.held page ≡ o → one_of page (entry_at tally.held tally.entries page) ≡ only (references_to graph page)
one_at graph tally seen page held is perm None ranked =
    let missing : is_held graph.held page ≡ false = ap (λ all. is_held all page) (sym held) ∙ sym (rank_is_some tally.held page) ∙ ap is_some ranked in
    ap (one_of page) (page_case graph tally seen page is None ranked) ∙ ap only (sym (to_missing graph.held page (all_targets graph) missing))
one_at graph tally seen page held is perm (Some rank) ranked =
    let there : is_held graph.held page ≡ true = ap (λ all. is_held all page) (sym held) ∙ sym (rank_is_some tally.held page) ∙ ap is_some ranked in
    ap (one_of page) (page_case graph tally seen page is (Some rank) ranked)
    ∙ entry_one page (to_page page seen) (first_is page seen)
    ∙ same_only (to_page page seen) (to_page page (all_targets graph)) perm
    ∙ ap only (sym (to_held graph.held page (all_targets graph) there))

dead_at : (graph : Graph) (tally : Tallied) (seen : List Target) → tally.held ≡ graph.held
    → tally.dead ≡ min (length (filter (λ t. not (is_reference tally.held t)) seen)) (2 ^ 64 - 1) → length (all_targets graph) < 2 ^ 64 - 1
    → IsPermutation (filter (λ t. not (is_reference graph.held t)) seen) (dead_links graph) → tally.dead ≡ length (dead_links graph)
dead_at graph tally seen held is most perm =
    let some : length (dead_links graph) ≤ length (all_targets graph) = filter_few (λ t. not (is_reference graph.held t)) (all_targets graph) in
    let as_many = length_permutation (filter (λ t. not (is_reference graph.held t)) seen) (dead_links graph) perm in
    let same : tally.dead ≡ min (length (filter (λ t. not (is_reference graph.held t)) seen)) (2 ^ 64 - 1) =
    subst (λ all. tally.dead ≡ min (length (filter (λ t. not (is_reference all t)) seen)) (2 ^ 64 - 1)) held is in
    omega (arith, some, as_many, most, same)

-- the entries say what the graph defines
pub record IsCounted (graph : Graph) (tally : Tallied) : Type 0 where
  pub held_is : tally.held ≡ graph.held
  pub counts : (page : ℕ) → count_of (entry_at tally.held tally.entries page) ≡ length (references_to graph page)
  pub ones : (page : ℕ) → one_of page (entry_at tally.held tally.entries page) ≡ one_reference graph page
  pub dead : tally.dead ≡ length (dead_links graph)
  -- of a held page the walk has counted the same
  pub seen : (page : ℕ) → is_held graph.held page ≡ true → only (to_page page (seen_by graph tally.met)) ≡ one_reference graph page
  pub held : (pair : Pair) → is_in tally.met pair ≡ true → is_held graph.held pair.page ≡ true
  -- a pair of a held page that is named was met
  pub met : (pair : Pair) → is_named (seen_by graph tally.met) pair ≡ true → is_held graph.held pair.page ≡ true → is_in tally.met pair ≡ true

counted_is : (graph : Graph) (first next : ℕ) (tally : Tallied) → IsGraph graph → Differ graph.held → IsWalked graph first next tally → length tally.met ≤ next
    → IsCounted graph tally
counted_is graph first next tally is differ walked past =
    let end = walk_end graph first next tally is walked past in
    let counts = end.0 in
    let apart = counts.met_is.apart in
    let others = apart_reach graph (4 * length graph.held) differ in
    let kept = λ (test : Target → Bool). same_kept graph tally.met test apart others end.1 in
    let most = all_few graph is differ in
    let seen = seen_by graph tally.met in
    record {
      held_is = counts.held_is;
      counts = λ page. count_at graph tally seen page counts.held_is counts.tally_is.entries most (kept (λ t. t.pair.page == page)) (rank_of tally.held page) refl;
      ones = λ page. one_at graph tally seen page counts.held_is counts.tally_is.entries (kept (λ t. t.pair.page == page)) (rank_of tally.held page) refl;
      dead = dead_at graph tally seen counts.held_is counts.tally_is.dead most (kept (λ t. not (is_reference graph.held t)));
      seen = λ page there. same_only (to_page page seen) (to_page page (all_targets graph)) (kept (λ t. t.pair.page == page))
          ∙ ap only (sym (to_held graph.held page (all_targets graph) there));
      held = λ pair there. ap (λ all. is_held all pair.page) (sym counts.held_is)
          ∙ (and_parts (is_named seen pair) (is_held tally.held pair.page) (sym (counts.met_is.same pair) ∙ there)).1;
      met = λ pair named there. counts.met_is.same pair
          ∙ and_from (is_named seen pair) (is_held tally.held pair.page) named (ap (λ all. is_held all pair.page) counts.held_is ∙ there);
    }

pub loop_end : (graph : Graph) (next : ℕ) (tally : Tallied) → IsGraph graph → IsWalk graph next tally → length tally.met ≤ next → IsCounted graph tally
loop_end graph next tally is walk past = counted_is graph walk.first next tally is (differ graph.held is.rising) walk.walked past
