-- The sums over more pages than are held tell the references to those that are.
use Rattle.std.proofs.Common.{◌≡◌, ℕ, zero, suc, ◌+◌, ◌*◌, ◌==◌, ◌&&◌, ◌||◌, Bool, true, false, cond, List, [], ◌∷◌, ◌++◌, length, map, filter, get_or, sum_by, Option, Some, None, is_some, refl, sym, ap, subst, ◌∙◌, arith}
use Rattle.std.specs.List.{flat_map}
use Rattle.std.specs.List.Sorted.{IsPermutation}
use Rattle.std.proofs.lemmas.Bool.{eqb-true, eq-eqb, and_parts, and_from, or_left, or_right, false≢true}
use Rattle.std.proofs.lemmas.List.Sums.{sum_by-cons}
use Rattle.std.proofs.lemmas.List.Sorted.{IsPermutation-refl}
use Rattle.sx_base.specs.declared.role.Role.TheVariants.{Node, Overflow, Trunk, FreeLeaf, PointerMap}
use Rattle.sx_closure.specs.declared.pair.Pair.{Pair}
use Rattle.sx_closure.specs.declared.pair.Target.{Target}
use Rattle.sx_closure.specs.Graph.{is_in, is_named, Graph, IsGraph, is_held, reach, reached, references, references_to}
use Rattle.sx_closure.specs.Chains.{one_reference}
use Rattle.sx_closure.specs.Tallying.{rank_of}
use Rattle.sx_closure.proofs.Pairs.{flipped, same_answer, is_in_filter, apart_filter}
use Rattle.sx_closure.proofs.Numbering.{only_among, page_among}
use Rattle.sx_closure.proofs.Reaching.{named_from, named_to, reach_none, reach_one}
use Rattle.sx_closure.proofs.Tallies.{Differ, at_rank, rank_is_some}
use Rattle.sx_closure.proofs.Ranks.{differ}
use Rattle.sx_closure.proofs.Walks.{seen_by}
use Rattle.sx_follow.specs.Sums.{of_role, kind_of, page_in, cell_in, weighed, total, summed, plus, nothing, Sums, sum_at, is_dead}
use Rattle.sx_follow.specs.Climbing.{all_of}
use Rattle.sx_follow.specs.Following.{sum_of, HasFollowed}
use Rattle.sx_follow.specs.Ones.{one_in}
use Rattle.sx_follow.specs.Widened.{widened, IsWider, missing_count, missing_counts, AreReferencesOf}
use Rattle.sx_follow.proofs.Following.{reach_enough, order_apart}
use Rattle.sx_follow.proofs.FollowLemmas.{all_roles}
use Rattle.sx_follow.proofs.References.{one_list, added_none, told_sum, none_told}
use Rattle.sx_follow.proofs.SumLemmas.{same_sums}
use Rattle.sx_follow.proofs.Summing.{total_more, one_each, one_sum, IsFollowed, followed_total, followed_count, followed_dead}

-- ---- the rounds

and_true : (b : Bool) → (b && true) ≡ b
and_true true = refl
and_true false = refl

and_false : (b : Bool) → (b && false) ≡ false
and_false true = refl
and_false false = refl

both_case : (a b h n : Bool) → (h ≡ true → n ≡ true) → (h ≡ true → a ≡ b) → (h && a) ≡ ((n && b) && h)
both_case a b true true within same = same refl ∙ sym (and_true b)
both_case a b true false within same = absurd (false≢true (within refl))
both_case a b false true within same = sym (and_false b)
both_case a b false false within same = refl

-- a pair is reached in a round where it is over more pages, and held
abbrev SameRound : List ℕ → Graph → ℕ → Type 0
SameRound numbers graph rounds = (pair : Pair) → is_in (reach graph rounds) pair ≡ (is_in (reach (widened numbers graph) rounds) pair && is_held graph.held pair.page)

-- a pair that names something is one of a held page
names_case : (numbers : List ℕ) (graph : Graph) (rounds : ℕ) (source pair : Pair) (b : Bool) → IsWider numbers graph → SameRound numbers graph rounds
    → is_held graph.held source.page ≡ b → is_in (reach (widened numbers graph) rounds) source ≡ true → is_named (graph.targets source) pair ≡ true
    → is_in (reach graph rounds) source ≡ true
names_case numbers graph rounds source pair true wider same is there names =
    same source ∙ and_from (is_in (reach (widened numbers graph) rounds) source) (is_held graph.held source.page) there is
names_case numbers graph rounds source pair false wider same is there names =
    absurd (false≢true (ap (λ targets. is_named targets pair) (sym (wider.none source is)) ∙ names))

names_same : (numbers : List ℕ) (graph : Graph) (rounds : ℕ) (pair : Pair) → IsWider numbers graph → SameRound numbers graph rounds
    → is_named (flat_map graph.targets (reach graph rounds)) pair ≡ is_named (flat_map graph.targets (reach (widened numbers graph) rounds)) pair
names_same numbers graph rounds pair wider same =
    let wide = reach (widened numbers graph) rounds in
    same_answer (is_named (flat_map graph.targets (reach graph rounds)) pair) (is_named (flat_map graph.targets wide) pair)
    (λ named.
    let from = named_from graph.targets (reach graph rounds) pair named in
    let parts = and_parts (is_in wide from.source) (is_held graph.held from.source.page) (sym (same from.source) ∙ from.there) in
    named_to graph.targets wide from.source pair parts.0 from.names)
    (λ named.
    let from = named_from graph.targets wide pair named in
    named_to graph.targets (reach graph rounds) from.source pair
    (names_case numbers graph rounds from.source pair (is_held graph.held from.source.page) wider same refl from.there from.names) from.names)

rounds_same : (numbers : List ℕ) (graph : Graph) → IsWider numbers graph → (rounds : ℕ) → SameRound numbers graph rounds
rounds_same numbers graph wider zero pair =
    let named = is_named graph.roots pair in
    reach_none graph pair
    ∙ both_case named named (is_held graph.held pair.page) (is_held numbers pair.page) (wider.held pair.page) (λ held. refl)
    ∙ ap (λ b. b && is_held graph.held pair.page) (sym (reach_none (widened numbers graph) pair))
rounds_same numbers graph wider (suc rounds) pair =
    let same = rounds_same numbers graph wider rounds in
    let wide = reach (widened numbers graph) rounds in
    let here = is_in (reach graph rounds) pair || is_named (flat_map graph.targets (reach graph rounds)) pair in
    let there = is_in wide pair || is_named (flat_map graph.targets wide) pair in
    reach_one graph rounds pair
    ∙ both_case here there (is_held graph.held pair.page) (is_held numbers pair.page) (wider.held pair.page)
    (λ held.
    ap (λ b. b || is_named (flat_map graph.targets (reach graph rounds)) pair) (same pair ∙ ap (λ b. is_in wide pair && b) held ∙ and_true (is_in wide pair))
    ∙ ap (λ b. is_in wide pair || b) (names_same numbers graph rounds pair wider same))
    ∙ ap (λ b. b && is_held graph.held pair.page) (sym (reach_one (widened numbers graph) rounds pair))

reached_same : (numbers : List ℕ) (graph : Graph) (pair : Pair) → IsGraph graph → IsGraph (widened numbers graph) → IsWider numbers graph
    → is_in (reached graph) pair ≡ (is_in (reached (widened numbers graph)) pair && is_held graph.held pair.page)
reached_same numbers graph pair good wide wider =
    let held = is_held graph.held pair.page in
    same_answer (is_in (reached graph) pair) (is_in (reached (widened numbers graph)) pair && held)
    (λ there.
    let rounds = 4 * length graph.held in
    let parts = and_parts (is_in (reach (widened numbers graph) rounds) pair) held (sym (rounds_same numbers graph wider rounds pair) ∙ there) in
    and_from (is_in (reached (widened numbers graph)) pair) held (reach_enough (widened numbers graph) pair wide (record { rounds = rounds; there = parts.0 })) parts.1)
    (λ both.
    let rounds = 4 * length numbers in
    let parts = and_parts (is_in (reached (widened numbers graph)) pair) held both in
    reach_enough graph pair good (record {
      rounds = rounds;
      there = rounds_same numbers graph wider rounds pair ∙ and_from (is_in (reach (widened numbers graph) rounds) pair) held parts.0 parts.1;
    }))

-- ---- the targets that were counted

abbrev held_pair : Graph → Pair → Bool
held_pair graph pair = is_held graph.held pair.page

piece_case : (graph : Graph) (one : Pair) (kept rest : List Pair) (b : Bool) → ((pair : Pair) → is_held graph.held pair.page ≡ false → graph.targets pair ≡ [])
    → is_held graph.held one.page ≡ b → flat_map graph.targets kept ≡ flat_map graph.targets rest
    → flat_map graph.targets (cond (is_held graph.held one.page) (one ∷ kept) kept) ≡ graph.targets one ++ flat_map graph.targets rest
piece_case graph one kept rest true none is same = rw is (ap (λ targets. graph.targets one ++ targets) same)
piece_case graph one kept rest false none is same = rw is (same ∙ ap (λ targets. targets ++ flat_map graph.targets rest) (sym (none one is)))

kept_pieces : (graph : Graph) (pairs : List Pair) → ((pair : Pair) → is_held graph.held pair.page ≡ false → graph.targets pair ≡ [])
    → flat_map graph.targets (filter (held_pair graph) pairs) ≡ flat_map graph.targets pairs
kept_pieces graph [] none = refl
kept_pieces graph (one ∷ pairs) none =
    piece_case graph one (filter (held_pair graph) pairs) pairs (is_held graph.held one.page) none refl (kept_pieces graph pairs none)

followed_in : (numbers : List ℕ) (graph : Graph) (all : Sums) → IsGraph graph → IsGraph (widened numbers graph) → IsWider numbers graph
    → (followed : HasFollowed (widened numbers graph) all) → IsFollowed graph (filter (held_pair graph) followed.met) (seen_by (widened numbers graph) followed.met)
followed_in numbers graph all good wide wider followed =
    let seen = seen_by (widened numbers graph) followed.met in
    let same : seen ≡ seen_by graph (filter (held_pair graph) followed.met) = ap (λ targets. graph.roots ++ targets) (sym (kept_pieces graph followed.met wider.none)) in
    record {
      apart = apart_filter (held_pair graph) followed.met (order_apart (widened numbers graph) [] followed.met followed.order);
      same = λ pair. is_in_filter (held_pair graph) followed.met pair
          ∙ ap (λ b. b && is_held graph.held pair.page) (followed.same pair)
          ∙ sym (reached_same numbers graph pair good wide wider);
      counted = subst (IsPermutation seen) same (IsPermutation-refl seen);
    }

-- ---- the sums of a page

sum_case : (all : Sums) (page : ℕ) (seen : List Target) (o : Option ℕ) → rank_of all.held page ≡ o → is_some o ≡ true → all.sums ≡ map (summed seen) all.held
    → sum_at all o ≡ summed seen page
sum_case all page seen None ranked some are = absurd (false≢true some)
sum_case all page seen (Some rank) ranked some are = ap (λ sums. get_or sums rank nothing) are ∙ at_rank all.held page rank (summed seen) nothing ranked

sum_is : (all : Sums) (page : ℕ) (seen : List Target) → is_held all.held page ≡ true → all.sums ≡ map (summed seen) all.held → sum_of all page ≡ summed seen page
sum_is all page seen held are = sum_case all page seen (rank_of all.held page) refl (rank_is_some all.held page ∙ held) are

-- the one reference by the sums over what was counted
told_case : (graph : Graph) (met : List Pair) (seen : List Target) (page : ℕ) (o : Option Target) → IsGraph graph → IsFollowed graph met seen → is_held graph.held page ≡ true
    → one_reference graph page ≡ o → one_in page (summed seen page) ≡ o
told_case graph met seen page None good is held one =
    none_told page (summed seen page) (references_to graph page) (all_roles page seen ∙ followed_count graph met seen page good is held) one
told_case graph met seen page (Some target) good is held one =
    let list = one_list (references_to graph page) target one in
    let weight : (w : Target → ℕ) → total w page seen ≡ 0 + w target = λ w.
    added_none (total w page seen) (w target) (followed_total graph met seen w page good is held ∙ ap (sum_by w) list ∙ one_sum w target) in
    let among = only_among (references_to graph page) target one in
    ap (one_in page)
    (same_sums (summed seen page) (plus nothing target) (weight (of_role Node)) (weight (of_role Overflow)) (weight (of_role Trunk)) (weight (of_role FreeLeaf))
    (weight (of_role PointerMap)) (weight (λ t. kind_of t.source)) (weight (λ t. page_in t.source)) (weight (λ t. cell_in t.source)) (weight (λ t. t.rest)))
    ∙ told_sum page target (page_among page target (references graph) among).1

-- ---- the dead links

sum_members : (f g : ℕ → ℕ) (xs : List ℕ) → ((x : ℕ) → is_held xs x ≡ true → f x ≡ g x) → sum_by f xs ≡ sum_by g xs
sum_members f g [] same = refl
sum_members f g (x ∷ xs) same =
    let first = same x (or_left (x == x) (is_held xs x) (eq-eqb x x refl)) in
    let rest = sum_members f g xs (λ y there. same y (or_right (x == y) (is_held xs y) there)) in
    omega (arith, first, rest, sum_by-cons f x xs, sum_by-cons g x xs)

sum_plus : (f g : ℕ → ℕ) (xs : List ℕ) → sum_by (λ x. f x + g x) xs ≡ sum_by f xs + sum_by g xs
sum_plus f g [] = refl
sum_plus f g (x ∷ xs) =
    let rest = sum_plus f g xs in
    omega (arith, rest, sum_by-cons f x xs, sum_by-cons g x xs, sum_by-cons (λ y. f y + g y) x xs)

sum_zero : (f : ℕ → ℕ) (xs : List ℕ) → ((x : ℕ) → f x ≡ 0) → sum_by f xs ≡ 0
sum_zero f [] zero_each = refl
sum_zero f (x ∷ xs) zero_each = let rest = sum_zero f xs zero_each in let here = zero_each x in omega (arith, rest, here, sum_by-cons f x xs)

-- what a page that isn't held adds, of a number
abbrev missing : List ℕ → (ℕ → ℕ) → ℕ → ℕ
missing held f page = cond (is_held held page) 0 (f page)

abbrev none_either : Bool → ℕ
none_either b = cond b 0 0

zero_either : (b : Bool) → none_either b ≡ 0
zero_either true = refl
zero_either false = refl

missing_zero : (held : List ℕ) (page : ℕ) → missing held (λ p. 0) page ≡ 0
missing_zero held page = zero_either (is_held held page)

missing_plus : (b : Bool) (m n : ℕ) → cond b 0 (m + n) ≡ cond b 0 m + cond b 0 n
missing_plus true m n = refl
missing_plus false m n = refl

-- a target that names one of the pages, once
abbrev weight_of : Bool → Bool → ℕ
weight_of held named = cond held 0 (cond named 1 0)

abbrev told_of : List ℕ → List ℕ → ℕ → Bool → ℕ
told_of held numbers p first = cond (first || is_held numbers p) (cond (is_held held p) 0 1) 0

abbrev rest_of : List ℕ → ℕ → Bool → ℕ
rest_of held p there = cond there (cond (is_held held p) 0 1) 0

once_case : (held numbers : List ℕ) (n p : ℕ) (b : Bool) → (n == p) ≡ b → is_held numbers n ≡ false
    → sum_by (missing held (λ page. cond (p == page) 1 0)) numbers ≡ cond (is_held numbers p) (cond (is_held held p) 0 1) 0
    → missing held (λ page. cond (p == page) 1 0) n + sum_by (missing held (λ page. cond (p == page) 1 0)) numbers ≡ cond ((n == p) || is_held numbers p) (cond (is_held held p) 0 1) 0
once_case held numbers n p true is apart rest =
    let same : n ≡ p = eqb-true n p is in
    let none : is_held numbers p ≡ false = ap (is_held numbers) (sym same) ∙ apart in
    let zero_rest : sum_by (missing held (λ page. cond (p == page) 1 0)) numbers ≡ 0 = rest ∙ ap (rest_of held p) none in
    let here : missing held (λ page. cond (p == page) 1 0) n ≡ cond (is_held held p) 0 1 =
    ap (missing held (λ page. cond (p == page) 1 0)) same ∙ ap (weight_of (is_held held p)) (eq-eqb p p refl) in
    let all : cond ((n == p) || is_held numbers p) (cond (is_held held p) 0 1) 0 ≡ cond (is_held held p) 0 1 =
    ap (told_of held numbers p) is in
    omega (arith, here, zero_rest, all)
once_case held numbers n p false is apart rest =
    let here : missing held (λ page. cond (p == page) 1 0) n ≡ 0 = ap (weight_of (is_held held n)) (flipped n p false is) ∙ zero_either (is_held held n) in
    let all : cond ((n == p) || is_held numbers p) (cond (is_held held p) 0 1) 0 ≡ cond (is_held numbers p) (cond (is_held held p) 0 1) 0 =
    ap (told_of held numbers p) is in
    omega (arith, here, rest, all)

once : (held numbers : List ℕ) (p : ℕ) → Differ numbers → sum_by (missing held (λ page. cond (p == page) 1 0)) numbers ≡ cond (is_held numbers p) (cond (is_held held p) 0 1) 0
once held [] p apart = refl
once held (n ∷ numbers) p apart =
    sum_by-cons (missing held (λ page. cond (p == page) 1 0)) n numbers ∙ once_case held numbers n p (n == p) refl apart.0 (once held numbers p apart.1)

dead_case : (g n : Bool) → (g ≡ true → n ≡ true) → cond g 0 1 ≡ cond n 0 1 + cond n (cond g 0 1) 0
dead_case true true within = refl
dead_case true false within = absurd (false≢true (within refl))
dead_case false true within = refl
dead_case false false within = refl

dead_more : (held numbers : List ℕ) (seen : List Target) → Differ numbers → ((page : ℕ) → is_held held page ≡ true → is_held numbers page ≡ true)
    → sum_by (is_dead held) seen ≡ sum_by (is_dead numbers) seen + sum_by (missing held (λ page. total one_each page seen)) numbers
dead_more held numbers [] apart within =
    let none = sum_zero (missing held (λ page. total one_each page [])) numbers (λ page. missing_zero held page) in
    omega (arith, none)
dead_more held numbers (target ∷ seen) apart within =
    let p = target.pair.page in
    let rest = dead_more held numbers seen apart within in
    let one = once held numbers p apart in
    let here = dead_case (is_held held p) (is_held numbers p) (within p) in
    let split : sum_by (missing held (λ page. total one_each page (target ∷ seen))) numbers
    ≡ sum_by (missing held (λ page. cond (p == page) 1 0)) numbers + sum_by (missing held (λ page. total one_each page seen)) numbers =
    sum_members (missing held (λ page. total one_each page (target ∷ seen)))
    (λ page. missing held (λ q. cond (p == q) 1 0) page + missing held (λ q. total one_each q seen) page) numbers
    (λ page there. ap (λ n. cond (is_held held page) 0 n) (total_more one_each page target seen) ∙ missing_plus (is_held held page) (weighed one_each page target) (total one_each page seen))
    ∙ sum_plus (missing held (λ page. cond (p == page) 1 0)) (missing held (λ page. total one_each page seen)) numbers in
    omega (arith, rest, one, here, split, sum_by-cons (is_dead held) target seen, sum_by-cons (is_dead numbers) target seen)

missing_are : (held : List ℕ) (all : Sums) (seen : List Target) → all.sums ≡ map (summed seen) all.held
    → missing_counts held all ≡ sum_by (missing held (λ page. total one_each page seen)) all.held
missing_are held all seen are =
    sum_members (missing_count held all) (missing held (λ page. total one_each page seen)) all.held
    (λ page there. ap (λ n. cond (is_held held page) 0 n) (ap all_of (sum_is all page seen there are) ∙ all_roles page seen))

-- ---- what the sums say

pub are_references_of : (numbers : List ℕ) (graph : Graph) (all : Sums) → IsGraph graph → IsGraph (widened numbers graph) → IsWider numbers graph
    → HasFollowed (widened numbers graph) all → AreReferencesOf graph all
are_references_of numbers graph all good wide wider followed =
    let seen = seen_by (widened numbers graph) followed.met in
    let met = filter (held_pair graph) followed.met in
    let is = followed_in numbers graph all good wide wider followed in
    let there : (page : ℕ) → is_held graph.held page ≡ true → is_held all.held page ≡ true = λ page held. ap (λ list. is_held list page) followed.held_is ∙ wider.held page held in
    let sum : (page : ℕ) → is_held graph.held page ≡ true → sum_of all page ≡ summed seen page = λ page held. sum_is all page seen (there page held) followed.are.sums in
    let split = dead_more graph.held all.held seen (subst Differ (sym followed.held_is) (differ numbers wide.rising)) there in
    record {
      counts = λ page held. ap all_of (sum page held) ∙ all_roles page seen ∙ followed_count graph met seen page good is held;
      told = λ page held. ap (one_in page) (sum page held) ∙ told_case graph met seen page (one_reference graph page) good is held refl;
      dead = omega (arith, split, followed.are.dead, missing_are graph.held all seen followed.are.sums, followed_dead graph met seen good is);
    }
