-- What is kept of the references to a page as sums over all counted targets, in whatever order: each can be added and taken
-- back, and where there is one reference the sums are that one's.
use Rattle.std.proofs.Common.{◌≡◌, ℕ, ◌+◌, ◌-◌, ◌*◌, ◌<◌, ◌==◌, ◌&&◌, ◌||◌, Bool, true, false, not, cond, List, [], ◌∷◌, length, filter, map, replicate, sum_by, Some, refl, sym, ap, ◌∙◌, arith}
use Rattle.std.specs.List.Sorted.{IsPermutation}
use Rattle.std.proofs.lemmas.Bool.{false≢true}
use Rattle.std.proofs.lemmas.List.Sums.{sum_by-cons}
use Rattle.std.proofs.lemmas.List.Sorted.{sum_by-IsPermutation, sum_by_popped, length_permutation}
use Rattle.sx_closure.specs.declared.pair.Pair.{Pair}
use Rattle.sx_closure.specs.declared.pair.Target.{Target}
use Rattle.sx_closure.specs.Graph.{role_number, same_pair, is_in, is_named, Graph, IsGraph, is_held, is_reference, reached, all_targets, to_page, references_to, only, dead_links}
use Rattle.sx_closure.specs.Chains.{one_reference}
use Rattle.sx_follow.specs.Sums.{of_role, weighed, total, is_dead, nothing}
use Rattle.sx_closure.proofs.Pairs.{flipped}
use Rattle.sx_closure.proofs.Ranks.{differ}
use Rattle.sx_closure.proofs.Tallies.{same_each}
use Rattle.sx_closure.proofs.Reaching.{apart_reach}
use Rattle.sx_closure.proofs.Counting.{same_kept, to_held}
use Rattle.sx_closure.proofs.Pairs.{Apart}
use Rattle.sx_closure.proofs.Walks.{seen_by}

-- ---- a weight of the targets that name a page

-- one more, and one taken back
pub total_more : (weight : Target → ℕ) (page : ℕ) (target : Target) (seen : List Target) → total weight page (target ∷ seen) ≡ weighed weight page target + total weight page seen
total_more weight page target seen = sum_by-cons (weighed weight page) target seen

pub total_less : (weight : Target → ℕ) (page : ℕ) (target : Target) (seen rest : List Target) → IsPermutation seen (target ∷ rest)
    → total weight page rest ≡ total weight page seen - weighed weight page target
total_less weight page target seen rest perm =
    let all = sum_by_popped (weighed weight page) target seen rest perm in
    omega (arith, all)

pub total_same : (weight : Target → ℕ) (page : ℕ) (some others : List Target) → IsPermutation some others → total weight page others ≡ total weight page some
total_same weight page some others perm = sum_by-IsPermutation (weighed weight page) some others perm

page_case : (weight : Target → ℕ) (page : ℕ) (target : Target) (seen : List Target) (b : Bool) → (target.pair.page == page) ≡ b → total weight page seen ≡ sum_by weight (to_page page seen)
    → cond b (weight target) 0 + total weight page seen ≡ sum_by weight (cond b (target ∷ to_page page seen) (to_page page seen))
page_case weight page target seen true is rest = ap (λ n. weight target + n) rest ∙ sym (sum_by-cons weight target (to_page page seen))
page_case weight page target seen false is rest = omega (arith, rest)

-- it is the sum over those alone
pub total_of : (weight : Target → ℕ) (page : ℕ) (seen : List Target) → total weight page seen ≡ sum_by weight (to_page page seen)
total_of weight page [] = refl
total_of weight page (target ∷ seen) =
    total_more weight page target seen ∙ page_case weight page target seen (target.pair.page == page) refl (total_of weight page seen)

-- ---- counts

-- each counts for one
abbrev pub one_each : Target → ℕ
one_each target = 1

pub ones_long : (targets : List Target) → sum_by one_each targets ≡ length targets
ones_long [] = refl
ones_long (target ∷ targets) = let rest = ones_long targets in omega (arith, rest, sum_by-cons one_each target targets)

-- a list of one
pub record IsOne (targets : List Target) : Type 0 where
  pub target : Target
  pub is : targets ≡ target ∷ []

pub one_of_long : (targets : List Target) → length targets ≡ 1 → IsOne targets
one_of_long [] long = absurd (omega (arith, long))
one_of_long (target ∷ []) long = record { target = target; is = refl }
one_of_long (target ∷ other ∷ more) long = absurd (omega (arith, long))

pub one_sum : (weight : Target → ℕ) (target : Target) → sum_by weight (target ∷ []) ≡ weight target
one_sum weight target = sum_by-cons weight target [] ∙ omega arith

weight_case : (pair : Pair) (target : Target) (a b : Bool) → (target.pair.page == pair.page) ≡ a → (role_number pair.role == role_number target.pair.role) ≡ b
    → weighed (of_role pair.role) pair.page target ≡ cond (a && b) 1 0
weight_case pair target true b at role = rw (at, role) refl
weight_case pair target false b at role = rw at refl

-- a target counts exactly where it names the pair
weight_is : (pair : Pair) (target : Target) → weighed (of_role pair.role) pair.page target ≡ cond (same_pair pair target.pair) 1 0
weight_is pair target =
    weight_case pair target (pair.page == target.pair.page) (role_number pair.role == role_number target.pair.role)
    (flipped pair.page target.pair.page (pair.page == target.pair.page) refl) refl

count_case : (b named : Bool) (count rest : ℕ) → count ≡ cond b 1 0 + rest → (named ≡ true → 0 < rest) → (0 < rest → named ≡ true)
    → ((b || named) ≡ true → 0 < count) × (0 < count → (b || named) ≡ true)
count_case true named count rest is some there = (λ yes. omega (arith, is), λ yes. refl)
count_case false named count rest is some there = (λ yes. (let more = some yes in omega (arith, is, more)), λ yes. there (omega (arith, is, yes)))

-- so the count of a pair's role is above 0 exactly where the pair is named
counts_named : (seen : List Target) (pair : Pair) → (is_named seen pair ≡ true → 0 < total (of_role pair.role) pair.page seen)
    × (0 < total (of_role pair.role) pair.page seen → is_named seen pair ≡ true)
counts_named [] pair = (λ named. absurd (false≢true named), λ some. absurd (omega (arith, some)))
counts_named (target ∷ seen) pair =
    let rest = counts_named seen pair in
    count_case (same_pair pair target.pair) (is_named seen pair) (total (of_role pair.role) pair.page (target ∷ seen)) (total (of_role pair.role) pair.page seen)
    (total_more (of_role pair.role) pair.page target seen ∙ ap (λ n. n + total (of_role pair.role) pair.page seen) (weight_is pair target)) rest.0 rest.1

pub named_some : (seen : List Target) (pair : Pair) → is_named seen pair ≡ true → 0 < total (of_role pair.role) pair.page seen
named_some seen pair = (counts_named seen pair).0

pub some_named : (seen : List Target) (pair : Pair) → 0 < total (of_role pair.role) pair.page seen → is_named seen pair ≡ true
some_named seen pair = (counts_named seen pair).1

-- ---- from the targets that were counted to those of the definition

-- the marked pairs are the reached ones, and the counted targets are those that roots and marked pairs name
pub record IsFollowed (graph : Graph) (met : List Pair) (seen : List Target) : Type 0 where
  pub apart : Apart met
  pub same : (pair : Pair) → is_in met pair ≡ is_in (reached graph) pair
  pub counted : IsPermutation seen (seen_by graph met)

followed_kept : (graph : Graph) (met : List Pair) (seen : List Target) (test : Target → Bool) → IsGraph graph → IsFollowed graph met seen
    → IsPermutation (filter test (seen_by graph met)) (filter test (all_targets graph))
followed_kept graph met seen test is followed =
    same_kept graph met test followed.apart (apart_reach graph (4 * length graph.held) (differ graph.held is.rising)) followed.same

-- a total over the counted targets is that over the references to a held page
pub followed_total : (graph : Graph) (met : List Pair) (seen : List Target) (weight : Target → ℕ) (page : ℕ) → IsGraph graph → IsFollowed graph met seen
    → is_held graph.held page ≡ true → total weight page seen ≡ sum_by weight (references_to graph page)
followed_total graph met seen weight page is followed held =
    let kept = followed_kept graph met seen (λ target. target.pair.page == page) is followed in
    sym (total_same weight page seen (seen_by graph met) followed.counted)
    ∙ total_of weight page (seen_by graph met)
    ∙ sym (sum_by-IsPermutation weight (to_page page (seen_by graph met)) (to_page page (all_targets graph)) kept)
    ∙ ap (sum_by weight) (sym (to_held graph.held page (all_targets graph) held))

pub followed_count : (graph : Graph) (met : List Pair) (seen : List Target) (page : ℕ) → IsGraph graph → IsFollowed graph met seen
    → is_held graph.held page ≡ true → total one_each page seen ≡ length (references_to graph page)
followed_count graph met seen page is followed held =
    followed_total graph met seen one_each page is followed held ∙ ones_long (references_to graph page)

-- where one is counted, that is the one reference, and each total is its weight
pub record IsTheOne (graph : Graph) (page : ℕ) (seen : List Target) : Type 0 where
  pub target : Target
  pub one : one_reference graph page ≡ Some target
  pub weights : (weight : Target → ℕ) → total weight page seen ≡ weight target

pub followed_one : (graph : Graph) (met : List Pair) (seen : List Target) (page : ℕ) → IsGraph graph → IsFollowed graph met seen
    → is_held graph.held page ≡ true → total one_each page seen ≡ 1 → IsTheOne graph page seen
followed_one graph met seen page is followed held count =
    let found = one_of_long (references_to graph page) (sym (followed_count graph met seen page is followed held) ∙ count) in
    record {
      target = found.target;
      one = ap only found.is;
      weights = λ weight. followed_total graph met seen weight page is followed held ∙ ap (sum_by weight) found.is ∙ one_sum weight found.target;
    }

-- dead links are counted as they come
dead_case : (held : List ℕ) (target : Target) (kept : List Target) (n : ℕ) (b : Bool) → is_held held target.pair.page ≡ b → n ≡ length kept
    → cond b 0 1 + n ≡ length (cond (not b) (target ∷ kept) kept)
dead_case held target kept n true is rest = omega (arith, rest)
dead_case held target kept n false is rest = omega (arith, rest)

dead_long : (held : List ℕ) (targets : List Target) → sum_by (is_dead held) targets ≡ length (filter (λ target. not (is_reference held target)) targets)
dead_long held [] = refl
dead_long held (target ∷ targets) =
    sum_by-cons (is_dead held) target targets
    ∙ dead_case held target (filter (λ t. not (is_reference held t)) targets) (sum_by (is_dead held) targets) (is_held held target.pair.page) refl (dead_long held targets)

pub followed_dead : (graph : Graph) (met : List Pair) (seen : List Target) → IsGraph graph → IsFollowed graph met seen
    → sum_by (is_dead graph.held) seen ≡ length (dead_links graph)
followed_dead graph met seen is followed =
    sym (sum_by-IsPermutation (is_dead graph.held) seen (seen_by graph met) followed.counted)
    ∙ dead_long graph.held (seen_by graph met)
    ∙ sym (length_permutation (filter (λ t. not (is_reference graph.held t)) (seen_by graph met)) (dead_links graph)
    (followed_kept graph met seen (λ t. not (is_reference graph.held t)) is followed))

-- ---- the sums of all held pages

pub nothing_each : (held : List ℕ) → replicate (length held) nothing ≡ map (λ page. nothing) held
nothing_each held = same_each nothing held
