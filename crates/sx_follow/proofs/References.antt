-- The sums over all targets of a graph are those of its references.
use Rattle.std.proofs.Common.{◌≡◌, ℕ, ◌+◌, ◌==◌, false, cond, zero-add, List, [], ◌∷◌, length, get_or, sum_by, Option, Some, None, is_some, refl, sym, ap, ◌∙◌, arith}
use Rattle.std.proofs.lemmas.List.Sorted.{IsPermutation-refl}
use Rattle.sx_base.specs.declared.role.Role.TheVariants.{Node, Overflow, Trunk, FreeLeaf, PointerMap}
use Rattle.sx_closure.specs.declared.pair.Target.{Target}
use Rattle.sx_closure.specs.Graph.{Graph, IsGraph, is_held, all_targets, references, references_to, only}
use Rattle.sx_closure.specs.Chains.{one_reference}
use Rattle.sx_closure.specs.Tallying.{rank_of}
use Rattle.sx_closure.proofs.Tallies.{at_rank, rank_is_some}
use Rattle.sx_closure.proofs.Walks.{seen_by}
use Rattle.sx_closure.proofs.Counting.{to_missing}
use Rattle.sx_follow.specs.Sums.{of_role, kind_of, page_in, cell_in, total, summed, plus, nothing, Sums, sum_at, is_dead}
use Rattle.sx_follow.specs.Climbing.{all_of}
use Rattle.sx_follow.specs.Ones.{role_in, source_in, one_in, the_one}
use Rattle.sx_follow.specs.declared.sums.Sum.{Sum}
use Rattle.sx_base.specs.declared.role.Role.{Role}
use Rattle.sx_closure.specs.declared.pair.Pair.{Pair}
use Rattle.sx_closure.specs.declared.pair.Source.{Source}
use Rattle.sx_closure.specs.declared.pair.Source.TheVariants.{Root, Cell, Page}
use Rattle.sx_closure.proofs.Numbering.{only_among, page_among}
use Rattle.std.proofs.lemmas.Bool.{eq-eqb, ne_eqb}
use Rattle.sx_follow.specs.Following.{HasFollowed, AreReferences}
use Rattle.sx_follow.proofs.Following.{order_apart}
use Rattle.sx_follow.proofs.Summing.{one_of_long, one_sum, IsFollowed, followed_total, followed_count, followed_dead}
use Rattle.sx_follow.proofs.SumLemmas.{same_sums}
use Rattle.sx_follow.proofs.FollowLemmas.{all_roles}

followed_is : (graph : Graph) (all : Sums) → (followed : HasFollowed graph all) → IsFollowed graph followed.met (seen_by graph followed.met)
followed_is graph all followed = record {
  apart = order_apart graph [] followed.met followed.order;
  same = followed.same;
  counted = IsPermutation-refl (seen_by graph followed.met);
}

-- the sums of a held page, and of another
held_sum : (graph : Graph) (all : Sums) (page rank : ℕ) → (followed : HasFollowed graph all) → rank_of all.held page ≡ Some rank
    → get_or all.sums rank nothing ≡ summed (seen_by graph followed.met) page
held_sum graph all page rank followed ranked =
    ap (λ sums. get_or sums rank nothing) followed.are.sums ∙ at_rank all.held page rank (summed (seen_by graph followed.met)) nothing ranked

is_there : (graph : Graph) (all : Sums) (page : ℕ) (o : Option ℕ) → HasFollowed graph all → rank_of all.held page ≡ o → is_held graph.held page ≡ is_some o
is_there graph all page o followed ranked =
    ap (λ held. is_held held page) (sym followed.held_is) ∙ sym (rank_is_some all.held page) ∙ ap is_some ranked

count_case : (graph : Graph) (all : Sums) (page : ℕ) (o : Option ℕ) → IsGraph graph → (followed : HasFollowed graph all) → rank_of all.held page ≡ o
    → all_of (sum_at all o) ≡ length (references_to graph page)
count_case graph all page None good followed ranked =
    ap length (sym (to_missing graph.held page (all_targets graph) (is_there graph all page None followed ranked)))
count_case graph all page (Some rank) good followed ranked =
    let seen = seen_by graph followed.met in
    ap all_of (held_sum graph all page rank followed ranked) ∙ all_roles page seen
    ∙ followed_count graph followed.met seen page good (followed_is graph all followed) (is_there graph all page (Some rank) followed ranked)

-- a list of which there is one
pub one_list : (targets : List Target) (target : Target) → only targets ≡ Some target → targets ≡ target ∷ []
one_list [] target one = let never : None ≡ Some target = one in cc
one_list (first ∷ []) target one = let both : Some first ≡ Some target = one in let same : first ≡ target = cc in ap (λ t. t ∷ []) same
one_list (first ∷ second ∷ more) target one = let never : None ≡ Some target = one in cc

pub added_none : (n m : ℕ) → n ≡ m → n ≡ 0 + m
added_none n m same = omega (arith, same)

one_case : (graph : Graph) (all : Sums) (page : ℕ) (target : Target) (o : Option ℕ) → IsGraph graph → (followed : HasFollowed graph all) → rank_of all.held page ≡ o
    → one_reference graph page ≡ Some target → sum_at all o ≡ plus nothing target
one_case graph all page target None good followed ranked one =
    let none : only (references_to graph page) ≡ None = ap only (to_missing graph.held page (all_targets graph) (is_there graph all page None followed ranked)) in
    let never : None ≡ Some target = sym none ∙ one in
    cc
one_case graph all page target (Some rank) good followed ranked one =
    let seen = seen_by graph followed.met in
    let list = one_list (references_to graph page) target one in
    let weight : (w : Target → ℕ) → total w page seen ≡ 0 + w target = λ w.
    added_none (total w page seen) (w target)
    (followed_total graph followed.met seen w page good (followed_is graph all followed) (is_there graph all page (Some rank) followed ranked)
    ∙ ap (sum_by w) list ∙ one_sum w target) in
    held_sum graph all page rank followed ranked
    ∙ same_sums (summed seen page) (plus nothing target) (weight (of_role Node)) (weight (of_role Overflow)) (weight (of_role Trunk)) (weight (of_role FreeLeaf))
    (weight (of_role PointerMap)) (weight (λ t. kind_of t.source)) (weight (λ t. page_in t.source)) (weight (λ t. cell_in t.source)) (weight (λ t. t.rest))

-- ---- the one reference, told by its sums

role_told : (page : ℕ) (role : Role) (source : Source) (rest : ℕ) → role_in (plus nothing (record { pair = record { page = page; role = role }; source = source; rest = rest })) ≡ role
role_told page Node source rest = refl
role_told page Overflow source rest = refl
role_told page Trunk source rest = refl
role_told page FreeLeaf source rest = refl
role_told page PointerMap source rest = refl

one_told : (page : ℕ) (role : Role) (source : Source) (rest : ℕ) → all_of (plus nothing (record { pair = record { page = page; role = role }; source = source; rest = rest })) ≡ 1
one_told page Node source rest = refl
one_told page Overflow source rest = refl
one_told page Trunk source rest = refl
one_told page FreeLeaf source rest = refl
one_told page PointerMap source rest = refl

source_told : (pair : Pair) (source : Source) (rest : ℕ) → source_in (plus nothing (record { pair = pair; source = source; rest = rest })) ≡ source
source_told pair Root rest = refl
source_told pair (Cell page cell) rest = ap (λ p. Cell p (0 + cell)) (zero-add page) ∙ ap (Cell page) (zero-add cell)
source_told pair (Page page) rest = ap Page (zero-add page)

told_case : (page : ℕ) (sum : Sum) (target : Target) → all_of sum ≡ 1 → role_in sum ≡ target.pair.role → source_in sum ≡ target.source → sum.rest ≡ target.rest
    → target.pair.page ≡ page → one_in page sum ≡ Some target
told_case page sum target one role source rest at =
    let made : ℕ → Role → Source → ℕ → Target = λ p r s n. record { pair = record { page = p; role = r }; source = s; rest = n } in
    let same : made page (role_in sum) (source_in sum) sum.rest ≡ target =
    ap (λ p. made p (role_in sum) (source_in sum) sum.rest) (sym at) ∙ ap (λ r. made target.pair.page r (source_in sum) sum.rest) role
    ∙ ap (λ s. made target.pair.page target.pair.role s sum.rest) source ∙ ap (made target.pair.page target.pair.role target.source) rest in
    ap (λ b. cond b (Some (record { pair = record { page = page; role = role_in sum }; source = source_in sum; rest = sum.rest })) None) (eq-eqb (all_of sum) 1 one) ∙ ap Some same

pub told_sum : (page : ℕ) (target : Target) → target.pair.page ≡ page → one_in page (plus nothing target) ≡ Some target
told_sum page target at =
    told_case page (plus nothing target) target (one_told target.pair.page target.pair.role target.source target.rest)
    (role_told target.pair.page target.pair.role target.source target.rest) (source_told target.pair target.source target.rest) (zero-add target.rest) at

-- none where there isn't one
pub none_told : (page : ℕ) (sum : Sum) (targets : List Target) → all_of sum ≡ length targets → only targets ≡ None → one_in page sum ≡ None
none_told page sum targets count none =
    let other : (all_of sum == 1) ≡ false = ne_eqb (all_of sum) 1 (λ long.
    let found = one_of_long targets (sym count ∙ long) in
    let never : None ≡ Some found.target = sym none ∙ ap only found.is in
    cc) in
    ap (λ b. cond b (Some (record { pair = record { page = page; role = role_in sum }; source = source_in sum; rest = sum.rest })) None) other

told_by : (graph : Graph) (all : Sums) (page : ℕ) (o : Option Target) → IsGraph graph → HasFollowed graph all → one_reference graph page ≡ o → the_one all page ≡ o
told_by graph all page None good followed is =
    none_told page (sum_at all (rank_of all.held page)) (references_to graph page) (count_case graph all page (rank_of all.held page) good followed refl) is
told_by graph all page (Some target) good followed is =
    let among = only_among (references_to graph page) target is in
    ap (one_in page) (one_case graph all page target (rank_of all.held page) good followed refl is)
    ∙ told_sum page target (page_among page target (references graph) among).1

pub are_references : (graph : Graph) (all : Sums) → IsGraph graph → HasFollowed graph all → AreReferences graph all
are_references graph all good followed = record {
  counts = λ page. count_case graph all page (rank_of all.held page) good followed refl;
  ones = λ page target one. one_case graph all page target (rank_of all.held page) good followed refl one;
  told = λ page. told_by graph all page (one_reference graph page) good followed refl;
  dead = followed.are.dead
      ∙ ap (λ held. sum_by (is_dead held) (seen_by graph followed.met)) followed.held_is
      ∙ followed_dead graph followed.met (seen_by graph followed.met) good (followed_is graph all followed);
}
