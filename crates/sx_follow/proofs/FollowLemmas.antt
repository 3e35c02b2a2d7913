-- From the sums of one graph to those of another: what rises, what falls, and that what is left is reached.
use Rattle.std.proofs.Common.{◌≡◌, ℕ, zero, suc, ◌+◌, ◌*◌, ◌<◌, ◌==◌, ◌&&◌, ◌||◌, Bool, true, false, not, cond, List, [], ◌∷◌, ◌++◌, length, append-nil, map, filter, get_or, sum_by, Option, Some, None, IfSome, is_some, inl, inr, refl, sym, ap, subst, ◌∙◌, arith}
use Rattle.std.specs.List.{flat_map}
use Rattle.std.specs.List.Sorted.{IsPermutation}
use Rattle.std.proofs.lemmas.Bool.{and_parts, and_from, or_left, or_right, or_cases, or_from, false≢true, eqb-true, eqb-false}
use Rattle.std.proofs.lemmas.List.Concat.{flat_map-append}
use Rattle.std.proofs.lemmas.List.Sorted.{IsPermutation-trans, IsPermutation-append_right, list_any-IsPermutation}
use Rattle.sx_base.specs.declared.role.Role.{Role}
use Rattle.sx_base.specs.declared.role.Role.TheVariants.{Node, Overflow, Trunk, FreeLeaf, PointerMap}
use Rattle.sx_closure.specs.declared.pair.Pair.{Pair}
use Rattle.sx_closure.specs.declared.pair.Source.{Source}
use Rattle.sx_closure.specs.declared.pair.Source.TheVariants.{Root, Cell, Page}
use Rattle.sx_closure.specs.declared.pair.Target.{Target}
use Rattle.sx_closure.specs.Graph.{same_pair, is_in, is_named, Graph, IsGraph, is_held, reach, reached, to_page, only}
use Rattle.sx_closure.proofs.Pairs.{Apart}
use Rattle.sx_closure.proofs.Walks.{seen_by}
use Rattle.sx_follow.specs.Orders.{IsOrder}
use Rattle.sx_closure.specs.Tallying.{rank_of}
use Rattle.sx_follow.specs.Sums.{of_role, kind_of, page_in, weighed, total, summed, nothing, many_of, Sums, AreSums}
use Rattle.sx_follow.specs.Rising.{Rise, rose_all}
use Rattle.sx_follow.specs.Risen.{IsRising, HasRisen}
use Rattle.sx_follow.specs.Falling.{Fall, fell_all, IsFalling}
use Rattle.sx_follow.specs.Climbing.{source_page, IsSourced, all_of, way_of, way_by, way_at, HasWay, marked_by, is_marked_in, AllHaveWays}
use Rattle.sx_follow.specs.Climbing.HasWay.{from_root, from_page}
use Rattle.sx_follow.specs.Following.{HasFollowed, CanFollow}
use Rattle.sx_follow.specs.declared.followed.Followed.{Followed}
use Rattle.sx_closure.proofs.Pairs.{or_none, same_is, same_answer, is_in_append, is_in_head, is_in_filter, apart_filter, same_pieces}
use Rattle.sx_closure.proofs.Ranks.{differ}
use Rattle.sx_closure.proofs.Tallies.{at_rank, rank_is_some}
use Rattle.sx_closure.proofs.Reaching.{named_append, named_from, named_to, reach_none, reach_one, reach_held, reach_stays, apart_reach}
use Rattle.sx_follow.proofs.Summing.{total_more, total_of, one_each, one_of_long, ones_long, one_sum, named_some, some_named}
use Rattle.sx_follow.proofs.SumLemmas.{sums_none, sums_same}
use Rattle.sx_follow.proofs.Following.{IsReached, IsClosed, order_apart, order_held, named_reached, marked_are, reach_enough, order_is_reach}
use Rattle.sx_follow.proofs.Climbing.{AllNamed, IsGood, climb, still_reached}
use Rattle.sx_follow.proofs.Exchanging.{IsExchange, order_exchange, to_front}
use Rattle.sx_follow.proofs.RiseLemmas.{many_at, same_named, rising_all}
use Rattle.sx_follow.proofs.FallLemmas.{pairs_in, in_pairs_of, fall_all}

-- ---- the one reference, as the sums tell it

roles_case : (role : Role) (page : ℕ) (target : Target) (b : Bool) → target.pair.role ≡ role → (target.pair.page == page) ≡ b
    → weighed (of_role Node) page target + (weighed (of_role Overflow) page target + (weighed (of_role Trunk) page target
    + (weighed (of_role FreeLeaf) page target + weighed (of_role PointerMap) page target))) ≡ weighed one_each page target
roles_case Node page target true role at = rw (role, at) refl
roles_case Node page target false role at = rw (role, at) refl
roles_case Overflow page target true role at = rw (role, at) refl
roles_case Overflow page target false role at = rw (role, at) refl
roles_case Trunk page target true role at = rw (role, at) refl
roles_case Trunk page target false role at = rw (role, at) refl
roles_case FreeLeaf page target true role at = rw (role, at) refl
roles_case FreeLeaf page target false role at = rw (role, at) refl
roles_case PointerMap page target true role at = rw (role, at) refl
roles_case PointerMap page target false role at = rw (role, at) refl

pub all_roles : (page : ℕ) (seen : List Target)
    → total (of_role Node) page seen + (total (of_role Overflow) page seen + (total (of_role Trunk) page seen + (total (of_role FreeLeaf) page seen + total (of_role PointerMap) page seen)))
    ≡ total one_each page seen
all_roles page [] = refl
all_roles page (target ∷ seen) =
    let rest = all_roles page seen in
    let it = roles_case target.pair.role page target (target.pair.page == page) refl refl in
    omega (
      arith,
      rest,
      it,
      total_more (of_role Node) page target seen,
      total_more (of_role Overflow) page target seen,
      total_more (of_role Trunk) page target seen,
      total_more (of_role FreeLeaf) page target seen,
      total_more (of_role PointerMap) page target seen,
      total_more one_each page target seen,
    )

-- where the one target of a page stands
pub record IsTheWay (seen : List Target) (page : ℕ) (way : Option ℕ) : Type 0 where
  pub target : Target
  pub one : only (to_page page seen) ≡ Some target
  pub at : source_page target.source ≡ way

source_case : (source : Source) (way : Option ℕ) → cond (kind_of source == 0) None (Some (page_in source)) ≡ way → source_page source ≡ way
source_case Root way is = is
source_case (Cell page cell) way is = is
source_case (Page page) way is = is

some_is : (one other : Option ℕ) → ◌≡◌ {A = Option (Option ℕ)} (Some one) (Some other) → one ≡ other
some_is one other same = cc

count_case : (seen : List Target) (page : ℕ) (way : Option ℕ) (b : Bool) → (all_of (summed seen page) == 1) ≡ b
    → cond b (Some (cond ((summed seen page).kind == 0) None (Some (summed seen page).page))) None ≡ Some way → IsTheWay seen page way
count_case seen page way false count is = let never : None ≡ Some way = is in cc
count_case seen page way true count is =
    let many : all_of (summed seen page) ≡ 1 = eqb-true (all_of (summed seen page)) 1 count in
    let long : length (to_page page seen) ≡ 1 = sym (ones_long (to_page page seen)) ∙ sym (total_of one_each page seen) ∙ sym (all_roles page seen) ∙ many in
    let found = one_of_long (to_page page seen) long in
    let target = found.target in
    let weight : (w : Target → ℕ) → total w page seen ≡ w target = λ w. total_of w page seen ∙ ap (sum_by w) found.is ∙ one_sum w target in
    let kind : (summed seen page).kind ≡ kind_of target.source = weight (λ t. kind_of t.source) in
    let at : (summed seen page).page ≡ page_in target.source = weight (λ t. page_in t.source) in
    record {
      target = target;
      one = ap only found.is;
      at = source_case target.source way
          (ap (λ n. cond (kind_of target.source == 0) None (Some n)) (sym at) ∙ ap (λ n. cond (n == 0) None (Some (summed seen page).page)) (sym kind) ∙ some_is _ way is);
    }

way_case : (seen : List Target) (all : Sums) (page : ℕ) (way : Option ℕ) (o : Option ℕ) → AreSums seen all → rank_of all.held page ≡ o → way_by all o ≡ Some way → IsTheWay seen page way
way_case seen all page way None are ranked is = let never : None ≡ Some way = is in cc
way_case seen all page way (Some rank) are ranked is =
    let sum : get_or all.sums rank nothing ≡ summed seen page = ap (λ sums. get_or sums rank nothing) are.sums ∙ at_rank all.held page rank (summed seen) nothing ranked in
    count_case seen page way (all_of (summed seen page) == 1) refl (ap way_of (sym sum) ∙ is)

the_way : (seen : List Target) (all : Sums) (page : ℕ) (way : Option ℕ) → AreSums seen all → way_at all page ≡ Some way → IsTheWay seen page way
the_way seen all page way are is = way_case seen all page way (rank_of all.held page) are refl is

-- ---- a way of single references

no_before : (source : Source) (before : ℕ) → source_page source ≡ None → source_page source ≡ Some before → ⊥
no_before source before none some = let never : None ≡ Some before = sym none ∙ some in cc

that_before : (source : Source) (above before : ℕ) → source_page source ≡ Some above → source_page source ≡ Some before → above ≡ before
that_before source above before one other = let both : Some above ≡ Some before = sym one ∙ other in cc

way_good : (graph : Graph) (gone met : List Pair) (all : Sums) (page : ℕ) → IsSourced graph → IsOrder graph gone met → AllNamed graph met → AreSums (seen_by graph met) all
    → HasWay all page → IsGood graph met page
way_good graph gone met all page sourced order named are (from_root _ _ at) =
    let way = the_way (seen_by graph met) all page None are at in
    climb graph gone met page way.target sourced order named way.one (λ before some. absurd (no_before way.target.source before way.at some))
way_good graph gone met all page sourced order named are (from_page _ _ above at more) =
    let way = the_way (seen_by graph met) all page (Some above) are at in
    let up = way_good graph gone met all above sourced order named are more in
    climb graph gone met page way.target sourced order named way.one (λ before some. subst (IsGood graph met) (that_before way.target.source above before way.at some) up)

-- ---- an order of the reached pairs

record HasOrder (graph : Graph) (rounds : ℕ) : Type 0 where
  pub met : List Pair
  pub order : IsOrder graph [] met
  pub same : (pair : Pair) → is_in met pair ≡ is_in (reach graph rounds) pair

order_front : (graph : Graph) (xs met : List Pair) → Apart xs → ((pair : Pair) → is_in xs pair ≡ true → is_held graph.held pair.page ≡ true)
    → ((pair : Pair) → is_in xs pair ≡ true → is_in met pair ≡ false) → ((pair : Pair) → is_in xs pair ≡ true → is_named (seen_by graph met) pair ≡ true)
    → IsOrder graph [] met → IsOrder graph [] (xs ++ met)
order_front graph [] met apart held none named order = order
order_front graph (one ∷ xs) met apart held none named order =
    let first = is_in_head one xs in
    let later : (pair : Pair) → is_in xs pair ≡ true → is_in (one ∷ xs) pair ≡ true = λ pair there. or_right (same_pair pair one) (is_in xs pair) there in (
      held one first,
      is_in_append xs met one ∙ or_from (is_in xs one) (is_in met one) apart.0 (none one first),
      same_named graph met (xs ++ met) one (λ p there. is_in_append xs met p ∙ or_right (is_in xs p) (is_in met p) there) (named one first),
      order_front graph xs met apart.1 (λ p there. held p (later p there)) (λ p there. none p (later p there)) (λ p there. named p (later p there)) order,
    )

not_false : (b : Bool) → not b ≡ true → b ≡ false
not_false false is = refl
not_false true is = absurd (false≢true is)

next_named : (graph : Graph) (rounds : ℕ) (met : List Pair) (pair : Pair) → ((p : Pair) → is_in met p ≡ is_in (reach graph rounds) p) → is_in met pair ≡ false
    → is_in (reach graph (suc rounds)) pair ≡ true → is_named (seen_by graph met) pair ≡ true
next_named graph rounds met pair same none there =
    let before = is_in (reach graph rounds) pair in
    let named = is_named (flat_map graph.targets (reach graph rounds)) pair in
    elim (or_cases before named (and_parts (is_held graph.held pair.page) (before || named) (sym (reach_one graph rounds pair) ∙ there)).1) [
      | inl old ↦ absurd (false≢true (sym none ∙ same pair ∙ old))
      | inr new ↦ (let from = named_from graph.targets (reach graph rounds) pair new in
          named_append graph.roots (flat_map graph.targets met) pair
          ∙ or_right (is_named graph.roots pair) (is_named (flat_map graph.targets met) pair)
          (named_to graph.targets met from.source pair (same from.source ∙ from.there) from.names))
    ]

member_case : (graph : Graph) (rounds : ℕ) (met : List Pair) (pair : Pair) (b : Bool) → is_in met pair ≡ b → is_in (reach graph (suc rounds)) pair ≡ true
    → (is_in (filter (λ p. not (is_in met p)) (reach graph (suc rounds))) pair || is_in met pair) ≡ true
member_case graph rounds met pair true is there = or_right (is_in (filter (λ p. not (is_in met p)) (reach graph (suc rounds))) pair) (is_in met pair) is
member_case graph rounds met pair false is there =
    or_left (is_in (filter (λ p. not (is_in met p)) (reach graph (suc rounds))) pair) (is_in met pair)
    (is_in_filter (λ p. not (is_in met p)) (reach graph (suc rounds)) pair ∙ and_from (is_in (reach graph (suc rounds)) pair) (not (is_in met pair)) there (ap not is))

order_rounds : (graph : Graph) (rounds : ℕ) → IsGraph graph → HasOrder graph rounds
order_rounds graph zero good =
    let first = reach graph 0 in
    record {
      met = first ++ [];
      order = order_front graph first [] (apart_reach graph 0 (differ graph.held good.rising)) (reach_held graph 0) (λ pair there. refl) (λ pair there.
          named_append graph.roots (flat_map graph.targets []) pair
          ∙ or_left (is_named graph.roots pair) (is_named (flat_map graph.targets []) pair)
          (and_parts (is_held graph.held pair.page) (is_named graph.roots pair) (sym (reach_none graph pair) ∙ there)).1) tt;
      same = λ pair. ap (λ pairs. is_in pairs pair) (append-nil first);
    }
order_rounds graph (suc rounds) good =
    let before = order_rounds graph rounds good in
    let met = before.met in
    let next = reach graph (suc rounds) in
    let xs = filter (λ p. not (is_in met p)) next in
    let parts : (pair : Pair) → is_in xs pair ≡ true → (is_in next pair ≡ true) × (is_in met pair ≡ false) = λ pair there.
    let both = and_parts (is_in next pair) (not (is_in met pair)) (sym (is_in_filter (λ p. not (is_in met p)) next pair) ∙ there) in
    (both.0, not_false (is_in met pair) both.1) in
    record {
      met = xs ++ met;
      order = order_front graph xs met (apart_filter (λ p. not (is_in met p)) next (apart_reach graph (suc rounds) (differ graph.held good.rising)))
          (λ pair there. reach_held graph (suc rounds) pair (parts pair there).0) (λ pair there. (parts pair there).1)
          (λ pair there. next_named graph rounds met pair before.same (parts pair there).1 (parts pair there).0) before.order;
      same = λ pair. same_answer (is_in (xs ++ met) pair) (is_in next pair)
          (λ there. elim (or_cases (is_in xs pair) (is_in met pair) (sym (is_in_append xs met pair) ∙ there)) [
            | inl new ↦ (parts pair new).0
            | inr old ↦ reach_stays graph rounds pair (sym (before.same pair) ∙ old)
          ])
          (λ there. is_in_append xs met pair ∙ member_case graph rounds met pair (is_in met pair) refl there);
    }

-- ---- the end: what is left is reached

-- two lists of the same pairs name the same together
seen_same : (graph : Graph) (some others : List Pair) → Apart some → Apart others → ((pair : Pair) → is_in some pair ≡ is_in others pair)
    → IsPermutation (seen_by graph some) (seen_by graph others)
seen_same graph some others apart differ same =
    IsPermutation-append_right graph.roots (flat_map graph.targets some) (flat_map graph.targets others) (same_pieces graph.targets some others apart differ same)

zero_case : (many : ℕ) (b : Bool) → (many == 0) ≡ b → 0 < many → not (many == 0) ≡ true
zero_case many true is some = absurd (let none = eqb-true many 0 is in omega (arith, none, some))
zero_case many false is some = ap not is

marked_case : (seen : List Target) (all : Sums) (pair : Pair) (o : Option ℕ) → AreSums seen all → rank_of all.held pair.page ≡ o → is_held all.held pair.page ≡ true
    → is_named seen pair ≡ true → marked_by all pair o ≡ true
marked_case seen all pair None are ranked held named = absurd (false≢true (sym (ap is_some ranked) ∙ rank_is_some all.held pair.page ∙ held))
marked_case seen all pair (Some rank) are ranked held named =
    let many = many_of (get_or all.sums rank nothing) pair.role in
    let some = named_some seen pair named in
    zero_case many (many == 0) refl (omega (arith, some, many_at seen all pair rank are ranked))

marked_in : (seen : List Target) (all : Sums) (pair : Pair) → AreSums seen all → is_held all.held pair.page ≡ true → is_named seen pair ≡ true → is_marked_in all pair ≡ true
marked_in seen all pair are held named = marked_case seen all pair (rank_of all.held pair.page) are refl held named

pub follow_end : (graph : Graph) (state : Fall) → IsGraph graph → IsSourced graph → IsFalling graph [] state → AllHaveWays state.sums state.lost → HasFollowed graph state.sums
follow_end graph state good sourced is ways =
    let met = is.met in
    let seen = seen_by graph met in
    let parts : (pair : Pair) → is_in met pair ≡ true → (is_named seen pair ≡ true) × (is_held graph.held pair.page ≡ true) = λ pair there.
    and_parts (is_named seen pair) (is_held graph.held pair.page) (sym (is.marked pair) ∙ there) in
    let named : AllNamed graph met = λ pair there. (parts pair there).0 in
    let known : (pair : Pair) → is_in met pair ≡ true → IsReached graph pair =
    still_reached graph is.gone met is.order named (λ pair there in_gone.
    let lost : is_in state.lost pair ≡ true = sym (or_none (is_in state.lost pair)) ∙ is.lost pair in_gone in
    let marked = marked_in seen state.sums pair is.are (ap (λ held. is_held held pair.page) is.held_is ∙ (parts pair there).1) (parts pair there).0 in
    inr (way_good graph is.gone met state.sums pair.page sourced is.order named is.are (ways pair lost marked) pair there refl)) in
    let same = marked_are graph met good known (λ pair by held. is.marked pair ∙ and_from (is_named seen pair) (is_held graph.held pair.page) by held) in
    let ordered = order_rounds graph (4 * length graph.held) good in
    record {
      held_is = is.held_is;
      met = ordered.met;
      order = ordered.order;
      same = ordered.same;
      are = sums_same seen (seen_by graph ordered.met) state.sums
          (seen_same graph met ordered.met (order_apart graph is.gone met is.order) (order_apart graph [] ordered.met ordered.order) (λ pair. same pair ∙ sym (ordered.same pair))) is.are;
    }

-- ---- the start

order_named : (graph : Graph) (met : List Pair) → IsOrder graph [] met → (pair : Pair) → is_in met pair ≡ true → is_named (seen_by graph met) pair ≡ true
order_named graph [] order pair there = absurd (false≢true there)
order_named graph (one ∷ met) order pair there =
    same_named graph met (one ∷ met) pair (λ p in_met. or_right (same_pair p one) (is_in met p) in_met)
    (elim (or_cases (same_pair pair one) (is_in met pair) there) [
      | inl same ↦ ap (is_named (seen_by graph met)) (same_is pair one same) ∙ order.2
      | inr more ↦ order_named graph met order.3 pair more
    ])

-- the reached pairs are the held ones that roots and reached pairs name
followed_marked : (graph : Graph) (met : List Pair) (pair : Pair) → IsGraph graph → IsOrder graph [] met → ((p : Pair) → is_in met p ≡ is_in (reached graph) p)
    → is_in met pair ≡ (is_named (seen_by graph met) pair && is_held graph.held pair.page)
followed_marked graph met pair good order same =
    same_answer (is_in met pair) (is_named (seen_by graph met) pair && is_held graph.held pair.page)
    (λ there. and_from (is_named (seen_by graph met) pair) (is_held graph.held pair.page) (order_named graph met order pair there) (order_held graph [] met order pair there))
    (λ both. let parts = and_parts (is_named (seen_by graph met) pair) (is_held graph.held pair.page) both in
    same pair ∙ reach_enough graph pair good (named_reached graph met pair
    (λ p there. record { rounds = 4 * length graph.held; there = sym (same p) ∙ there }) parts.1 parts.0))

-- whether a pair is named the sums tell
named_case : (seen : List Target) (all : Sums) (pair : Pair) (o : Option ℕ) → AreSums seen all → rank_of all.held pair.page ≡ o → marked_by all pair o ≡ true
    → (is_held all.held pair.page ≡ true) × (is_named seen pair ≡ true)
named_case seen all pair None are ranked marked = absurd (false≢true marked)
named_case seen all pair (Some rank) are ranked marked =
    let many = many_of (get_or all.sums rank nothing) pair.role in
    let other = eqb-false many 0 (not_false (many == 0) marked) in
    let there = many_at seen all pair rank are ranked in (
      sym (rank_is_some all.held pair.page) ∙ ap is_some ranked,
      some_named seen pair (omega (arith, other, there)),
    )

-- so the sums tell which pairs are reached
pub met_marked : (graph : Graph) (all : Sums) (pair : Pair) → IsGraph graph → (followed : HasFollowed graph all) → is_in followed.met pair ≡ is_marked_in all pair
met_marked graph all pair good followed =
    let met = followed.met in
    let seen = seen_by graph met in
    let is = followed_marked graph met pair good followed.order followed.same in
    same_answer (is_in met pair) (is_marked_in all pair)
    (λ there. let parts = and_parts (is_named seen pair) (is_held graph.held pair.page) (sym is ∙ there) in
    marked_in seen all pair followed.are (ap (λ held. is_held held pair.page) followed.held_is ∙ parts.1) parts.0)
    (λ marked. let parts = named_case seen all pair (rank_of all.held pair.page) followed.are refl marked in
    is ∙ and_from (is_named seen pair) (is_held graph.held pair.page) parts.1 (ap (λ held. is_held held pair.page) (sym followed.held_is) ∙ parts.0))

start_exchange : (graph : Graph) (all : Sums) (come gone : List Target) → (can : CanFollow graph all come gone) → IsExchange can.before graph (pairs_in gone) can.followed.met
start_exchange graph all come gone can = record {
  held = λ pair there. ap (λ held. is_held held pair.page) (sym can.held) ∙ order_held can.before [] can.followed.met can.followed.order pair there;
  roots = λ pair named. ap (λ b. b || is_named graph.roots pair) (in_pairs_of gone pair) ∙ can.roots pair named;
  targets = λ source pair there named. ap (λ b. b || is_named (graph.targets source) pair) (in_pairs_of gone pair) ∙ can.targets source pair there named;
}

start_rising : (graph : Graph) (all : Sums) (come gone : List Target) → (can : CanFollow graph all come gone)
    → IsRising graph (pairs_in gone) can.followed.met (seen_by can.before can.followed.met) (record { sums = all; named = []; todo = [] })
start_rising graph all come gone can =
    let followed = can.followed in
    let met = followed.met in
    record {
      held_is = followed.held_is ∙ can.held;
      are = followed.are;
      met = met;
      order = order_exchange can.before graph [] (pairs_in gone) met (λ pair none. absurd (false≢true none)) (start_exchange graph all come gone can) followed.order;
      parts = λ pair. refl;
      marked = λ pair. followed_marked can.before met pair can.good followed.order followed.same
          ∙ ap (λ held. is_named (seen_by can.before met) pair && is_held held pair.page) can.held;
      apart = tt;
      new = λ pair none. absurd (false≢true none);
    }

-- what comes is added
pub come_rising : (graph : Graph) (all : Sums) (come gone : List Target) → IsGraph graph → (can : CanFollow graph all come gone)
    → IsRising graph (pairs_in gone) can.followed.met (come ++ seen_by can.before can.followed.met) (rose_all (record { sums = all; named = []; todo = [] }) come)
unfolding rose_all
come_rising graph all come gone good can =
    (rising_all graph (pairs_in gone) can.followed.met (seen_by can.before can.followed.met) come (record { sums = all; named = []; todo = [] }) good (start_rising graph all come gone can) can.names).rising

-- what rose, what was reached, and what goes
pub both_apart : (some others : List Pair) → Apart some → Apart others → ((pair : Pair) → is_in some pair ≡ true → is_in others pair ≡ false) → Apart (some ++ others)
both_apart [] others apart differ none = differ
both_apart (one ∷ some) others apart differ none = (
  is_in_append some others one ∙ or_from (is_in some one) (is_in others one) apart.0 (none one (is_in_head one some)),
  both_apart some others apart.1 differ (λ pair there. none pair (or_right (same_pair pair one) (is_in some pair) there)),
)

turned : (graph : Graph) (todo base met : List Pair) (gone : List Target) → Apart (todo ++ base) → Apart met → ((pair : Pair) → is_in (todo ++ base) pair ≡ is_in met pair)
    → IsPermutation (flat_map graph.targets todo ++ (gone ++ seen_by graph base)) (gone ++ seen_by graph met)
turned graph todo base met gone apart differ same =
    let a = flat_map graph.targets todo in
    let b = flat_map graph.targets base in
    let pieces : IsPermutation (seen_by graph (todo ++ base)) (seen_by graph met) = seen_same graph (todo ++ base) met apart differ same in
    let whole : graph.roots ++ (a ++ b) ≡ seen_by graph (todo ++ base) = ap (λ rest. graph.roots ++ rest) (sym (flat_map-append graph.targets todo base)) in
    let one : IsPermutation (a ++ (gone ++ (graph.roots ++ b))) (gone ++ (a ++ (graph.roots ++ b))) = to_front a gone (graph.roots ++ b) in
    let two : IsPermutation (gone ++ (a ++ (graph.roots ++ b))) (gone ++ (graph.roots ++ (a ++ b))) =
    IsPermutation-append_right gone (a ++ (graph.roots ++ b)) (graph.roots ++ (a ++ b)) (to_front a graph.roots b) in
    let three : IsPermutation (gone ++ (graph.roots ++ (a ++ b))) (gone ++ seen_by graph met) =
    IsPermutation-append_right gone (graph.roots ++ (a ++ b)) (seen_by graph met) (subst (λ xs. IsPermutation xs (seen_by graph met)) (sym whole) pieces) in
    IsPermutation-trans (a ++ (gone ++ (graph.roots ++ b))) (gone ++ (a ++ (graph.roots ++ b))) (gone ++ seen_by graph met) one
    (IsPermutation-trans (gone ++ (a ++ (graph.roots ++ b))) (gone ++ (graph.roots ++ (a ++ b))) (gone ++ seen_by graph met) two three)

start_falling : (graph : Graph) (all : Sums) (come gone : List Target) (state : Rise) → IsGraph graph → (can : CanFollow graph all come gone)
    → HasRisen graph (pairs_in gone) can.followed.met (come ++ seen_by can.before can.followed.met) state
    → IsFalling graph gone (record { sums = state.sums; lost = []; todo = [] })
start_falling graph all come gone state good can is =
    let base = can.followed.met in
    let a = flat_map graph.targets state.todo in
    let differ = order_apart graph (pairs_in gone) is.met is.order in
    let apart = both_apart state.todo base is.apart (order_apart can.before [] base can.followed.order) is.new in
    let same : (pair : Pair) → is_in (state.todo ++ base) pair ≡ is_in is.met pair = λ pair. is_in_append state.todo base pair ∙ sym (is.parts pair) in
    let perm : IsPermutation (a ++ (come ++ seen_by can.before base)) (gone ++ seen_by graph is.met) =
    IsPermutation-trans (a ++ (come ++ seen_by can.before base)) (a ++ (gone ++ seen_by graph base)) (gone ++ seen_by graph is.met)
    (IsPermutation-append_right a (come ++ seen_by can.before base) (gone ++ seen_by graph base) can.counted)
    (turned graph state.todo base is.met gone apart differ same) in
    record {
      held_is = is.held_is;
      met = is.met;
      are = sums_same (a ++ (come ++ seen_by can.before base)) (gone ++ seen_by graph is.met) state.sums perm is.are;
      gone = pairs_in gone;
      order = is.order;
      lost = λ pair there. sym (in_pairs_of gone pair) ∙ there;
      marked = λ pair. is.marked pair
          ∙ ap (λ n. n && is_held graph.held pair.page) (list_any-IsPermutation (λ target. same_pair pair target.pair) (a ++ (come ++ seen_by can.before base)) (gone ++ seen_by graph is.met) perm);
      apart = tt;
      fallen = λ pair none. absurd (false≢true none);
      todo_held = λ pair none. absurd (false≢true none);
    }

-- what goes is taken back
pub gone_falling : (graph : Graph) (all : Sums) (come gone : List Target) (state : Rise) → IsGraph graph → (can : CanFollow graph all come gone)
    → HasRisen graph (pairs_in gone) can.followed.met (come ++ seen_by can.before can.followed.met) state
    → IsFalling graph (flat_map graph.targets (fell_all (record { sums = state.sums; lost = []; todo = [] }) gone).todo) (fell_all (record { sums = state.sums; lost = []; todo = [] }) gone)
unfolding fell_all
gone_falling graph all come gone state good can is =
    let first : Fall = record { sums = state.sums; lost = []; todo = [] } in
    let start : IsFalling graph (gone ++ []) first =
    subst (λ pending. IsFalling graph pending first) (sym (append-nil gone)) (start_falling graph all come gone state good can is) in
    (fall_all graph 0 gone first good (omega arith) start).falling

-- the sums that the check hands on
pub checked_followed : (graph : Graph) (state : Fall) (found : Option Followed) → IsGraph graph → IsSourced graph → IsFalling graph [] state
    → IfSome found (λ it. it.sums ≡ state.sums) → IfSome found (λ it. AllHaveWays state.sums state.lost) → IfSome found (λ it. HasFollowed graph it.sums)
checked_followed graph state None good sourced is same ways = same
checked_followed graph state (Some it) good sourced is same ways = subst (HasFollowed graph) (sym same) (follow_end graph state good sourced is ways)

-- ---- from nothing

begin_rising : (graph : Graph) (held : List ℕ) → held ≡ graph.held → IsRising graph [] [] [] (record { sums = record { held = held; sums = map (λ page. nothing) held; dead = 0 }; named = []; todo = [] })
begin_rising graph held is = record {
  held_is = is;
  are = sums_none held;
  met = [];
  order = tt;
  parts = λ pair. refl;
  marked = λ pair. refl;
  apart = tt;
  new = λ pair none. absurd (false≢true none);
}

pub roots_rising : (graph : Graph) (held : List ℕ) → IsGraph graph → held ≡ graph.held
    → IsRising graph [] [] (graph.roots ++ []) (rose_all (record { sums = record { held = held; sums = map (λ page. nothing) held; dead = 0 }; named = []; todo = [] }) graph.roots)
unfolding rose_all
roots_rising graph held good is =
    (rising_all graph [] [] [] graph.roots (record { sums = record { held = held; sums = map (λ page. nothing) held; dead = 0 }; named = []; todo = [] }) good (begin_rising graph held is)
    (λ pair named. named_append graph.roots (flat_map graph.targets []) pair ∙ or_left (is_named graph.roots pair) (is_named (flat_map graph.targets []) pair) named)).rising

pub begin_end : (graph : Graph) (state : Rise) → IsGraph graph → HasRisen graph [] [] (graph.roots ++ []) state → HasFollowed graph state.sums
begin_end graph state good is =
    let met = is.met in
    let seen = flat_map graph.targets state.todo ++ (graph.roots ++ []) in
    let apart = both_apart state.todo [] is.apart tt (λ pair there. refl) in
    let same : (pair : Pair) → is_in (state.todo ++ []) pair ≡ is_in met pair = λ pair. is_in_append state.todo [] pair ∙ sym (is.parts pair) in
    let perm : IsPermutation seen (seen_by graph met) = turned graph state.todo [] met [] apart (order_apart graph [] met is.order) same in
    let closed : IsClosed graph met = λ pair named held. is.marked pair
    ∙ and_from (is_named seen pair) (is_held graph.held pair.page)
    (list_any-IsPermutation (λ target. same_pair pair target.pair) seen (seen_by graph met) perm ∙ named) held in
    record {
      held_is = is.held_is;
      met = met;
      order = is.order;
      same = order_is_reach graph met good is.order closed;
      are = sums_same seen (seen_by graph met) state.sums perm is.are;
    }
