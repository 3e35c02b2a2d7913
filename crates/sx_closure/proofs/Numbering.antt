-- The numbers of the pages of chains: each is right, since the page before it was met before it.
use Rattle.std.proofs.Common.{◌≡◌, ℕ, zero, suc, ◌+◌, ◌-◌, ◌*◌, ◌<◌, ◌≤◌, ◌==◌, ◌||◌, Bool, true, false, cond, List, [], ◌∷◌, ◌++◌, length, map, fold, set, get_or, take, drop, ◌⊎◌, inl, inr, Option, Some, None, refl, sym, ap, subst, ◌∙◌, arith, add-mul, one-mul}
use Rattle.std.specs.Option.{option_map}
use Rattle.std.specs.List.{flat_map, All}
use Rattle.std.proofs.lemmas.Bool.{and_parts, or_cases, or_left, or_right, false≢true, eqb-true, eqb-false, eq-eqb, cases_lt}
use Rattle.std.proofs.lemmas.List.{take-append-le, take-take, take_more, take-append-drop, get_or_append_left}
use Rattle.std.proofs.lemmas.List.Concat.{flat_map-append}
use Rattle.std.proofs.lemmas.List.Elements.{All-head, All-tail}
use Rattle.std.proofs.lemmas.List.Sums.{fold_more}
use Rattle.sx_closure.specs.declared.pair.Pair.{Pair}
use Rattle.sx_closure.specs.declared.pair.Source.{Source}
use Rattle.sx_closure.specs.declared.pair.Source.TheVariants.{Root, Cell, Page}
use Rattle.sx_closure.specs.declared.pair.Target.{Target}
use Rattle.sx_closure.specs.Graph.{same_pair, is_in, is_named, comes_from, comes_from_no_page, Graph, IsGraph, is_held, to_page, only}
use Rattle.sx_closure.specs.Chains.{page_of, page_before, rest_of, rest_at, IsChain, is_overflow, IsLeft, number_by, number_of}
use Rattle.sx_closure.specs.Tallying.{Table, blank, rank_of, entry_at, one_of, one_at, left_by_rank, number_at, number_before, numbered_at, numbered, left_at}
use Rattle.sx_closure.proofs.Tallies.{Differ, at_rank, set_at_rank}
use Rattle.sx_closure.proofs.Pairs.{same_is, same_self, is_in_append, or_none}
use Rattle.sx_closure.proofs.Reaching.{named_append, named_from}
use Rattle.sx_closure.proofs.Walks.{seen_by, IsMet, Begins, is_in_at, is_in_take}

-- ---- one page

-- the number of a page is right, whatever the role of its reference
abbrev pub IsNumber : (ℕ → Option Target) → ℕ → ℕ → Option ℕ → Type 0
IsNumber one body page None = (rest : ℕ) (pages : List ℕ) → IsChain one rest (page ∷ pages) → ⊥
IsNumber one body page (Some left) = (rest : ℕ) × (pages : List ℕ) × IsChain one rest (page ∷ pages) × (left ≡ rest - length pages * body)

-- a reference that comes from no cell and no page ends no chain
chain_ends : (one : ℕ → Option Target) (page rest : ℕ) (pages : List ℕ) → rest_at (one page) ≡ None → page_before (one page) ≡ None
    → IsChain one rest (page ∷ pages) → ⊥
chain_ends one page rest [] none before chain = let never : None ≡ Some rest = sym none ∙ chain in cc
chain_ends one page rest (next ∷ pages) none before chain = let never : None ≡ Some next = sym before ∙ chain.0 in cc

-- one that comes from a page goes on there
chain_on : (one : ℕ → Option Target) (page before rest : ℕ) (pages : List ℕ) → rest_at (one page) ≡ None → page_before (one page) ≡ Some before
    → ((rest : ℕ) (pages : List ℕ) → IsChain one rest (before ∷ pages) → ⊥) → IsChain one rest (page ∷ pages) → ⊥
chain_on one page before rest [] none is never chain = let other : None ≡ Some rest = sym none ∙ chain in cc
chain_on one page before rest (next ∷ pages) none is never chain =
    let both : Some before ≡ Some next = sym is ∙ chain.0 in
    let same : before ≡ next = cc in
    never rest pages (subst (λ number. IsChain one rest (number ∷ pages)) (sym same) chain.1)

body_less : (left rest count body : ℕ) → left ≡ rest - count * body → left - body ≡ rest - (count + 1) * body
body_less left rest count body is =
    let parts : (count + 1) * body ≡ count * body + body = grind (arith, add-mul, one-mul) in
    omega (arith, is, parts)

page_case : (one : ℕ → Option Target) (body page before rest : ℕ) (left : Option ℕ) → rest_at (one page) ≡ None → page_before (one page) ≡ Some before
    → IsNumber one body before left → IsNumber one body page (number_by body (Page before) rest left)
page_case one body page before rest None none is number = λ r pages chain. chain_on one page before r pages none is number chain
page_case one body page before rest (Some left) none is number =
    let one_more : length number.1 + 1 ≡ length (before ∷ number.1) = omega arith in
    (number.0, before ∷ number.1, (is, number.2), body_less left number.0 (length number.1) body number.3 ∙ ap (λ count. number.0 - count * body) one_more)

source_case : (one : ℕ → Option Target) (body page rest : ℕ) (source : Source) (left : Option ℕ) → rest_at (one page) ≡ rest_of source rest
    → page_before (one page) ≡ page_of source → ((before : ℕ) → page_of source ≡ Some before → IsNumber one body before left)
    → IsNumber one body page (number_by body source rest left)
source_case one body page rest Root left ends before known = λ r pages chain. chain_ends one page r pages ends before chain
source_case one body page rest (Cell number cell) left ends before known = (rest, [], ends, omega arith)
source_case one body page rest (Page number) left ends before known = page_case one body page number rest left ends before (known number refl)

-- the number of a page by that of the page before it
pub number_step : (one : ℕ → Option Target) (body page : ℕ) (left : Option ℕ) (at : Option Target) → one page ≡ at
    → ((before : ℕ) → page_before at ≡ Some before → IsNumber one body before left) → IsNumber one body page (number_of body at left)
number_step one body page left None is known = λ rest pages chain. chain_ends one page rest pages (ap rest_at is) (ap page_before is) chain
number_step one body page left (Some target) is known = source_case one body page target.rest target.source left (ap rest_at is) (ap page_before is) known

placed_case : (one : ℕ → Option Target) (body page : ℕ) (left : Option ℕ) (b : Bool) → is_overflow (one page) ≡ b → IsNumber one body page left
    → IsLeft one body page (cond b left None)
placed_case one body page left false is number = λ place rest placed. false≢true (sym is ∙ placed.role)
placed_case one body page None true is number = λ place rest placed. number rest placed.before placed.chain
placed_case one body page (Some left) true is number =
    let pages = number.1 in (
      length pages + 1,
      number.0,
      record { before = pages; chain = number.2; long = refl; role = is },
      number.3 ∙ ap (λ count. number.0 - count * body) (omega arith),
    )

pub left_is : (one : ℕ → Option Target) (body page : ℕ) (left : Option ℕ) → IsNumber one body page left
    → IsLeft one body page (cond (is_overflow (one page)) left None)
left_is one body page left number = placed_case one body page left (is_overflow (one page)) refl number

-- ---- the order in which pairs are met

-- each pair met is named by a root, or by a pair that was met before it
abbrev pub IsNamed : Graph → List Pair → Type 0
IsNamed graph met = (i : ℕ) (d : Pair) → i < length met → is_named (seen_by graph (take i met)) (get_or met i d) ≡ true

more_case : (a b c : Bool) → (b ≡ true → c ≡ true) → (a || b) ≡ true → (a || c) ≡ true
more_case true b c more there = refl
more_case false true c more there = more refl
more_case false false c more there = absurd (false≢true there)

-- more pairs name no fewer
seen_more : (graph : Graph) (some others : List Pair) (pair : Pair) → is_named (seen_by graph some) pair ≡ true → is_named (seen_by graph (some ++ others)) pair ≡ true
seen_more graph some others pair named =
    let front = is_named (flat_map graph.targets some) pair in
    let back = is_named (flat_map graph.targets others) pair in
    let whole : is_named (flat_map graph.targets (some ++ others)) pair ≡ (front || back) =
    ap (λ targets. is_named targets pair) (flat_map-append graph.targets some others) ∙ named_append (flat_map graph.targets some) (flat_map graph.targets others) pair in
    named_append graph.roots (flat_map graph.targets (some ++ others)) pair
    ∙ more_case (is_named graph.roots pair) front (is_named (flat_map graph.targets (some ++ others)) pair)
    (λ there. whole ∙ or_left front back there)
    (sym (named_append graph.roots (flat_map graph.targets some) pair) ∙ named)

seen_take : (graph : Graph) (met : List Pair) (n i : ℕ) (pair : Pair) → n ≤ i → is_named (seen_by graph (take n met)) pair ≡ true → is_named (seen_by graph (take i met)) pair ≡ true
seen_take graph met n i pair below named =
    let whole : take n met ++ drop n (take i met) ≡ take i met = ap (λ front. front ++ drop n (take i met)) (sym (take-take n i met below)) ∙ take-append-drop n (take i met) in
    subst (λ all. is_named (seen_by graph all) pair ≡ true) whole (seen_more graph (take n met) (drop n (take i met)) pair named)

met_named : (held : List ℕ) (seen : List Target) (met : List Pair) (i : ℕ) (d : Pair) → IsMet held seen met → i < length met → is_named seen (get_or met i d) ≡ true
met_named held seen met i d is within =
    let pair = get_or met i d in
    let there : is_in met pair ≡ true = is_in_take met (i + 1) pair (is_in_at met i d within) in
    (and_parts (is_named seen pair) (is_held held pair.page) (sym (is.same pair) ∙ there)).0

-- at first all are named by roots
pub named_start : (graph : Graph) (held : List ℕ) (met : List Pair) → IsMet held graph.roots met → IsNamed graph met
named_start graph held met is i d within =
    named_append graph.roots (flat_map graph.targets (take i met)) (get_or met i d)
    ∙ or_left (is_named graph.roots (get_or met i d)) (is_named (flat_map graph.targets (take i met)) (get_or met i d)) (met_named held graph.roots met i d is within)

named_case : (graph : Graph) (held : List ℕ) (before now : List Pair) (next i : ℕ) (d : Pair) → IsNamed graph before → Begins before now → next ≤ length before
    → IsMet held (seen_by graph (take next now)) now → i < length now → (i < length before) ⊎ (length before ≤ i)
    → is_named (seen_by graph (take i now)) (get_or now i d) ≡ true
named_case graph held before now next i d named begins past is within (inl old) =
    let front : take i now ≡ take i before = ap (take i) begins.joined ∙ take-append-le i before begins.more (omega arith) in
    let same : get_or now i d ≡ get_or before i d = ap (λ pairs. get_or pairs i d) begins.joined ∙ get_or_append_left before begins.more d i old in
    rw (front, same) (named i d old)
named_case graph held before now next i d named begins past is within (inr new) =
    seen_take graph now next i (get_or now i d) (omega arith) (met_named held (seen_by graph (take next now)) now i d is within)

-- then each new one by the pair that was asked
pub named_more : (graph : Graph) (held : List ℕ) (before now : List Pair) (next : ℕ) → IsNamed graph before → Begins before now → next ≤ length before
    → IsMet held (seen_by graph (take next now)) now → IsNamed graph now
named_more graph held before now next named begins past is i d within =
    named_case graph held before now next i d named begins past is within (cases_lt i (length before))

-- ---- where the one reference to a page stands

-- the target stands in the list
abbrev pub Among : List Target → Target → Type 0
Among [] target = ⊥
Among (one ∷ targets) target = (one ≡ target) ⊎ Among targets target

among_left : (some others : List Target) (target : Target) → Among some target → Among (some ++ others) target
among_left [] others target there = absurd there
among_left (one ∷ some) others target (inl is) = inl is
among_left (one ∷ some) others target (inr there) = inr (among_left some others target there)

among_right : (some others : List Target) (target : Target) → Among others target → Among (some ++ others) target
among_right [] others target there = there
among_right (one ∷ some) others target there = inr (among_right some others target there)

among_pieces : (targets : Pair → List Target) (pairs : List Pair) (source : Pair) (target : Target) → is_in pairs source ≡ true → Among (targets source) target
    → Among (flat_map targets pairs) target
among_pieces targets [] source target there among = absurd (false≢true there)
among_pieces targets (pair ∷ pairs) source target there among =
    elim (or_cases (same_pair source pair) (is_in pairs source) there) [
      | inl same ↦ among_left (targets pair) (flat_map targets pairs) target (subst (λ p. Among (targets p) target) (same_is source pair same) among)
      | inr more ↦ among_right (targets pair) (flat_map targets pairs) target (among_pieces targets pairs source target more among)
    ]

among_case : (page : ℕ) (one target : Target) (targets : List Target) (b : Bool) → (one.pair.page == page) ≡ b → target.pair.page ≡ page
    → (one ≡ target) ⊎ Among targets target → (Among targets target → Among (to_page page targets) target)
    → Among (cond b (one ∷ to_page page targets) (to_page page targets)) target
among_case page one target targets true is at (inl same) more = inl same
among_case page one target targets true is at (inr there) more = inr (more there)
among_case page one target targets false is at (inl same) more =
    absurd (false≢true (sym is ∙ eq-eqb one.pair.page page (ap (λ t. t.pair.page) same ∙ at)))
among_case page one target targets false is at (inr there) more = more there

pub among_page : (page : ℕ) (target : Target) (targets : List Target) → target.pair.page ≡ page → Among targets target → Among (to_page page targets) target
among_page page target [] at there = absurd there
among_page page target (one ∷ targets) at there =
    among_case page one target targets (one.pair.page == page) refl at there (among_page page target targets at)

pub only_is : (targets : List Target) (target other : Target) → only targets ≡ Some target → Among targets other → other ≡ target
only_is [] target other one there = absurd there
only_is (first ∷ []) target other one (inl is) = let both : Some first ≡ Some target = one in let same : first ≡ target = cc in sym is ∙ same
only_is (first ∷ []) target other one (inr there) = absurd there
only_is (first ∷ second ∷ more) target other one there = let never : None ≡ Some target = one in cc

-- the one target of a page stands in the list, and names the page
pub only_among : (targets : List Target) (target : Target) → only targets ≡ Some target → Among targets target
only_among [] target one = let never : None ≡ Some target = one in cc
only_among (first ∷ []) target one = let both : Some first ≡ Some target = one in let same : first ≡ target = cc in inl same
only_among (first ∷ second ∷ more) target one = let never : None ≡ Some target = one in cc

of_page : (page : ℕ) (one target : Target) (targets : List Target) (b : Bool) → (one.pair.page == page) ≡ b → Among (cond b (one ∷ to_page page targets) (to_page page targets)) target
    → (Among (to_page page targets) target → Among targets target × (target.pair.page ≡ page)) → ((one ≡ target) ⊎ Among targets target) × (target.pair.page ≡ page)
of_page page one target targets true is (inl same) more = (inl same, ap (λ t. t.pair.page) (sym same) ∙ eqb-true one.pair.page page is)
of_page page one target targets true is (inr there) more = let rest = more there in (inr rest.0, rest.1)
of_page page one target targets false is there more = let rest = more there in (inr rest.0, rest.1)

pub page_among : (page : ℕ) (target : Target) (targets : List Target) → Among (to_page page targets) target → Among targets target × (target.pair.page ≡ page)
page_among page target [] there = absurd there
page_among page target (one ∷ targets) there = of_page page one target targets (one.pair.page == page) refl there (page_among page target targets)

pub among_named : (targets : List Target) (target : Target) → Among targets target → is_named targets target.pair ≡ true
among_named [] target there = absurd there
among_named (one ∷ targets) target (inl is) = or_left (same_pair target.pair one.pair) (is_named targets target.pair) (ap (λ t. same_pair target.pair t.pair) is ∙ same_self target.pair)
among_named (one ∷ targets) target (inr there) = or_right (same_pair target.pair one.pair) (is_named targets target.pair) (among_named targets target there)

pub only_named : (page : ℕ) (targets : List Target) (target : Target) → only (to_page page targets) ≡ Some target
    → (is_named targets target.pair ≡ true) × (target.pair.page ≡ page)
only_named page targets target one =
    let found = page_among page target targets (only_among (to_page page targets) target one) in
    (among_named targets target found.0, found.1)

-- a target that names a pair, with what holds of each
pub record IsNaming (P : Target → Type 0) (targets : List Target) (pair : Pair) : Type 0 where
  pub target : Target
  pub among : Among targets target
  pub holds : P target
  pub names : same_pair pair target.pair ≡ true

naming_case : (P : Target → Type 0) (one : Target) (targets : List Target) (pair : Pair) (b : Bool) → same_pair pair one.pair ≡ b → P one
    → (b || is_named targets pair) ≡ true → (is_named targets pair ≡ true → IsNaming P targets pair) → IsNaming P (one ∷ targets) pair
naming_case P one targets pair true is holds named more = record { target = one; among = inl refl; holds = holds; names = is }
naming_case P one targets pair false is holds named more =
    let rest = more named in
    record { target = rest.target; among = inr rest.among; holds = rest.holds; names = rest.names }

naming : (P : Target → Type 0) (targets : List Target) (pair : Pair) → All P targets → is_named targets pair ≡ true → IsNaming P targets pair
naming P [] pair each named = absurd (false≢true named)
naming P (one ∷ targets) pair each named =
    naming_case P one targets pair (same_pair pair one.pair) refl (All-head P one targets each) named (naming P targets pair (All-tail P one targets each))

-- the pair of a page was met
pub record IsMetAt (pairs : List Pair) (page : ℕ) : Type 0 where
  pub pair : Pair
  pub there : is_in pairs pair ≡ true
  pub at : pair.page ≡ page

no_page : (source : Source) (page : ℕ) → comes_from_no_page source ≡ true → page_of source ≡ Some page → ⊥
no_page Root page holds is = let never : None ≡ Some page = is in cc
no_page (Cell number cell) page holds is = let never : None ≡ Some page = is in cc
no_page (Page number) page holds is = false≢true holds

that_page : (source : Source) (from page : ℕ) → comes_from from source ≡ true → page_of source ≡ Some page → from ≡ page
that_page Root from page holds is = let never : None ≡ Some page = is in cc
that_page (Cell number cell) from page holds is = let never : None ≡ Some page = is in cc
that_page (Page number) from page holds is = let both : Some number ≡ Some page = is in let same : number ≡ page = cc in sym (eqb-true number from holds) ∙ same

-- what a target of the list that names a pair is: the one reference to its page
naming_one : (P : Target → Type 0) (some seen : List Target) (pair : Pair) (target : Target) (named : IsNaming P some pair) → Among seen named.target
    → only (to_page pair.page seen) ≡ Some target → named.target ≡ target
naming_one P some seen pair target named among one =
    let same : pair ≡ named.target.pair = same_is pair named.target.pair named.names in
    only_is (to_page pair.page seen) target named.target one (among_page pair.page named.target seen (sym (ap (λ p. p.page) same)) among)

-- the one reference to a page that was met stands in a page that was met before it
pub came_from : (graph : Graph) (met : List Pair) (i page : ℕ) (d : Pair) (target : Target) → IsGraph graph → IsNamed graph met → i < length met
    → only (to_page (get_or met i d).page (seen_by graph met)) ≡ Some target → page_of target.source ≡ Some page → IsMetAt (take i met) page
came_from graph met i page d target is named within one from =
    let pair = get_or met i d in
    let asked = take i met in
    let names : (is_named graph.roots pair || is_named (flat_map graph.targets asked) pair) ≡ true =
    sym (named_append graph.roots (flat_map graph.targets asked) pair) ∙ named i d within in
    elim (or_cases (is_named graph.roots pair) (is_named (flat_map graph.targets asked) pair) names) [
      | inl root ↦
          let found = naming (λ t. comes_from_no_page t.source ≡ true) graph.roots pair is.root_sources root in
          let same = naming_one (λ t. comes_from_no_page t.source ≡ true) graph.roots (seen_by graph met) pair target found
          (among_left graph.roots (flat_map graph.targets met) found.target found.among) one in
          absurd (no_page found.target.source page found.holds (ap (λ t. page_of t.source) same ∙ from))
      | inr more ↦
          let source = named_from graph.targets asked pair more in
          let found = naming (λ t. comes_from source.source.page t.source ≡ true) (graph.targets source.source) pair (is.sources source.source) source.names in
          let there : is_in met source.source ≡ true = is_in_take met i source.source source.there in
          let same = naming_one (λ t. comes_from source.source.page t.source ≡ true) (graph.targets source.source) (seen_by graph met) pair target found
          (among_right graph.roots (flat_map graph.targets met) found.target (among_pieces graph.targets met source.source found.target there found.among)) one in
          record { pair = source.source; there = source.there; at = that_page found.target.source source.source.page page found.holds (ap (λ t. page_of t.source) same ∙ from) }
    ]

-- ---- the pages numbered in the order in which they were met

-- so many of the pairs met have been numbered
pub record IsNumbering (one : ℕ → Option Target) (body : ℕ) (first : Table) (asked : List Pair) (table : Table) : Type 0 where
  pub held_is : table.held ≡ first.held
  pub entries_is : table.entries ≡ first.entries
  pub dead_is : table.dead ≡ first.dead
  pub left : ℕ → Option ℕ
  pub lefts_is : table.lefts ≡ map left first.held
  pub none : (page : ℕ) → one page ≡ None → left page ≡ None
  pub right : (pair : Pair) → is_in asked pair ≡ true → IsNumber one body pair.page (left pair.page)

-- the one reference of each page is that of the table with which the numbering began
abbrev pub HasOnes : (ℕ → Option Target) → Table → Type 0
HasOnes one first = (page : ℕ) → one_at first page ≡ one page

-- a page that isn't held has none
not_held : (one : ℕ → Option Target) (first : Table) (page : ℕ) → HasOnes one first → rank_of first.held page ≡ None → one page ≡ None
not_held one first page ones ranked =
    sym (ones page) ∙ ap (λ o. one_of page (option_map (λ rank. get_or first.entries rank blank) o)) ranked

one_same : (one : ℕ → Option Target) (body : ℕ) (first table : Table) (asked : List Pair) (page : ℕ) → HasOnes one first → IsNumbering one body first asked table
    → one_at table page ≡ one page
one_same one body first table asked page ones is =
    ap (λ held. one_of page (entry_at held table.entries page)) is.held_is ∙ ap (λ entries. one_of page (entry_at first.held entries page)) is.entries_is ∙ ones page

number_case : (one : ℕ → Option Target) (body : ℕ) (first table : Table) (asked : List Pair) (page : ℕ) → HasOnes one first
    → (is : IsNumbering one body first asked table) → (o : Option ℕ) → rank_of first.held page ≡ o → left_by_rank table.lefts o ≡ is.left page
number_case one body first table asked page ones is None ranked = sym (is.none page (not_held one first page ones ranked))
number_case one body first table asked page ones is (Some rank) ranked =
    ap (λ lefts. get_or lefts rank None) is.lefts_is ∙ at_rank first.held page rank is.left None ranked

number_is : (one : ℕ → Option Target) (body : ℕ) (first table : Table) (asked : List Pair) (page : ℕ) → HasOnes one first
    → (is : IsNumbering one body first asked table) → number_at table page ≡ is.left page
number_is one body first table asked page ones is =
    ap (λ held. left_by_rank table.lefts (rank_of held page)) is.held_is
    ∙ number_case one body first table asked page ones is (rank_of first.held page) refl

-- a page without a reference
none_number : (one : ℕ → Option Target) (body page : ℕ) → one page ≡ None → IsNumber one body page None
none_number one body page is = λ rest pages chain. chain_ends one page rest pages (ap rest_at is) (ap page_before is) chain

before_case : (one : ℕ → Option Target) (body : ℕ) (first table : Table) (asked : List Pair) (before : ℕ) → (is : IsNumbering one body first asked table)
    → (at : Option Target) → one before ≡ at → ((target : Target) → at ≡ Some target → IsMetAt asked before) → IsNumber one body before (is.left before)
before_case one body first table asked before is None none met =
    subst (IsNumber one body before) (sym (is.none before none)) (none_number one body before none)
before_case one body first table asked before is (Some target) some met =
    let there = met target refl in
    subst (λ page. IsNumber one body page (is.left page)) there.at (is.right there.pair there.there)

-- the page before was met before
abbrev pub IsBehind : (ℕ → Option Target) → List Pair → ℕ → Type 0
IsBehind one asked page = (target other : Target) (before : ℕ) → one page ≡ Some target → page_of target.source ≡ Some before → one before ≡ Some other → IsMetAt asked before

from_target : (at : Option Target) (before : ℕ) → page_before at ≡ Some before → (target : Target) × (at ≡ Some target) × (page_of target.source ≡ Some before)
from_target None before is = let never : None ≡ Some before = is in cc
from_target (Some target) before is = (target, refl, is)

new_number : (one : ℕ → Option Target) (body : ℕ) (first table : Table) (asked : List Pair) (page : ℕ) → HasOnes one first → (is : IsNumbering one body first asked table)
    → IsBehind one asked page → IsNumber one body page (number_of body (one_at table page) (number_before table (page_before (one_at table page))))
new_number one body first table asked page ones is behind =
    let at = one_at table page in
    let same : one page ≡ at = sym (one_same one body first table asked page ones is) in
    number_step one body page (number_before table (page_before at)) at same (λ before from.
    let found = from_target at before from in
    let number : IsNumber one body before (is.left before) = before_case one body first table asked before is (one before) refl
    (λ other some. behind found.0 other before (same ∙ found.1) found.2 some) in
    subst (IsNumber one body before) (sym (number_is one body first table asked before ones is) ∙ ap (number_before table) (sym from)) number)

-- the pages with one number changed
abbrev pub with_number : (ℕ → Option ℕ) → ℕ → Option ℕ → ℕ → Option ℕ
with_number left page number other = cond (other == page) number (left other)

with_none : (left : ℕ → Option ℕ) (page other : ℕ) (number : Option ℕ) (b : Bool) → (other == page) ≡ b → (other ≡ page → number ≡ None) → left other ≡ None
    → cond b number (left other) ≡ None
with_none left page other number true is same old = same (eqb-true other page is)
with_none left page other number false is same old = old

with_right : (one : ℕ → Option Target) (body : ℕ) (left : ℕ → Option ℕ) (page other : ℕ) (number : Option ℕ) (b : Bool) → (other == page) ≡ b
    → IsNumber one body page number → ((other ≡ page → ⊥) → IsNumber one body other (left other)) → IsNumber one body other (cond b number (left other))
with_right one body left page other number true is new old = subst (λ p. IsNumber one body p number) (sym (eqb-true other page is)) new
with_right one body left page other number false is new old = old (eqb-false other page is)

old_right : (one : ℕ → Option Target) (body : ℕ) (left : ℕ → Option ℕ) (asked : List Pair) (pair other : Pair) → ((p : Pair) → is_in asked p ≡ true → IsNumber one body p.page (left p.page))
    → (is_in asked other ≡ true) ⊎ ((same_pair other pair || false) ≡ true) → (other.page ≡ pair.page → ⊥) → IsNumber one body other.page (left other.page)
old_right one body left asked pair other right (inl there) differ = right other there
old_right one body left asked pair other right (inr same) differ =
    absurd (differ (ap (λ p. p.page) (same_is other pair (sym (or_none (same_pair other pair)) ∙ same))))

either_right : (one : ℕ → Option Target) (body : ℕ) (left : ℕ → Option ℕ) (asked : List Pair) (pair other : Pair) → ((p : Pair) → is_in asked p ≡ true → IsNumber one body p.page (left p.page))
    → IsNumber one body pair.page (left pair.page) → (is_in asked other ≡ true) ⊎ ((same_pair other pair || false) ≡ true) → IsNumber one body other.page (left other.page)
either_right one body left asked pair other right new (inl there) = right other there
either_right one body left asked pair other right new (inr same) =
    subst (λ p. IsNumber one body p.page (left p.page)) (sym (same_is other pair (sym (or_none (same_pair other pair)) ∙ same))) new

-- one more pair is numbered
step_case : (one : ℕ → Option Target) (body : ℕ) (first table : Table) (asked : List Pair) (pair : Pair) → Differ first.held → HasOnes one first
    → IsNumbering one body first asked table → IsBehind one asked pair.page → (o : Option ℕ) → rank_of first.held pair.page ≡ o
    → IsNumbering one body first (asked ++ pair ∷ []) (numbered_at body table pair.page o)
step_case one body first table asked pair differ ones is behind None ranked =
    let none = not_held one first pair.page ones ranked in
    record {
      held_is = is.held_is;
      entries_is = is.entries_is;
      dead_is = is.dead_is;
      left = is.left;
      lefts_is = is.lefts_is;
      none = is.none;
      right = λ other there. either_right one body is.left asked pair other is.right
          (subst (IsNumber one body pair.page) (sym (is.none pair.page none)) (none_number one body pair.page none))
          (or_cases (is_in asked other) (same_pair other pair || false) (sym (is_in_append asked (pair ∷ []) other) ∙ there));
    }
step_case one body first table asked pair differ ones is behind (Some rank) ranked =
    let page = pair.page in
    let number = number_of body (one_at table page) (number_before table (page_before (one_at table page))) in
    let new = new_number one body first table asked page ones is behind in
    record {
      held_is = is.held_is;
      entries_is = is.entries_is;
      dead_is = is.dead_is;
      left = with_number is.left page number;
      lefts_is = ap (λ lefts. set lefts rank number) is.lefts_is
          ∙ set_at_rank first.held page rank is.left (with_number is.left page number) number differ ranked
          (rw (eq-eqb page page refl) refl) (λ other not_it. rw not_it refl);
      none = λ other none. with_none is.left page other number (other == page) refl
          (λ same. ap (λ at. number_of body at (number_before table (page_before (one_at table page))))
          (one_same one body first table asked page ones is ∙ ap one (sym same) ∙ none)) (is.none other none);
      right = λ other there. with_right one body is.left page other.page number (other.page == page) refl new
          (old_right one body is.left asked pair other is.right
          (or_cases (is_in asked other) (same_pair other pair || false) (sym (is_in_append asked (pair ∷ []) other) ∙ there)));
    }

numbered_step : (one : ℕ → Option Target) (body : ℕ) (first table : Table) (asked : List Pair) (pair : Pair) → Differ first.held → HasOnes one first
    → IsNumbering one body first asked table → IsBehind one asked pair.page → IsNumbering one body first (asked ++ pair ∷ []) (numbered body table pair)
unfolding numbered
numbered_step one body first table asked pair differ ones is behind =
    subst (λ o. IsNumbering one body first (asked ++ pair ∷ []) (numbered_at body table pair.page o)) (ap (λ held. rank_of held pair.page) (sym is.held_is))
    (step_case one body first table asked pair differ ones is behind (rank_of first.held pair.page) refl)

-- all pairs met
pub numbered_all : (one : ℕ → Option Target) (body : ℕ) (first : Table) (met : List Pair) (n : ℕ) (d : Pair) → Differ first.held → HasOnes one first
    → first.lefts ≡ map (λ page. None) first.held → ((i : ℕ) → i < length met → IsBehind one (take i met) (get_or met i d).page) → n ≤ length met
    → IsNumbering one body first (take n met) (fold (numbered body) first (take n met))
numbered_all one body first met zero d differ ones blank behind within = record {
  held_is = refl;
  entries_is = refl;
  dead_is = refl;
  left = λ page. None;
  lefts_is = blank;
  none = λ page is. refl;
  right = λ pair there. absurd (false≢true there);
}
numbered_all one body first met (suc n) d differ ones blank behind within =
    let before = numbered_all one body first met n d differ ones blank behind (omega arith) in
    let pair = get_or met n d in
    let table = fold (numbered body) first (take n met) in
    let stepped = numbered_step one body first table (take n met) pair differ ones before (behind n (omega arith)) in
    let next : n + 1 ≡ suc n = omega arith in
    let front : take n met ++ pair ∷ [] ≡ take (suc n) met = sym (take_more met n d (omega arith)) ∙ ap (λ k. take k met) next in
    let made : numbered body table pair ≡ fold (numbered body) first (take (suc n) met) =
    sym (fold_more (numbered body) first met n d (omega arith)) ∙ ap (λ k. fold (numbered body) first (take k met)) next in
    subst (λ asked. IsNumbering one body first asked (fold (numbered body) first (take (suc n) met))) front
    (subst (IsNumbering one body first (take n met ++ pair ∷ [])) made stepped)

-- each page's number is right in the end
end_case : (one : ℕ → Option Target) (body : ℕ) (first table : Table) (met : List Pair) (page : ℕ) → (is : IsNumbering one body first met table)
    → ((target : Target) → one page ≡ Some target → IsMetAt met page) → (at : Option Target) → one page ≡ at → IsNumber one body page (is.left page)
end_case one body first table met page is all None none = subst (IsNumber one body page) (sym (is.none page none)) (none_number one body page none)
end_case one body first table met page is all (Some target) some =
    let there = all target some in
    subst (λ p. IsNumber one body p (is.left p)) there.at (is.right there.pair there.there)

pub lefts_are : (one : ℕ → Option Target) (body : ℕ) (first table : Table) (met : List Pair) (page : ℕ) → HasOnes one first → IsNumbering one body first met table
    → ((target : Target) → one page ≡ Some target → IsMetAt met page) → IsLeft one body page (left_at table page)
lefts_are one body first table met page ones is all =
    let number = end_case one body first table met page is all (one page) refl in
    let same : cond (is_overflow (one page)) (is.left page) None ≡ left_at table page =
    ap (λ number. cond (is_overflow (one page)) number None) (sym (number_is one body first table met page ones is))
    ∙ ap (λ at. cond (is_overflow at) (number_at table page) None) (sym (one_same one body first table met page ones is)) in
    subst (IsLeft one body page) same (left_is one body page (is.left page) number)
