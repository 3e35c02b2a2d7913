-- How many bytes are still to come at a page of a chain, found by going back along it.
use Rattle.std.proofs.Common.{◌≡◌, ℕ, zero, suc, ◌+◌, ◌-◌, ◌*◌, ◌<◌, ◌≤◌, ◌==◌, ◌||◌, Bool, true, false, cond, List, [], ◌∷◌, length, inl, inr, Option, Some, None, option_map, nat_eq, refl, sym, ap, subst, ◌∙◌, arith, add-mul, one-mul}
use Rattle.std.specs.Prelude.{option_and_then, filter}
use Rattle.std.specs.List.{IsDistinct, AllByRecursion, list_any}
use Rattle.std.proofs.lemmas.Bool.{false≢true, or_cases, or_left, or_right, eqb-true, eq-eqb}
use Rattle.std.proofs.lemmas.Cmp.{nat_eq_equiv}
use Rattle.std.proofs.lemmas.Map.Made.{length-le_from_is_member}
use Rattle.sx_closure.specs.declared.pair.Source.{Source}
use Rattle.sx_closure.specs.declared.pair.Source.TheVariants.{Root, Cell, Page}
use Rattle.sx_closure.specs.declared.pair.Target.{Target}
use Rattle.sx_closure.specs.Graph.{Graph, is_held, is_reference, to_page, references_to, all_targets, only}
use Rattle.sx_closure.specs.Chains.{page_of, page_before, rest_of, rest_at, IsChain, is_overflow, IsLeft, number_by, number_of, one_reference}
use Rattle.sx_prov.specs.Places.{left_within, left_in, left_at_overflow}

-- ---- what is found is right

-- a chain ends with the page, and so many bytes are still to come there
abbrev pub IsFound : (ℕ → Option Target) → ℕ → ℕ → Option ℕ → Type 0
IsFound one body page None = Unit {0}
IsFound one body page (Some left) = (rest : ℕ) × (before : List ℕ) × IsChain one rest (page ∷ before) × (left ≡ rest - length before * body)

body_less : (left rest count body : ℕ) → left ≡ rest - count * body → left - body ≡ rest - suc count * body
body_less left rest count body is =
    let next : suc count ≡ count + 1 = omega arith in
    let parts : (count + 1) * body ≡ count * body + body = grind (arith, add-mul, one-mul) in
    let whole : suc count * body ≡ count * body + body = ap (λ n. n * body) next ∙ parts in
    omega (arith, is, whole)

none_less : (rest body : ℕ) → rest ≡ rest - 0 * body
none_less rest body = grind arith

page_found : (one : ℕ → Option Target) (body page before : ℕ) (left : Option ℕ) → page_before (one page) ≡ Some before → IsFound one body before left
    → IsFound one body page (option_map (λ left. left - body) left)
page_found one body page before None from found = tt
page_found one body page before (Some left) from found =
    (found.0, before ∷ found.1, (from, found.2), body_less left found.0 (length found.1) body found.3)

source_found : (one : ℕ → Option Target) (body page rest : ℕ) (source : Source) (left : ℕ → Option ℕ) → rest_at (one page) ≡ rest_of source rest
    → page_before (one page) ≡ page_of source → ((before : ℕ) → IsFound one body before (left before))
    → IsFound one body page (number_by body source rest (option_and_then left (page_of source)))
source_found one body page rest Root left ends from known = tt
source_found one body page rest (Cell number cell) left ends from known = (rest, [], ends, none_less rest body)
source_found one body page rest (Page number) left ends from known = page_found one body page number (left number) from (known number)

target_found : (one : ℕ → Option Target) (body page : ℕ) (left : ℕ → Option ℕ) (at : Option Target) → one page ≡ at → ((before : ℕ) → IsFound one body before (left before))
    → IsFound one body page (number_of body at (option_and_then left (page_before at)))
target_found one body page left None is known = tt
target_found one body page left (Some target) is known = source_found one body page target.rest target.source left (ap rest_at is) (ap page_before is) known

found_right : (most : ℕ) (one : ℕ → Option Target) (body page : ℕ) → IsFound one body page (left_within most one body page)
unfolding left_within
found_right zero one body page = tt
found_right (suc most) one body page =
    target_found one body page (left_within most one body) (one page) refl (λ before. found_right most one body before)

-- ---- what there is is found

cell_number : (body page rest : ℕ) (left : ℕ → Option ℕ) (at : Option Target) → rest_at at ≡ Some rest → number_of body at (option_and_then left (page_before at)) ≡ Some rest
cell_number body page rest left None is = let never : None ≡ Some rest = is in cc
cell_number body page rest left (Some target) is = by_source target.source target.rest is
  where
    by_source : (source : Source) (past : ℕ) → rest_of source past ≡ Some rest → number_by body source past (option_and_then left (page_of source)) ≡ Some rest
    by_source Root past is = let never : None ≡ Some rest = is in cc
    by_source (Cell number cell) past is = is
    by_source (Page number) past is = let never : None ≡ Some rest = is in cc

page_number : (body before : ℕ) (left : ℕ → Option ℕ) (at : Option Target) → page_before at ≡ Some before
    → number_of body at (option_and_then left (page_before at)) ≡ option_map (λ left. left - body) (left before)
page_number body before left None is = let never : None ≡ Some before = is in cc
page_number body before left (Some target) is = by_source target.source target.rest is
  where
    by_source : (source : Source) (past : ℕ) → page_of source ≡ Some before
        → number_by body source past (option_and_then left (page_of source)) ≡ option_map (λ left. left - body) (left before)
    by_source Root past is = let never : None ≡ Some before = is in cc
    by_source (Cell number cell) past is = let never : None ≡ Some before = is in cc
    by_source (Page number) past is =
        let both : Some number ≡ Some before = is in
        let same : number ≡ before = cc in
        ap (λ page. option_map (λ left. left - body) (left page)) same

chain_found : (most : ℕ) (one : ℕ → Option Target) (body page rest : ℕ) (before : List ℕ) → IsChain one rest (page ∷ before) → length before < most
    → left_within most one body page ≡ Some (rest - length before * body)
unfolding left_within
chain_found zero one body page rest before chain few = absurd (omega arith)
chain_found (suc most) one body page rest [] chain few =
    cell_number body page rest (left_within most one body) (one page) chain ∙ ap Some (none_less rest body)
chain_found (suc most) one body page rest (next ∷ before) chain few =
    page_number body next (left_within most one body) (one page) chain.0
    ∙ ap (option_map (λ left. left - body)) (chain_found most one body next rest before chain.1 (omega arith))
    ∙ ap Some (body_less (rest - length before * body) rest (length before) body refl)

-- ---- a chain has at most the held pages

not_both : (at : Option Target) (rest next : ℕ) → rest_at at ≡ Some rest → page_before at ≡ Some next → ⊥
not_both None rest next is from = let never : None ≡ Some rest = is in cc
not_both (Some target) rest next is from = by_source target.source target.rest is from
  where
    by_source : (source : Source) (past : ℕ) → rest_of source past ≡ Some rest → page_of source ≡ Some next → ⊥
    by_source Root past is from = let never : None ≡ Some rest = is in cc
    by_source (Cell number cell) past is from = let never : None ≡ Some next = from in cc
    by_source (Page number) past is from = let never : None ≡ Some rest = is in cc

-- two chains of one page are the same
chain_same : (one : ℕ → Option Target) (page rest other_rest : ℕ) (before other : List ℕ) → IsChain one rest (page ∷ before) → IsChain one other_rest (page ∷ other) → before ≡ other
chain_same one page rest other_rest [] [] chain others = refl
chain_same one page rest other_rest [] (next ∷ other) chain others = absurd (not_both (one page) rest next chain others.0)
chain_same one page rest other_rest (next ∷ before) [] chain others = absurd (not_both (one page) other_rest next others chain.0)
chain_same one page rest other_rest (next ∷ before) (behind ∷ other) chain others =
    let both : Some next ≡ Some behind = sym chain.0 ∙ others.0 in
    let same : next ≡ behind = cc in
    let more = chain_same one next rest other_rest before other chain.1 (subst (λ p. IsChain one other_rest (p ∷ other)) (sym same) others.1) in
    ap (λ p. p ∷ before) same ∙ ap (λ l. behind ∷ l) more

-- a page of a chain that comes again has a shorter one
again_short : (one : ℕ → Option Target) (page rest next : ℕ) (before : List ℕ) → IsChain one rest (next ∷ before) → list_any (λ p. page == p) (next ∷ before) ≡ true
    → (shorter : List ℕ) × IsChain one rest (page ∷ shorter) × (length shorter ≤ length before)
again_short one page rest next [] chain there =
    elim (or_cases (page == next) false there) [
      | inl same ↦ ([], subst (λ p. IsChain one rest (p ∷ [])) (sym (eqb-true page next same)) chain, omega arith)
      | inr never ↦ absurd (false≢true never)
    ]
again_short one page rest next (behind ∷ before) chain there =
    elim (or_cases (page == next) (list_any (λ p. page == p) (behind ∷ before)) there) [
      | inl same ↦ (behind ∷ before, subst (λ p. IsChain one rest (p ∷ behind ∷ before)) (sym (eqb-true page next same)) chain, omega arith)
      | inr later ↦
          let found = again_short one page rest behind before chain.1 later in
          (found.0, found.1, let short = found.2 in omega arith)
    ]

-- the test of a list by a number
none_listed : (page : ℕ) (pages : List ℕ) → list_any (λ p. page == p) pages ≡ false → AllByRecursion (λ p. (page == p) ≡ false) pages
none_listed page [] none = tt
none_listed page (other ∷ pages) none = by_case (page == other) refl none (none_listed page pages)
  where
    by_case : (b : Bool) → (page == other) ≡ b → (b || list_any (λ p. page == p) pages) ≡ false
        → (list_any (λ p. page == p) pages ≡ false → AllByRecursion (λ p. (page == p) ≡ false) pages) → AllByRecursion (λ p. (page == p) ≡ false) (other ∷ pages)
    by_case true is none rest = absurd (false≢true (sym none))
    by_case false is none rest = (is, rest none)

not_again : (one : ℕ → Option Target) (page rest : ℕ) (before : List ℕ) → IsChain one rest (page ∷ before) → (b : Bool) → list_any (λ p. page == p) before ≡ b
    → list_any (λ p. page == p) before ≡ false
not_again one page rest before chain false is = is
not_again one page rest [] chain true is = absurd (false≢true is)
not_again one page rest (next ∷ before) chain true is =
    let found = again_short one page rest next before chain.1 is in
    let same = chain_same one page rest rest (next ∷ before) found.0 chain found.1 in
    let long = ap length same in
    let short = found.2 in
    absurd (omega arith)

chain_distinct : (one : ℕ → Option Target) (page rest : ℕ) (before : List ℕ) → IsChain one rest (page ∷ before) → IsDistinct nat_eq (page ∷ before)
unfolding IsDistinct
chain_distinct one page rest [] chain = (tt, tt)
chain_distinct one page rest (next ∷ before) chain =
    (none_listed page (next ∷ before) (not_again one page rest (next ∷ before) chain (list_any (λ p. page == p) (next ∷ before)) refl), chain_distinct one next rest before chain.1)

-- a page with one reference is held
held_case : (held : List ℕ) (page : ℕ) (target : Target) (rest : List Target) (b c : Bool) → is_reference held target ≡ b → (target.pair.page == page) ≡ c
    → (to_page page (cond b (target ∷ rest) rest) ≡ [] → ⊥) → ((to_page page rest ≡ [] → ⊥) → is_held held page ≡ true) → is_held held page ≡ true
held_case held page target rest true true is same some more = subst (λ p. is_held held p ≡ true) (eqb-true target.pair.page page same) is
held_case held page target rest true false is other some more =
    more (λ none. some (ap (λ b. cond b (target ∷ to_page page rest) (to_page page rest)) other ∙ none))
held_case held page target rest false c is same some more = more some

some_held : (held : List ℕ) (page : ℕ) (targets : List Target) → (to_page page (filter (is_reference held) targets) ≡ [] → ⊥) → is_held held page ≡ true
some_held held page [] some = absurd (some refl)
some_held held page (target ∷ targets) some =
    held_case held page target (filter (is_reference held) targets) (is_reference held target) (target.pair.page == page) refl refl some (some_held held page targets)

only_some : (targets : List Target) (target : Target) → only targets ≡ Some target → targets ≡ [] → ⊥
only_some targets target is none = let never : None ≡ Some target = sym (ap only none) ∙ is in cc

turn_case : (page number : ℕ) (held : List ℕ) (b : Bool) → (number == page) ≡ b → (b || is_held held page) ≡ true
    → (is_held held page ≡ true → list_any (λ p. page == p) held ≡ true) → list_any (λ p. page == p) (number ∷ held) ≡ true
turn_case page number held true same there rest = or_left (page == number) (list_any (λ p. page == p) held) (eq-eqb page number (sym (eqb-true number page same)))
turn_case page number held false same there rest = or_right (page == number) (list_any (λ p. page == p) held) (rest there)

turned : (page : ℕ) (held : List ℕ) → is_held held page ≡ true → list_any (λ p. page == p) held ≡ true
turned page [] there = there
turned page (number ∷ held) there = turn_case page number held (number == page) refl there (turned page held)

one_of_chain : (one : ℕ → Option Target) (page rest : ℕ) (before : List ℕ) → IsChain one rest (page ∷ before) → (target : Target) × (one page ≡ Some target)
one_of_chain one page rest [] chain = by_rest (one page) refl chain
  where
    by_rest : (at : Option Target) → one page ≡ at → rest_at at ≡ Some rest → (target : Target) × (one page ≡ Some target)
    by_rest None is some = let never : None ≡ Some rest = some in cc
    by_rest (Some target) is some = (target, is)
one_of_chain one page rest (next ∷ before) chain = by_page (one page) refl chain.0
  where
    by_page : (at : Option Target) → one page ≡ at → page_before at ≡ Some next → (target : Target) × (one page ≡ Some target)
    by_page None is some = let never : None ≡ Some next = some in cc
    by_page (Some target) is some = (target, is)

chain_held : (graph : Graph) (page rest : ℕ) (before : List ℕ) → IsChain (one_reference graph) rest (page ∷ before) → list_any (λ p. page == p) graph.held ≡ true
chain_held graph page rest before chain =
    let one = one_of_chain (one_reference graph) page rest before chain in
    turned page graph.held (some_held graph.held page (all_targets graph) (only_some (references_to graph page) one.0 one.1))

chain_few : (graph : Graph) (page rest : ℕ) (before : List ℕ) → IsChain (one_reference graph) rest (page ∷ before) → length before < length graph.held
chain_few graph page rest before chain =
    let few : length (page ∷ before) ≤ length graph.held = length-le_from_is_member nat_eq_equiv (page ∷ before) graph.held (chain_distinct (one_reference graph) page rest before chain)
    (λ q there. let found = again_short (one_reference graph) q rest page before chain there in chain_held graph q rest found.0 found.1) in
    omega (arith, few)

-- ---- what the table says

left_case : (graph : Graph) (body page : ℕ) (told : Option ℕ) → is_overflow (one_reference graph page) ≡ true → IsLeft (one_reference graph) body page told
    → (found : Option ℕ) → left_in graph body page ≡ found → IsFound (one_reference graph) body page found → told ≡ found
left_case graph body page None role left None is right = refl
left_case graph body page None role left (Some n) is right =
    absurd (left (length right.1 + 1) right.0 (record { before = right.1; chain = right.2; long = refl; role = role }))
left_case graph body page (Some n) role left found is right =
    let placed = left.2 in
    let rest = left.1 in
    let place : left.0 - 1 ≡ length placed.before = let long = placed.long in omega arith in
    let same : n ≡ rest - length placed.before * body = left.3 ∙ ap (λ count. rest - count * body) place in
    ap Some same
    ∙ sym (chain_found (length graph.held) (one_reference graph) body page rest placed.before placed.chain (chain_few graph page rest placed.before placed.chain))
    ∙ is

pub left_same : (graph : Graph) (body page : ℕ) (told : Option ℕ) → is_overflow (one_reference graph page) ≡ true → IsLeft (one_reference graph) body page told
    → told ≡ left_in graph body page
left_same graph body page told role left =
    left_case graph body page told role left (left_in graph body page) refl (found_right (length graph.held) (one_reference graph) body page)

-- ---- the law

law_case : (graph : Graph) (body page : ℕ) (b : Bool) → is_overflow (one_reference graph page) ≡ b → (found : Option ℕ) → left_in graph body page ≡ found
    → IsFound (one_reference graph) body page found → IsLeft (one_reference graph) body page (cond b found None)
law_case graph body page false role found is right = λ place rest placed. false≢true (sym role ∙ placed.role)
law_case graph body page true role None is right = λ place rest placed.
    let there = chain_found (length graph.held) (one_reference graph) body page rest placed.before placed.chain (chain_few graph page rest placed.before placed.chain) in
    let never : None ≡ Some (rest - length placed.before * body) = sym is ∙ there in cc
law_case graph body page true role (Some n) is right = (
  length right.1 + 1,
  right.0,
  record { before = right.1; chain = right.2; long = refl; role = role },
  right.3 ∙ ap (λ count. right.0 - count * body) (let count : length right.1 ≡ length right.1 + 1 - 1 = omega arith in count),
)

pub left_law : (graph : Graph) (body page : ℕ) → IsLeft (one_reference graph) body page (left_at_overflow graph body page)
left_law graph body page =
    law_case graph body page (is_overflow (one_reference graph page)) refl (left_in graph body page) refl
    (found_right (length graph.held) (one_reference graph) body page)
