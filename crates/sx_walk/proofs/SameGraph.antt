-- Where the held pages, the roots and what the reached pairs name are the same, the table is the same; and what the table
-- tells of the pairs that are reached.
use Rattle.std.proofs.Common.{◌≡◌, ℕ, zero, suc, ◌*◌, ◌<◌, ◌||◌, true, not, List, [], ◌∷◌, ◌++◌, length, filter, Some, sym, ap, subst, ◌∙◌, arith}
use Rattle.std.specs.List.{flat_map}
use Rattle.sx_closure.specs.declared.pair.Pair.{Pair}
use Rattle.sx_closure.specs.declared.pair.Target.{Target}
use Rattle.sx_closure.specs.Graph.{is_in, is_named, Graph, is_reference, roles_of, pairs_of, reach, reached, all_targets, to_page, references_to, only}
use Rattle.sx_closure.specs.Chains.{IsLeft}
use Rattle.sx_closure.specs.Tallying.{Table, count_at, one_at, left_at, IsTableOf}
use Rattle.sx_closure.proofs.Reaching.{reach_stays}
use Rattle.sx_closure.proofs.Numbering.{Among, only_is}
use Rattle.sx_closure.proofs.Standing.{pieces_same, reference_to}

-- ---- two graphs with the same held pages and roots, whose reached pairs name the same

pub record IsSameGraph (one two : Graph) : Type 0 where
  pub held : one.held ≡ two.held
  pub roots : one.roots ≡ two.roots
  pub targets : (pair : Pair) → is_in (reached one) pair ≡ true → one.targets pair ≡ two.targets pair

reach_same : (one two : Graph) (rounds : ℕ) → one.held ≡ two.held → one.roots ≡ two.roots
    → ((pair : Pair) → is_in (reach one rounds) pair ≡ true → one.targets pair ≡ two.targets pair) → reach one rounds ≡ reach two rounds
unfolding reach pairs_of
reach_same one two zero held roots same =
    ap (λ named. filter (is_named named) (flat_map roles_of one.held)) roots
    ∙ ap (λ pages. filter (is_named two.roots) (flat_map roles_of pages)) held
reach_same one two (suc rounds) held roots same =
    let before = reach_same one two rounds held roots (λ pair there. same pair (reach_stays one rounds pair there)) in
    let pieces : flat_map one.targets (reach one rounds) ≡ flat_map two.targets (reach two rounds) =
    pieces_same one.targets two.targets (reach one rounds) (λ pair there. same pair (reach_stays one rounds pair there)) ∙ ap (flat_map two.targets) before in
    ap (λ some. filter (λ pair. is_in some pair || is_named (flat_map one.targets (reach one rounds)) pair) (flat_map roles_of one.held)) before
    ∙ ap (λ named. filter (λ pair. is_in (reach two rounds) pair || is_named named pair) (flat_map roles_of one.held)) pieces
    ∙ ap (λ pages. filter (λ pair. is_in (reach two rounds) pair || is_named (flat_map two.targets (reach two rounds)) pair) (flat_map roles_of pages)) held

all_same : (one two : Graph) → IsSameGraph one two → all_targets one ≡ all_targets two
all_same one two same =
    let met : reached one ≡ reached two =
    reach_same one two (4 * length one.held) same.held same.roots same.targets ∙ ap (λ pages. reach two (4 * length pages)) same.held in
    ap (λ roots. roots ++ flat_map one.targets (reached one)) same.roots
    ∙ ap (λ pieces. two.roots ++ pieces) (pieces_same one.targets two.targets (reached one) same.targets ∙ ap (flat_map two.targets) met)

-- the references to a page, of these held pages and targets
abbrev to_page_of : List ℕ → List Target → ℕ → List Target
to_page_of held targets page = to_page page (filter (is_reference held) targets)

references_same : (one two : Graph) → IsSameGraph one two → ◌≡◌ {A = ℕ → List Target} (references_to one) (references_to two)
references_same one two same =
    ap (λ pages. to_page_of pages (all_targets one)) same.held ∙ ap (λ targets. to_page_of two.held targets) (all_same one two same)

-- so what is the table of one is that of the other
pub table_stands : (one two : Graph) (body : ℕ) (table : Table) → IsSameGraph one two → IsTableOf one body table → IsTableOf two body table
table_stands one two body table same is =
    let references = references_same one two same in
    record {
      counts = λ page. is.counts page ∙ ap (λ to. length (to page)) references;
      ones = λ page. is.ones page ∙ ap (λ to. only (to page)) references;
      dead = is.dead
          ∙ ap (λ pages. length (filter (λ target. not (is_reference pages target)) (all_targets one))) same.held
          ∙ ap (λ targets. length (filter (λ target. not (is_reference two.held target)) targets)) (all_same one two same);
      lefts = λ page. subst (λ to. IsLeft (λ other. only (to other)) body page (left_at table page)) references (is.lefts page);
    }

-- ---- what the table tells of a reached pair

among_some : (targets : List Target) (target : Target) → Among targets target → 0 < length targets
among_some [] target there = absurd there
among_some (one ∷ targets) target there = omega arith

-- so its page has a reference
pub reached_some : (graph : Graph) (body : ℕ) (table : Table) (pair : Pair) → IsTableOf graph body table → is_in (reached graph) pair ≡ true
    → 0 < count_at table pair.page
reached_some graph body table pair is there =
    let found = reference_to graph pair there in
    let some = among_some (references_to graph pair.page) found.target found.among in
    omega (arith, some, is.counts pair.page)

-- and where it has one alone, that is of the pair's role
pub reached_one : (graph : Graph) (body : ℕ) (table : Table) (pair : Pair) (target : Target) → IsTableOf graph body table → is_in (reached graph) pair ≡ true
    → one_at table pair.page ≡ Some target → target.pair ≡ pair
reached_one graph body table pair target is there one =
    let found = reference_to graph pair there in
    let same : found.target ≡ target = only_is (references_to graph pair.page) target found.target (sym (is.ones pair.page) ∙ one) found.among in
    ap (λ t. t.pair) (sym same) ∙ found.names
