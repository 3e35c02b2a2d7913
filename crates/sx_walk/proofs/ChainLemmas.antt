-- The overflow pages of a chain, in the graph of the pages of a moment.
use Rattle.std.proofs.Common.{◌≡◌, ℕ, Bool, true, false, cond, ℤ, List, [], ◌∷◌, ◌++◌, filter, Option, Some, None, ◌⊎◌, inl, inr, refl, sym, ap, subst, ◌∙◌}
use Rattle.std.specs.List.{flat_map}
use Rattle.std.proofs.lemmas.Bool.{or_right, false≢true}
use Rattle.sx_base.specs.declared.layout.Layout.{Layout}
use Rattle.sx_base.specs.Held.{held_pages}
use Rattle.sx_base.specs.declared.role.Role.{Role}
use Rattle.sx_base.specs.declared.role.Role.TheVariants.{Node, Overflow, Trunk, FreeLeaf, PointerMap}
use Rattle.sx_closure.specs.declared.pair.Pair.{Pair}
use Rattle.sx_closure.specs.declared.pair.Source.{Source}
use Rattle.sx_closure.specs.declared.pair.Source.TheVariants.{Root, Cell, Page}
use Rattle.sx_closure.specs.declared.pair.Target.{Target}
use Rattle.sx_closure.specs.Graph.{same_pair, is_in, Graph, is_reference, reached, all_targets, references, references_to}
use Rattle.sx_closure.specs.Chains.{one_reference, page_of, page_before, rest_at, is_role_overflow, IsChain}
use Rattle.sx_closure.proofs.Pairs.{is_in_head}
use Rattle.sx_closure.proofs.Numbering.{Among, only_among, only_is, page_among}
use Rattle.sx_closure.proofs.Standing.{reference_to}
use Rattle.sx_follow.specs.Climbing.{source_page}
use Rattle.sx_refs.specs.Pages.{graph_of}
use Rattle.sx_walk.proofs.Sourcing.{IsFrom, AreFrom, AreRoots, held_from, all_roots_are}

-- ---- a target that stands among some

among_cond : (b : Bool) (one target : Target) (kept targets : List Target) → (Among kept target → Among targets target) → Among (cond b (one ∷ kept) kept) target
    → (one ≡ target) ⊎ Among targets target
among_cond true one target kept targets more (inl same) = inl same
among_cond true one target kept targets more (inr there) = inr (more there)
among_cond false one target kept targets more there = inr (more there)

among_filter : (test : Target → Bool) (targets : List Target) (target : Target) → Among (filter test targets) target → Among targets target
among_filter test [] target there = there
among_filter test (one ∷ targets) target there = among_cond (test one) one target (filter test targets) targets (among_filter test targets target) there

among_split : (some others : List Target) (target : Target) → Among (some ++ others) target → Among some target ⊎ Among others target
among_split [] others target there = inr there
among_split (one ∷ some) others target (inl same) = inl (inl same)
among_split (one ∷ some) others target (inr there) = elim (among_split some others target there) [
  | inl first ↦ inl (inr first)
  | inr second ↦ inr second
]

-- the pair of a list that names it
pub record IsPiece (targets : Pair → List Target) (pairs : List Pair) (target : Target) : Type 0 where
  pub pair : Pair
  pub there : is_in pairs pair ≡ true
  pub among : Among (targets pair) target

pieces : (targets : Pair → List Target) (pairs : List Pair) (target : Target) → Among (flat_map targets pairs) target → IsPiece targets pairs target
pieces targets [] target there = absurd there
pieces targets (pair ∷ pairs) target there = elim (among_split (targets pair) (flat_map targets pairs) target there) [
  | inl first ↦ record { pair = pair; there = is_in_head pair pairs; among = first }
  | inr more ↦ (let rest = pieces targets pairs target more in
      record { pair = rest.pair; there = or_right (same_pair rest.pair pair) (is_in pairs rest.pair) rest.there; among = rest.among })
]

root_among : (targets : List Target) (target : Target) → AreRoots targets → Among targets target → source_page target.source ≡ None
root_among [] target are there = absurd there
root_among (one ∷ targets) target are (inl same) = ap (λ t. source_page t.source) (sym same) ∙ are.0
root_among (one ∷ targets) target are (inr there) = root_among targets target are.1 there

from_among : (page : ℕ) (role : Role) (targets : List Target) (target : Target) → AreFrom page role targets → Among targets target → IsFrom page role target
from_among page role [] target are there = absurd there
from_among page role (one ∷ targets) target are (inl same) = subst (IsFrom page role) same are.0
from_among page role (one ∷ targets) target are (inr there) = from_among page role targets target are.1 there

-- ---- the page before an overflow page

-- what holds of the graph of the pages of a moment
pub record IsPaged (graph : Graph) : Type 0 where
  pub roots : AreRoots graph.roots
  pub pairs : (pair : Pair) → AreFrom pair.page pair.role (graph.targets pair)

pub is_paged : (size : ℕ) (view : ℕ → Option (List ℕ)) (layout : Layout) (roots : List ℤ) → IsPaged (graph_of size view layout roots)
unfolding graph_of
is_paged size view layout roots = record {
  roots = all_roots_are (held_pages size view) layout roots;
  pairs = λ pair. held_from (view pair.page) pair layout.usable;
}

page_source : (source : Source) (page : ℕ) → page_of source ≡ Some page → source_page source ≡ Some page
page_source Root page is = is
page_source (Cell number cell) page is = let never : None ≡ Some page = is in cc
page_source (Page number) page is = is

same_page : (source : Source) (page before : ℕ) → source_page source ≡ Some page → page_of source ≡ Some before → page ≡ before
same_page source page before at of = let both : Some page ≡ Some before = sym at ∙ page_source source before of in cc

never_root : (source : Source) (before : ℕ) → source_page source ≡ None → page_of source ≡ Some before → ⊥
never_root source before none of = let never : None ≡ Some before = sym none ∙ page_source source before of in cc

-- it is an overflow page, where it has one reference
pub before_overflow : (graph : Graph) (page before : ℕ) (target other : Target) → IsPaged graph → one_reference graph page ≡ Some target
    → is_role_overflow target.pair.role ≡ true → page_of target.source ≡ Some before → one_reference graph before ≡ Some other → is_role_overflow other.pair.role ≡ true
before_overflow graph page before target other paged one over of next =
    let all = among_filter (is_reference graph.held) (all_targets graph) target (page_among page target (references graph) (only_among (references_to graph page) target one)).0 in
    elim (among_split graph.roots (flat_map graph.targets (reached graph)) target all) [
      | inl root ↦ absurd (never_root target.source before (root_among graph.roots target paged.roots root) of)
      | inr more ↦
          let piece = pieces graph.targets (reached graph) target more in
          let from = from_among piece.pair.page piece.pair.role (graph.targets piece.pair) target (paged.pairs piece.pair) piece.among in
          let at : piece.pair.page ≡ before = same_page target.source piece.pair.page before from.0 of in
          let found = reference_to graph piece.pair piece.there in
          let same : found.target ≡ other =
          only_is (references_to graph piece.pair.page) other found.target (ap (one_reference graph) at ∙ next) found.among in
          ap (λ t. is_role_overflow t.pair.role) (sym same) ∙ ap (λ p. is_role_overflow p.role) found.names ∙ from.1 before of over
    ]

-- the pages of a role
role_is : (role : Role) → is_role_overflow role ≡ true → role ≡ Overflow
role_is Node is = absurd (false≢true is)
role_is Overflow is = refl
role_is Trunk is = absurd (false≢true is)
role_is FreeLeaf is = absurd (false≢true is)
role_is PointerMap is = absurd (false≢true is)

pair_is : (pair : Pair) (page : ℕ) → pair.page ≡ page → pair.role ≡ Overflow → pair ≡ record { page = page; role = Overflow }
pair_is pair page at role = ap (λ p. record { page = p; role = pair.role }) at ∙ ap (λ r. record { page = page; role = r }) role

-- where its one reference comes from a page, that page names it as an overflow page
pub named_as_overflow : (graph : Graph) (page before : ℕ) (target : Target) → IsPaged graph → one_reference graph page ≡ Some target → is_role_overflow target.pair.role ≡ true
    → page_of target.source ≡ Some before → Among (graph.targets (record { page = before; role = Overflow })) target × (target.pair.page ≡ page)
named_as_overflow graph page before target paged one over of =
    let found = page_among page target (references graph) (only_among (references_to graph page) target one) in
    let all = among_filter (is_reference graph.held) (all_targets graph) target found.0 in
    elim (among_split graph.roots (flat_map graph.targets (reached graph)) target all) [
      | inl root ↦ absurd (never_root target.source before (root_among graph.roots target paged.roots root) of)
      | inr more ↦
          let piece = pieces graph.targets (reached graph) target more in
          let from = from_among piece.pair.page piece.pair.role (graph.targets piece.pair) target (paged.pairs piece.pair) piece.among in
          let at : piece.pair.page ≡ before = same_page target.source piece.pair.page before from.0 of in
          let role : piece.pair.role ≡ Overflow = role_is piece.pair.role (from.1 before of over) in
          (subst (λ pair. Among (graph.targets pair) target) (pair_is piece.pair before at role) piece.among, found.1)
    ]

-- ---- the references along a chain

-- the one reference of a page of a chain
pub record HasOne (one : ℕ → Option Target) (page : ℕ) : Type 0 where
  pub target : Target
  pub is : one page ≡ Some target

rest_one : (one : ℕ → Option Target) (page rest : ℕ) (o : Option Target) → one page ≡ o → rest_at o ≡ Some rest → HasOne one page
rest_one one page rest None is at = let never : None ≡ Some rest = at in cc
rest_one one page rest (Some target) is at = record { target = target; is = is }

pub before_one : (one : ℕ → Option Target) (page before : ℕ) (o : Option Target) → one page ≡ o → page_before o ≡ Some before → HasOne one page
before_one one page before None is at = let never : None ≡ Some before = at in cc
before_one one page before (Some target) is at = record { target = target; is = is }

pub chain_one : (one : ℕ → Option Target) (rest page : ℕ) (pages : List ℕ) → IsChain one rest (page ∷ pages) → HasOne one page
chain_one one rest page [] chain = rest_one one page rest (one page) refl chain
chain_one one rest page (before ∷ pages) chain = before_one one page before (one page) refl chain.0

-- the page before an overflow page is one
abbrev pub IsChained : (ℕ → Option Target) → Type 0
IsChained one = (page before : ℕ) (target other : Target) → one page ≡ Some target → is_role_overflow target.pair.role ≡ true → page_of target.source ≡ Some before
    → one before ≡ Some other → is_role_overflow other.pair.role ≡ true
