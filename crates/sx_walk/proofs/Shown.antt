-- The pages that have views, and what sums over more pages say of them.
use Rattle.std.proofs.Common.{◌≡◌, ℕ, zero, suc, ◌+◌, ◌-◌, ◌^◌, ◌<◌, ◌≤◌, ◌==◌, Bool, true, false, cond, ℤ, List, [], ◌∷◌, length, filter, get_or, sum_by, Option, Some, None, is_some, inl, inr, refl, sym, ap, ◌∙◌, arith}
use Rattle.std.specs.List.{range_with_len}
use Rattle.std.proofs.lemmas.Bool.{eq-eqb, eqb-true, or_cases, cases_lt, false≢true}
use Rattle.std.proofs.lemmas.List.Folds.{list_any_at}
use Rattle.std.proofs.lemmas.List.Sums.{sum_by-cons}
use Rattle.sx_base.specs.declared.layout.Layout.{Layout}
use Rattle.sx_base.specs.Held.{held_pages}
use Rattle.sx_base.proofs.Ranges.{kept_at, kept_place}
use Rattle.sx_closure.specs.declared.pair.Pair.{Pair}
use Rattle.sx_closure.specs.Graph.{Graph, IsGraph, Rises, is_held, all_targets, references_to, only, dead_links}
use Rattle.sx_closure.specs.Chains.{one_reference}
use Rattle.sx_closure.proofs.Counting.{to_missing}
use Rattle.sx_follow.specs.Sums.{Sums}
use Rattle.sx_follow.specs.Climbing.{all_of, IsSourced}
use Rattle.sx_follow.specs.Following.{sum_of}
use Rattle.sx_follow.specs.Ones.{the_one}
use Rattle.sx_follow.specs.Widened.{widened, IsWider, missing_count, missing_counts, AreReferencesOf}
use Rattle.sx_refs.specs.Pages.{if_held, graph_of}
use Rattle.sx_refs.specs.Covering.{Covers}
use Rattle.sx_walk.specs.Renewing.{said_count, unsaid_count, said_one}

none_of : (b : Bool) → (b ≡ true → ⊥) → b ≡ false
none_of false none = refl
none_of true none = absurd (none refl)

-- ---- a page is held where it has a view

from_case : (p : ℕ → Bool) (x : ℕ) (xs : List ℕ) (page : ℕ) (b : Bool) → p x ≡ b → is_held (cond b (x ∷ xs) xs) page ≡ true → (is_held xs page ≡ true → p page ≡ true) → p page ≡ true
from_case p x xs page false is there more = more there
from_case p x xs page true is there more =
    elim (or_cases (x == page) (is_held xs page) there) [
      | inl same ↦ ap p (sym (eqb-true x page same)) ∙ is
      | inr rest ↦ more rest
    ]

held_from : (p : ℕ → Bool) (xs : List ℕ) (page : ℕ) → is_held (filter p xs) page ≡ true → p page ≡ true
held_from p [] page there = absurd (false≢true there)
held_from p (x ∷ xs) page there = from_case p x (filter p xs) page (p x) refl there (held_from p xs page)

not_zero : (view : ℕ → Option (List ℕ)) (page : ℕ) → view 0 ≡ None → is_some (view page) ≡ true → 1 ≤ page
not_zero view zero none there = absurd (false≢true (sym (ap is_some none) ∙ there))
not_zero view (suc page) none there = omega arith

not_past : (size : ℕ) (view : ℕ → Option (List ℕ)) (page : ℕ) → ((number : ℕ) → size < number → view number ≡ None) → is_some (view page) ≡ true → page ≤ size
not_past size view page none there =
    elim (cases_lt size page) [
      | inl past ↦ absurd (false≢true (sym (ap is_some (none page past)) ∙ there))
      | inr low ↦ low
    ]

shown_case : (size : ℕ) (view : ℕ → Option (List ℕ)) (page : ℕ) (b : Bool) → ((number : ℕ) → size < number → view number ≡ None) → view 0 ≡ None
    → is_some (view page) ≡ b → is_held (held_pages size view) page ≡ b
unfolding held_pages
shown_case size view page true within from_one is =
    let p : ℕ → Bool = λ number. is_some (view number) in
    let low = not_zero view page from_one is in
    let high = not_past size view page within is in
    let below : page < 1 + size = omega (arith, high) in
    let place = length (filter p (range_with_len 1 (page - 1))) in
    let at : get_or (filter p (range_with_len 1 size)) place 0 ≡ page = kept_at p 1 size page low below is in
    list_any_at (λ n. n == page) (filter p (range_with_len 1 size)) place 0 (kept_place p 1 size page low below is)
    (eq-eqb (get_or (filter p (range_with_len 1 size)) place 0) page at)
shown_case size view page false within from_one is =
    none_of (is_held (filter (λ number. is_some (view number)) (range_with_len 1 size)) page)
    (λ there. false≢true (sym is ∙ held_from (λ number. is_some (view number)) (range_with_len 1 size) page there))

pub shown_held : (size : ℕ) (view : ℕ → Option (List ℕ)) (page : ℕ) → ((number : ℕ) → size < number → view number ≡ None) → view 0 ≡ None
    → is_held (held_pages size view) page ≡ is_some (view page)
shown_held size view page within from_one = shown_case size view page (is_some (view page)) within from_one refl

pub graph_shown : (size : ℕ) (view : ℕ → Option (List ℕ)) (layout : Layout) (roots : List ℤ) (page : ℕ) → ((number : ℕ) → size < number → view number ≡ None) → view 0 ≡ None
    → is_held (graph_of size view layout roots).held page ≡ is_some (view page)
unfolding graph_of
graph_shown size view layout roots page within from_one = shown_held size view page within from_one

-- ---- the graph over all numbers

none_named : (view : Option (List ℕ)) (pair : Pair) (usable : ℕ) → is_some view ≡ false → if_held view pair usable ≡ []
none_named None pair usable is = refl
none_named (Some page) pair usable is = absurd (false≢true (sym is))

pub is_wider : (numbers : List ℕ) (size : ℕ) (view : ℕ → Option (List ℕ)) (layout : Layout) (roots : List ℤ) → Covers numbers view
    → ((number : ℕ) → size < number → view number ≡ None) → view 0 ≡ None → IsWider numbers (graph_of size view layout roots)
unfolding graph_of
is_wider numbers size view layout roots covered within from_one = record {
  held = λ page there.
      let at = covered page (sym (shown_held size view page within from_one) ∙ there) in
      list_any_at (λ n. n == page) numbers at.0 page at.1 (eq-eqb (get_or numbers at.0 page) page at.2);
  none = λ pair out. none_named (view pair.page) pair layout.usable (sym (shown_held size view pair.page within from_one) ∙ out);
}

pub wide_graph : (numbers : List ℕ) (graph : Graph) → IsGraph graph → Rises numbers → length numbers < 2 ^ 32 → IsGraph (widened numbers graph)
wide_graph numbers graph good rises few = record {
  rising = rises;
  few = few;
  no_maps = good.no_maps;
  some = good.some;
  few_roots = good.few_roots;
  sources = good.sources;
  root_sources = good.root_sources;
}

pub wide_sourced : (numbers : List ℕ) (graph : Graph) → IsSourced graph → IsSourced (widened numbers graph)
wide_sourced numbers graph is = record { roots = is.roots; pairs = is.pairs }

-- ---- what the sums say

sum_same : (f g : ℕ → ℕ) (xs : List ℕ) → ((x : ℕ) → f x ≡ g x) → sum_by f xs ≡ sum_by g xs
sum_same f g [] same = refl
sum_same f g (x ∷ xs) same =
    let rest = sum_same f g xs same in
    let first = same x in
    omega (arith, rest, first, sum_by-cons f x xs, sum_by-cons g x xs)

module _ (graph : Graph) (shown : ℕ → Bool) (sums : Sums) (held_is : (page : ℕ) → is_held graph.held page ≡ shown page) (known : AreReferencesOf graph sums) where
  none_to : (page : ℕ) → shown page ≡ false → references_to graph page ≡ []
  none_to page is = to_missing graph.held page (all_targets graph) (held_is page ∙ is)

  count_case : (page : ℕ) (b : Bool) → shown page ≡ b → said_count shown sums page ≡ length (references_to graph page)
  count_case page true is = ap (λ b. cond b (all_of (sum_of sums page)) 0) is ∙ known.counts page (held_is page ∙ is)
  count_case page false is = ap (λ b. cond b (all_of (sum_of sums page)) 0) is ∙ sym (ap length (none_to page is))

  pub said_counts : (page : ℕ) → said_count shown sums page ≡ length (references_to graph page)
  said_counts page = count_case page (shown page) refl

  one_case : (page : ℕ) (b : Bool) → shown page ≡ b → said_one shown sums page ≡ one_reference graph page
  one_case page true is = ap (λ b. cond b (the_one sums page) None) is ∙ known.told page (held_is page ∙ is)
  one_case page false is = ap (λ b. cond b (the_one sums page) None) is ∙ sym (ap only (none_to page is))

  pub said_ones : (page : ℕ) → said_one shown sums page ≡ one_reference graph page
  said_ones page = one_case page (shown page) refl

  pub said_dead : (numbers : List ℕ) (dead : ℕ) → sums.held ≡ numbers → dead ≡ sums.dead + sum_by (unsaid_count shown sums) numbers → dead ≡ length (dead_links graph)
  said_dead numbers dead held is =
      let same : sum_by (unsaid_count shown sums) numbers ≡ missing_counts graph.held sums =
      sum_same (unsaid_count shown sums) (missing_count graph.held sums) numbers (λ page. ap (λ b. cond b 0 (all_of (sum_of sums page))) (sym (held_is page)))
      ∙ ap (sum_by (missing_count graph.held sums)) (sym held) in
      is ∙ ap (λ n. sums.dead + n) same ∙ known.dead
