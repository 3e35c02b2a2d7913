-- Where the pages that changed are steady, the table of the moment before is that of the next.
use Rattle.std.proofs.Common.{◌≡◌, ℕ, suc, ◌+◌, ◌-◌, ◌<◌, ◌≤◌, true, ℤ, List, [], ◌∷◌, length, map, get_or, Option, Some, None, is_some, ◌⊎◌, inl, inr, refl, sym, ap, subst, ◌∙◌, arith}
use Rattle.std.specs.List.{Contains}
use Rattle.std.proofs.lemmas.Bool.{cases_eq, cases_lt}
use Rattle.std.proofs.lemmas.List.{get_or_default}
use Rattle.sx_base.specs.declared.layout.Layout.{Layout}
use Rattle.sx_base.specs.declared.role.Role.{Role}
use Rattle.sx_base.specs.declared.role.Role.TheVariants.{Node, Overflow, Trunk, FreeLeaf, PointerMap}
use Rattle.sx_closure.specs.declared.pair.Pair.{Pair}
use Rattle.sx_closure.specs.Graph.{Graph, IsGraph, is_in, reached}
use Rattle.sx_closure.specs.Tallying.{Table, IsTableOf}
use Rattle.sx_walk.proofs.SameGraph.{IsSameGraph, table_stands, reached_some, reached_one}
use Rattle.sx_refs.specs.Targets.{targets_of}
use Rattle.sx_refs.specs.Pages.{all_roots, if_held, graph_of}
use Rattle.sx_refs.specs.Covering.{Covers}
use Rattle.sx_walk.specs.Turning.{in_the_role, HasUsable}
use Rattle.sx_walk.specs.Steady.{MayBe, NamesSame, IsSteady, AreSteady, IsStanding}
use Rattle.sx_walk.proofs.Views.{Stand, map_at, none_there, first_or}
use Rattle.sx_walk.specs.Keeping.{IsKept}
use Rattle.sx_walk.specs.Renewing.{unsaid_count}
use Rattle.sx_base.specs.Held.{held_pages}
use Rattle.sx_walk.proofs.StepLemmas.{held_same, usable_at, has_usable, next_kept}
use Rattle.sx_follow.specs.Widened.{widened}
use Rattle.sx_closure.specs.declared.pair.Target.{Target}
use Rattle.sx_follow.specs.Sums.{Sums}
use Rattle.sx_follow.specs.Following.{HasFollowed}

-- ---- one page

-- a page of no other role names any
pub names_each : (table : Table) (usable page : ℕ) (before after : List ℕ) → NamesSame table usable page before after Node → NamesSame table usable page before after Overflow
    → NamesSame table usable page before after Trunk → (role : Role) → NamesSame table usable page before after role
unfolding targets_of
names_each table usable page before after node overflow trunk Node = node
names_each table usable page before after node overflow trunk Overflow = overflow
names_each table usable page before after node overflow trunk Trunk = trunk
names_each table usable page before after node overflow trunk FreeLeaf = λ may. refl
names_each table usable page before after node overflow trunk PointerMap = λ may. refl

-- one with the same view is steady
pub same_steady : (table : Table) (usable page : ℕ) (before now : Option (List ℕ)) → before ≡ now → IsSteady table usable page before now
same_steady table usable page before now same = record {
  held = ap is_some (sym same);
  names = λ role may. ap (λ view. if_held view (in_the_role page role) usable) (sym same);
}

-- ---- all pages

-- what holds below a number and at it holds below the next
pub one_more : (P : ℕ → Type 0) (count : ℕ) → ((k : ℕ) → k < count → P k) → P count → (k : ℕ) → k < count + 1 → P k
one_more P count before at k below =
    elim (cases_lt k count) [
      | inl less ↦ before k less
      | inr past ↦ subst P (omega (arith, past, below)) at
    ]

-- a rank is listed or not
pub listed : (changed : List ℕ) (rank : ℕ) → Contains changed rank ⊎ (Contains changed rank → ⊥)
listed [] rank = inr (none_there rank)
listed (one ∷ changed) rank =
    elim (cases_eq rank one) [
      | inl same ↦ inl (0, omega arith, sym same)
      | inr differ ↦ elim (listed changed rank) [
        | inl there ↦ inl (suc there.0, omega (arith, there.1), there.2)
        | inr other ↦ inr (first_or one changed rank differ other)
      ]
    ]

module _ (table : Table) (usable : ℕ) (numbers : List ℕ) (views : List (Option (List ℕ))) (view next : ℕ → Option (List ℕ)) (changed : List ℕ)
    (covered : Covers numbers view) (covers : Covers numbers next) (views_are : views ≡ map view numbers)
    (stand : Stand next numbers changed views) (steady : AreSteady table usable numbers views next changed) where
  by_rank : (rank : ℕ) → rank < length numbers → IsSteady table usable (get_or numbers rank 0) (view (get_or numbers rank 0)) (next (get_or numbers rank 0))
  by_rank rank within =
      let number = get_or numbers rank 0 in
      let kept : get_or views rank None ≡ view number = ap (λ vs. get_or vs rank None) views_are ∙ map_at view numbers rank within in
      elim (listed changed rank) [
        | inl there ↦ subst (λ before. IsSteady table usable number before (next number)) kept (steady rank there)
        | inr other ↦ same_steady table usable number (view number) (next number) (sym kept ∙ stand rank within other)
      ]

  by_place : (number : ℕ) → Contains numbers number → IsSteady table usable number (view number) (next number)
  by_place number (rank, within, is) =
      subst (λ n. IsSteady table usable n (view n) (next n)) (get_or_default numbers rank 0 number within ∙ is) (by_rank rank within)

  none_case : (number : ℕ) (before now : Option (List ℕ)) → view number ≡ before → next number ≡ now → IsSteady table usable number (view number) (next number)
  none_case number (Some page) now was is = by_place number (covered number (ap is_some was))
  none_case number None (Some page) was is = by_place number (covers number (ap is_some is))
  none_case number None None was is = same_steady table usable number (view number) (next number) (was ∙ sym is)

  pub all_steady : (number : ℕ) → IsSteady table usable number (view number) (next number)
  all_steady number = none_case number (view number) (next number) refl refl

-- ---- the graph

-- what is reached may be reached, as far as the table tells
reached_may : (graph : Graph) (body : ℕ) (table : Table) (pair : Pair) → IsTableOf graph body table → is_in (reached graph) pair ≡ true → MayBe table pair.page pair.role
reached_may graph body table pair is there = record {
  some = reached_some graph body table pair is there;
  one = λ target one. ap (λ p. p.role) (reached_one graph body table pair target is there one);
}

same_graph : (size : ℕ) (view next : ℕ → Option (List ℕ)) (layout : Layout) (roots : List ℤ) (body : ℕ) (table : Table) → IsTableOf (graph_of size view layout roots) body table
    → ((number : ℕ) → IsSteady table layout.usable number (view number) (next number)) → IsSameGraph (graph_of size view layout roots) (graph_of size next layout roots)
unfolding graph_of
same_graph size view next layout roots body table is steady =
    let held = held_same size view next (λ number. (steady number).held) in
    record {
      held = held;
      roots = ap (λ pages. all_roots pages layout roots) held;
      targets = λ pair there. sym ((steady pair.page).names pair.role (reached_may (graph_of size view layout roots) body table pair is there));
    }

-- the table of the moment before is that of the next
pub still_table : (numbers : List ℕ) (views : List (Option (List ℕ))) (size : ℕ) (layout : Layout) (roots : List ℤ) (table : Table) (next : ℕ → Option (List ℕ)) (changed : List ℕ)
    → IsStanding numbers views size layout roots table → Covers numbers next → Stand next numbers changed views → AreSteady table layout.usable numbers views next changed
    → IsTableOf (graph_of size next layout roots) (layout.usable - 4) table
still_table numbers views size layout roots table next changed kept covers stand steady =
    let each = all_steady table layout.usable numbers views kept.view next changed kept.covered covers kept.views_are stand steady in
    table_stands (graph_of size kept.view layout roots) (graph_of size next layout roots) (layout.usable - 4) table
    (same_graph size kept.view next layout roots (layout.usable - 4) table kept.table_is each) kept.table_is

-- ---- what is kept of a moment

pub standing_usable : (numbers : List ℕ) (views : List (Option (List ℕ))) (size : ℕ) (layout : Layout) (roots : List ℤ) (table : Table)
    → IsStanding numbers views size layout roots table → (rank : ℕ) → HasUsable layout.usable (get_or views rank None)
standing_usable numbers views size layout roots table kept rank =
    subst (λ all. HasUsable layout.usable (get_or all rank None)) (sym kept.views_are) (usable_at layout.usable kept.view numbers rank kept.usable)

pub next_standing : (numbers : List ℕ) (views : List (Option (List ℕ))) (size : ℕ) (layout : Layout) (roots : List ℤ) (table : Table) (next : ℕ → Option (List ℕ)) (page_size : ℕ)
    → Covers numbers next → views ≡ map next numbers → layout.usable ≤ page_size → page_size ≤ 65536
    → ((number : ℕ) (page : List ℕ) → next number ≡ Some page → length page ≡ page_size) → IsTableOf (graph_of size next layout roots) (layout.usable - 4) table
    → IsStanding numbers views size layout roots table
next_standing numbers views size layout roots table next page_size covered are within small whole is = record {
  view = next;
  covered = covered;
  views_are = are;
  usable = λ number. has_usable layout.usable page_size (next number) within small (whole number);
  table_is = is;
}

-- a table of one setting is that of another that is the same
pub other_setting : (size : ℕ) (layout : Layout) (roots : List ℤ) (size_now : ℕ) (layout_now : Layout) (roots_now : List ℤ) (view : ℕ → Option (List ℕ)) (table : Table)
    → size ≡ size_now → layout ≡ layout_now → roots ≡ roots_now → IsTableOf (graph_of size view layout roots) (layout.usable - 4) table
    → IsTableOf (graph_of size_now view layout_now roots_now) (layout_now.usable - 4) table
other_setting size layout roots size_now layout_now roots_now view table sizes layouts rootses is =
    subst (λ n. IsTableOf (graph_of n view layout_now roots_now) (layout_now.usable - 4) table) sizes
    (subst (λ some. IsTableOf (graph_of size view layout_now some) (layout_now.usable - 4) table) rootses
    (subst (λ some. IsTableOf (graph_of size view some roots) (some.usable - 4) table) layouts is))

-- the same table stands for the next moment
module _ (numbers : List ℕ) (views : List (Option (List ℕ))) (size : ℕ) (layout : Layout) (roots : List ℤ) (table : Table) (next : ℕ → Option (List ℕ)) (changed : List ℕ)
    (size_now : ℕ) (layout_now : Layout) (roots_now : List ℤ) (kept : IsStanding numbers views size layout roots table) (covers : Covers numbers next) (stand : Stand next numbers changed views)
    (steady : AreSteady table layout_now.usable numbers views next changed) (sizes : size ≡ size_now) (layouts : layout ≡ layout_now) (rootses : roots ≡ roots_now) where
  before : IsTableOf (graph_of size next layout roots) (layout.usable - 4) table
  before =
      still_table numbers views size layout roots table next changed kept covers stand
      (subst (λ some. AreSteady table some.usable numbers views next changed) (sym layouts) steady)

  pub still_is : IsTableOf (graph_of size_now next layout_now roots_now) (layout_now.usable - 4) table
  still_is = other_setting size layout roots size_now layout_now roots_now next table sizes layouts rootses before

  pub still_standing : (page_size : ℕ) → layout_now.usable ≤ page_size → page_size ≤ 65536 → ((number : ℕ) (page : List ℕ) → next number ≡ Some page → length page ≡ page_size)
      → IsStanding numbers (map next numbers) size layout roots table
  still_standing page_size within small whole =
      next_standing numbers (map next numbers) size layout roots table next page_size covers refl (subst (λ some. some.usable ≤ page_size) (sym layouts) within) small whole before

-- what is known of a moment, as a walk keeps it
pub one_kept : (numbers : List ℕ) (views : List (Option (List ℕ))) (size : ℕ) (layout : Layout) (roots : List ℤ) (table : Table) (next : ℕ → Option (List ℕ))
    (size_now : ℕ) (layout_now : Layout) (roots_now : List ℤ) (page_size : ℕ) → Covers numbers next → views ≡ map next numbers → layout_now.usable ≤ page_size → page_size ≤ 65536
    → ((number : ℕ) (page : List ℕ) → next number ≡ Some page → length page ≡ page_size) → size ≡ size_now → layout ≡ layout_now → roots ≡ roots_now
    → IsTableOf (graph_of size_now next layout_now roots_now) (layout_now.usable - 4) table → IsStanding numbers views size layout roots table
one_kept numbers views size layout roots table next size_now layout_now roots_now page_size covered are within small whole sizes layouts rootses is =
    next_standing numbers views size layout roots table next page_size covered are (subst (λ some. some.usable ≤ page_size) (sym layouts) within) small whole
    (other_setting size_now layout_now roots_now size layout roots next table (sym sizes) (sym layouts) (sym rootses) is)

-- with sums
pub both_kept : (numbers : List ℕ) (views : List (Option (List ℕ))) (size : ℕ) (layout : Layout) (roots : List ℤ) (table : Table) (sums : Sums) (trail : List Target) (missing : List ℕ) (next : ℕ → Option (List ℕ))
    (size_now : ℕ) (layout_now : Layout) (roots_now : List ℤ) (page_size : ℕ) → Covers numbers next → views ≡ map next numbers → layout_now.usable ≤ page_size → page_size ≤ 65536
    → ((number : ℕ) (page : List ℕ) → next number ≡ Some page → length page ≡ page_size) → ((number : ℕ) → size_now < number → next number ≡ None) → next 0 ≡ None
    → size ≡ size_now → layout ≡ layout_now → roots ≡ roots_now
    → IsGraph (graph_of size_now next layout_now roots_now) → IsGraph (widened numbers (graph_of size_now next layout_now roots_now))
    → IsTableOf (graph_of size_now next layout_now roots_now) (layout_now.usable - 4) table
    → HasFollowed (widened numbers (graph_of size_now next layout_now roots_now)) sums → trail ≡ all_roots (held_pages size_now next) layout_now roots_now
    → missing ≡ map (unsaid_count (λ number. is_some (next number)) sums) numbers → IsStanding numbers views size layout roots table × IsKept numbers views layout.usable table sums trail missing
both_kept numbers views size layout roots table sums trail missing next size_now layout_now roots_now page_size covered are fits small whole within from_one sizes layouts rootses good wide is followed trail_is missing_is = (
  one_kept numbers views size layout roots table next size_now layout_now roots_now page_size covered are fits small whole sizes layouts rootses is,
  next_kept numbers views size_now layout_now roots_now table sums trail missing next page_size layout.usable (ap (λ some. some.usable) (sym layouts)) covered are fits small whole within from_one good wide
      is followed trail_is missing_is,
)
