-- Marks that grow, and lists of ranks that are to be looked at.
use Rattle.std.proofs.Common.{◌≡◌, ℕ, zero, suc, ◌+◌, ◌-◌, ◌<◌, ◌≤◌, ◌⊎◌, inl, inr, Bool, true, false, not, cond, List, [], ◌∷◌, ◌++◌, length, map, set, get_or, Option, None, Result, Ok, Err, refl, sym, ap, subst, ◌∙◌, arith, append_assoc, Contains}
use Rattle.std.specs.List.{All}
use Rattle.std.specs.Prelude.{OnOk}
use Rattle.std.specs.List.Sorted.{IsStrictlyIncreasing}
use Rattle.std.proofs.lemmas.Bool.{cases_eq, cases_lt}
use Rattle.std.proofs.lemmas.List.{get_or-set_same, get_or-set_other, length-set, length-append, get_or_default}
use Rattle.std.proofs.lemmas.List.Elements.{All-push, All-weaker, Contains-push, Contains-push_cases, Contains-append_left}
use Rattle.std.proofs.lemmas.List.Sums.{sum_by-set}
use Rattle.std.proofs.Math.ListN.{get_or-map}
use Rattle.sx_node.specs.Targets.{targets_of}
use Rattle.sx_node.specs.declared.targets.NodeTarget.{NodeTarget}
use Rattle.sx_node.specs.declared.targets.NodeTarget.TheVariants.{Child, Overflow, Right}
use Rattle.sx_history.specs.Closed.{AllNamed, IsLinked, IsNamed}
use Rattle.sx_overflow.specs.Chains.{link_of}
use Rattle.sx_history.specs.Marks.{AreKept, AreLinkedBut, AreNamedBut, Grows, IsNoted, is_marked, view_at}

pub grows_none : (marks : List Bool) (work : List ℕ) → Grows marks marks work work
grows_none marks work = record {
  long = refl;
  kept = λ rank is. is;
  fresh = λ rank is. inl is;
  listed = λ rank there. there;
  count = refl;
}

fresh_then : (before now then_ : List Bool) (work more most : List ℕ) → Grows before now work more → Grows now then_ more most → (rank : ℕ)
    → (is_marked now rank ≡ true) ⊎ Contains most rank → (is_marked before rank ≡ true) ⊎ Contains most rank
fresh_then before now then_ work more most first next rank (inr there) = inr there
fresh_then before now then_ work more most first next rank (inl is) =
    elim (first.fresh rank is) [
      | inl old ↦ inl old
      | inr there ↦ inr (next.listed rank there)
    ]

pub grows_then : (before now then_ : List Bool) (work more most : List ℕ) → Grows before now work more → Grows now then_ more most → Grows before then_ work most
grows_then before now then_ work more most first next = record {
  long = next.long ∙ first.long;
  kept = λ rank is. next.kept rank (first.kept rank is);
  fresh = λ rank is. fresh_then before now then_ work more most first next rank (next.fresh rank is);
  listed = λ rank there. next.listed rank (first.listed rank there);
  count = next.count ∙ first.count;
}

-- ---- one mark more

one_marked : (marks : List Bool) (rank one : ℕ) → rank < length marks → (one ≡ rank) ⊎ (one ≡ rank → ⊥) → is_marked marks one ≡ true → is_marked (set marks rank true) one ≡ true
one_marked marks rank one within (inl same) is = ap (is_marked (set marks rank true)) same ∙ get_or-set_same marks rank true false within
one_marked marks rank one within (inr differ) is = get_or-set_other marks rank one true false differ ∙ is

one_fresh : (marks : List Bool) (work : List ℕ) (rank one : ℕ) → (one ≡ rank) ⊎ (one ≡ rank → ⊥) → is_marked (set marks rank true) one ≡ true
    → (is_marked marks one ≡ true) ⊎ Contains (work ++ rank ∷ []) one
one_fresh marks work rank one (inl same) is = inr (subst (Contains (work ++ rank ∷ [])) (sym same) (Contains-push work rank))
one_fresh marks work rank one (inr differ) is = inl (sym (get_or-set_other marks rank one true false differ) ∙ is)

pub grows_one : (marks : List Bool) (work : List ℕ) (rank : ℕ) → rank < length marks → is_marked marks rank ≡ false → Grows marks (set marks rank true) work (work ++ rank ∷ [])
grows_one marks work rank within unmarked = record {
  long = length-set marks rank true;
  kept = λ one is. one_marked marks rank one within (cases_eq one rank) is;
  fresh = λ one is. one_fresh marks work rank one (cases_eq one rank) is;
  listed = λ one there. Contains-append_left work (rank ∷ []) one there;
  count =
      let less = sum_by-set (λ (mark : Bool). cond (not mark) 1 0) marks rank true false within in
      let long : length (work ++ rank ∷ []) ≡ length work + 1 = length-append work (rank ∷ []) in
      let had : ◌≡◌ {A = ℕ} (cond (not (get_or marks rank false)) 1 0) 1 = ap (λ mark. cond (not mark) 1 0) unmarked in
      omega (arith, less, long, had);
}

pub noted_one : (numbers : List ℕ) (marks : List Bool) (rank number : ℕ) → length marks ≡ length numbers → rank < length numbers → get_or numbers rank 0 ≡ number → is_marked marks rank ≡ true
    → IsNoted numbers marks number
noted_one numbers marks rank number long within at is there = (rank, within, at, is)

-- ---- what is noted stays so

pub noted_still : (numbers : List ℕ) (before now : List Bool) (number : ℕ) → ((rank : ℕ) → is_marked before rank ≡ true → is_marked now rank ≡ true)
    → IsNoted numbers before number → IsNoted numbers now number
noted_still numbers before now number kept noted there =
    let at = noted there in
    (at.0, at.1, at.2, kept at.0 at.3)

named_more : (Node More Chain Rest : ℕ → Type 0) → ((n : ℕ) → Node n → More n) → ((n : ℕ) → Chain n → Rest n) → (target : NodeTarget) → IsNamed Node Chain target → IsNamed More Rest target
named_more Node More Chain Rest nodes chains (Child index page) is = nodes page is
named_more Node More Chain Rest nodes chains (Overflow index page rest) is = chains page is
named_more Node More Chain Rest nodes chains (Right page) is = nodes page is

pub all_named_more : (Node More Chain Rest : ℕ → Type 0) → ((n : ℕ) → Node n → More n) → ((n : ℕ) → Chain n → Rest n) → (targets : List NodeTarget)
    → All (IsNamed Node Chain) targets → All (IsNamed More Rest) targets
all_named_more Node More Chain Rest nodes chains targets all =
    All-weaker (IsNamed Node Chain) (IsNamed More Rest) (λ target is. named_more Node More Chain Rest nodes chains target is) targets all

-- ---- numbers that rise

rise_more : (xs : List ℕ) → IsStrictlyIncreasing xs → (i more : ℕ) → i + more < length xs → get_or xs i 0 ≤ get_or xs (i + more) 0
rise_more xs rising i zero within = omega (arith, ap (λ n. get_or xs n 0) (let same : i + 0 ≡ i = omega arith in same))
rise_more xs rising i (suc more) within =
    let at : i + more + 1 ≡ i + suc more = omega arith in
    omega (arith, rise_more xs rising i more (omega (arith, within)), rising (i + more) (omega (arith, within)), ap (λ n. get_or xs n 0) at)

pub rise_upto : (xs : List ℕ) → IsStrictlyIncreasing xs → (i j : ℕ) → i ≤ j → j < length xs → get_or xs i 0 ≤ get_or xs j 0
rise_upto xs rising i j le within =
    let at : i + (j - i) ≡ j = omega (arith, le) in
    omega (arith, rise_more xs rising i (j - i) (omega (arith, at, within)), ap (λ n. get_or xs n 0) at)

-- a number that a search didn't find is none of them
pub not_found : (xs : List ℕ) (x i : ℕ) → ((k : ℕ) → k < i → get_or xs k 0 < x) → ((k : ℕ) → i ≤ k → k < length xs → x < get_or xs k 0) → Contains xs x → ⊥
not_found xs x i front back (k, within, is) =
    let at : get_or xs k 0 ≡ x = sym (get_or_default xs k x 0 within) ∙ is in
    elim (cases_lt k i) [
      | inl less ↦ absurd (omega (arith, front k less, at))
      | inr past ↦ absurd (omega (arith, back k (omega (arith, past)) within, at))
    ]

-- ---- the view of a rank

pub view_is : {A : Type 0} (copied : Option A → Option (List ℕ)) (views : List (Option A)) (rank : ℕ) (found : Option A) → copied None ≡ None → get_or views rank None ≡ found
    → view_at (map copied views) rank ≡ copied found
view_is copied views rank found none is =
    ap (λ d. get_or (map copied views) rank d) (sym none) ∙ get_or-map copied views rank None ∙ ap copied is

-- ---- the work

-- what is named stays so
pub names_still : (numbers : List ℕ) (nodes more chains rest : List Bool) (usable number : ℕ) (view : Option (List ℕ)) → AreKept nodes more → AreKept chains rest
    → AllNamed (IsNoted numbers nodes) (IsNoted numbers chains) usable number view → AllNamed (IsNoted numbers more) (IsNoted numbers rest) usable number view
names_still numbers nodes more chains rest usable number view kept_nodes kept_chains all page node is read =
    all_named_more (IsNoted numbers nodes) (IsNoted numbers more) (IsNoted numbers chains) (IsNoted numbers rest)
    (λ n. noted_still numbers nodes more n kept_nodes) (λ n. noted_still numbers chains rest n kept_chains) (targets_of node) (all page node is read)

pub link_still : (numbers : List ℕ) (chains rest : List Bool) (view : Option (List ℕ)) → AreKept chains rest → IsLinked (IsNoted numbers chains) view → IsLinked (IsNoted numbers rest) view
link_still numbers chains rest view kept linked page is = noted_still numbers chains rest (link_of page) kept (linked page is)

-- a b-tree page that was looked at comes off the list
module _ (numbers : List ℕ) (views : List (Option (List ℕ))) (usable : ℕ) (nodes more chains rest : List Bool) (work all most later latest : List ℕ) (rank : ℕ)
    (taken : all ≡ work ++ rank ∷ []) (named : AreNamedBut numbers views usable nodes chains all) (grown : Grows nodes more work most) (chained : Grows chains rest later latest)
    (at : is_marked nodes rank ≡ true → AllNamed (IsNoted numbers more) (IsNoted numbers rest) usable (get_or numbers rank 0) (view_at views rank)) where
  from_list : (one : ℕ) → is_marked nodes one ≡ true → Contains work one ⊎ (rank ≡ one)
      → Contains most one ⊎ AllNamed (IsNoted numbers more) (IsNoted numbers rest) usable (get_or numbers one 0) (view_at views one)
  from_list one is (inl there) = inl (grown.listed one there)
  from_list one is (inr same) =
      inr (subst (λ k. AllNamed (IsNoted numbers more) (IsNoted numbers rest) usable (get_or numbers k 0) (view_at views k)) same (at (ap (is_marked nodes) same ∙ is)))

  from_old : (one : ℕ) → one < length numbers → is_marked nodes one ≡ true
      → Contains most one ⊎ AllNamed (IsNoted numbers more) (IsNoted numbers rest) usable (get_or numbers one 0) (view_at views one)
  from_old one below is =
      elim (named one below is) [
        | inl there ↦ from_list one is (Contains-push_cases work rank one (subst (λ l. Contains l one) taken there))
        | inr before ↦ inr (names_still numbers nodes more chains rest usable (get_or numbers one 0) (view_at views one) grown.kept chained.kept before)
      ]

  pub named_next : AreNamedBut numbers views usable more rest most
  named_next one below is =
      elim (grown.fresh one is) [
        | inl old ↦ from_old one below old
        | inr there ↦ inl there
      ]

-- so does an overflow page
module _ (numbers : List ℕ) (views : List (Option (List ℕ))) (chains rest : List Bool) (work all most : List ℕ) (rank : ℕ)
    (taken : all ≡ work ++ rank ∷ []) (linked : AreLinkedBut numbers views chains all) (grown : Grows chains rest work most)
    (at : is_marked chains rank ≡ true → IsLinked (IsNoted numbers rest) (view_at views rank)) where
  link_list : (one : ℕ) → is_marked chains one ≡ true → Contains work one ⊎ (rank ≡ one) → Contains most one ⊎ IsLinked (IsNoted numbers rest) (view_at views one)
  link_list one is (inl there) = inl (grown.listed one there)
  link_list one is (inr same) = inr (subst (λ k. IsLinked (IsNoted numbers rest) (view_at views k)) same (at (ap (is_marked chains) same ∙ is)))

  link_old : (one : ℕ) → one < length numbers → is_marked chains one ≡ true → Contains most one ⊎ IsLinked (IsNoted numbers rest) (view_at views one)
  link_old one below is =
      elim (linked one below is) [
        | inl there ↦ link_list one is (Contains-push_cases work rank one (subst (λ l. Contains l one) taken there))
        | inr before ↦ inr (link_still numbers chains rest (view_at views one) grown.kept before)
      ]

  pub linked_next : AreLinkedBut numbers views rest most
  linked_next one below is =
      elim (grown.fresh one is) [
        | inl old ↦ link_old one below old
        | inr there ↦ inl there
      ]

-- marks that grow are open but for what is listed
pub linked_grown : (numbers : List ℕ) (views : List (Option (List ℕ))) (chains rest : List Bool) (work more : List ℕ) → AreLinkedBut numbers views chains work → Grows chains rest work more
    → AreLinkedBut numbers views rest more
linked_grown numbers views chains rest work more linked grown one below is =
    elim (grown.fresh one is) [
      | inl old ↦ elim (linked one below old) [
        | inl there ↦ inl (grown.listed one there)
        | inr before ↦ inr (link_still numbers chains rest (view_at views one) grown.kept before)
      ]
      | inr there ↦ inl there
    ]

pub named_grown : (numbers : List ℕ) (views : List (Option (List ℕ))) (usable : ℕ) (nodes more chains rest : List Bool) (work most : List ℕ) → AreNamedBut numbers views usable nodes chains work
    → Grows nodes more work most → AreKept chains rest → AreNamedBut numbers views usable more rest most
named_grown numbers views usable nodes more chains rest work most named grown kept one below is =
    elim (grown.fresh one is) [
      | inl old ↦ elim (named one below old) [
        | inl there ↦ inl (grown.listed one there)
        | inr before ↦ inr (names_still numbers nodes more chains rest usable (get_or numbers one 0) (view_at views one) grown.kept kept before)
      ]
      | inr there ↦ inl there
    ]

pub names_kept : (numbers : List ℕ) (views : List (Option (List ℕ))) (usable : ℕ) (nodes chains rest : List Bool) → AreKept chains rest
    → AreNamedBut numbers views usable nodes chains [] → AreNamedBut numbers views usable nodes rest []
names_kept numbers views usable nodes chains rest kept named =
    named_grown numbers views usable nodes nodes chains rest [] [] named (grows_none nodes []) kept

pub on_ok_both : {A E : Type 0} (P Q : Type 0) (result : Result A E) → OnOk result P → OnOk result Q → OnOk result (P × Q)
on_ok_both P Q (Ok done) first second = (first, second)
on_ok_both P Q (Err fault) first second = tt

-- ---- one target more

pub named_target : (numbers : List ℕ) (nodes more chains rest : List Bool) (all left next : List NodeTarget) (target : NodeTarget) → AreKept nodes more → AreKept chains rest
    → IsNamed (IsNoted numbers more) (IsNoted numbers rest) target → left ≡ target ∷ next
    → (gone : List NodeTarget) × (all ≡ gone ++ left) × All (IsNamed (IsNoted numbers nodes) (IsNoted numbers chains)) gone
    → (gone : List NodeTarget) × (all ≡ gone ++ next) × All (IsNamed (IsNoted numbers more) (IsNoted numbers rest)) gone
named_target numbers nodes more chains rest all left next target kept_nodes kept_chains is first (gone, are, named) = (
  gone ++ target ∷ [],
  are ∙ ap (λ l. gone ++ l) first ∙ sym (append_assoc gone (target ∷ []) next),
  All-push (IsNamed (IsNoted numbers more) (IsNoted numbers rest)) gone target
      (all_named_more (IsNoted numbers nodes) (IsNoted numbers more) (IsNoted numbers chains) (IsNoted numbers rest)
      (λ n. noted_still numbers nodes more n kept_nodes) (λ n. noted_still numbers chains rest n kept_chains) gone named) is,
)
