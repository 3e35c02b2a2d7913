-- What is kept of a moment stands for the next, where the pages that changed are steady.
use Rattle.std.proofs.Common.{◌≡◌, ℕ, ℤ, zero, suc, ◌+◌, ◌-◌, ◌<◌, ◌≤◌, ◌⊎◌, inl, inr, Bool, true, false, List, [], ◌∷◌, ◌++◌, length, map, replicate, get_or, Option, Some, None, is_some, Result, Ok, Err, refl, sym, ap, subst, ◌∙◌, arith, Contains}
use Rattle.std.specs.Prelude.{IsTrue, IsSome}
use Rattle.std.specs.List.{flat_map, range_with_len}
use Rattle.std.proofs.lemmas.Bool.{cases_eq, cases_lt}
use Rattle.std.proofs.lemmas.List.{get_or_default}
use Rattle.std.proofs.lemmas.List.Elements.{All-nil, All-same}
use Rattle.sx_cell.specs.declared.cell.Cell.{Cell}
use Rattle.sx_cell.specs.declared.cell.CellFault.{CellFault}
use Rattle.sx_cell.specs.Kinds.{has_child}
use Rattle.sx_cell.specs.Local.{spilled}
use Rattle.sx_cell.proofs.CellLemmas.{has_ranges}
use Rattle.sx_node.specs.Nodes.{NodePage, node_of, cell_count, cell_in, pointer_at, right_child}
use Rattle.sx_node.specs.Targets.{targets_of, cell_targets, cell_targets_from, child_target, overflow_target, right_target}
use Rattle.sx_history.specs.declared.listing.History.{History}
use Rattle.sx_history.specs.Given.{faults_by, items_by}
use Rattle.sx_history.specs.History.{faults_of, found_of}
use Rattle.sx_history.specs.Leaves.{IsLeaf, IsLocal, StaysLeaf}
use Rattle.sx_history.specs.Closed.{AllNamed, AreAlike, IsClosed, IsLinked, IsNamed, IsSteady}
use Rattle.sx_history.specs.Marks.{AreLinkedBut, AreMarked, AreNamedBut, AreWhole, IsNoted, IsWhole, is_marked, view_at}
use Rattle.sx_history.specs.Standing.{AreSteady, Covers, IfStanding, IsStanding, IsSteadyPage, IsWatched, StandBut}
use Rattle.sx_history.proofs.Trees.{read_is}
use Rattle.sx_history.proofs.Says.{faults_same, found_same}

-- ---- a leaf whose cells hold their payloads names no page

child_none : (child : Option ℕ) (index : ℕ) (leaf : Bool) → leaf ≡ false → (IsSome child → IsTrue leaf) → child_target index child ≡ []
child_none None index leaf is child = refl
child_none (Some n) index leaf is child = let clash : true ≡ false = sym (child refl) ∙ is in cc

overflow_none : (overflow : Option ℕ) (index rest local payload : ℕ) → payload - local ≡ 0 → (IsSome overflow → local < payload) → overflow_target index rest overflow ≡ []
overflow_none None index rest local payload none spills = refl
overflow_none (Some n) index rest local payload none spills = absurd (omega (arith, none, spills refl))

cell_none : (node : NodePage) (index : ℕ) (read : Result Cell CellFault) → 480 ≤ node.usable → node.usable ≤ length node.page → has_child node.kind ≡ false
    → cell_in node index ≡ read → IsLocal read → cell_targets index read ≡ []
cell_none node index (Err fault) least within leaf is local = refl
cell_none node index (Ok cell) least within leaf is local =
    let ranges = has_ranges node.kind node.page (pointer_at node index) node.usable cell least within is in
    ap (λ l. l ++ overflow_target index (spilled cell) cell.overflow) (child_none cell.child index (has_child node.kind) leaf (λ some. ranges.child.0 some))
    ∙ overflow_none cell.overflow index (spilled cell) cell.local cell.payload local (λ some. ranges.spilled.0 some)

cells_none : (node : NodePage) (many index : ℕ) → 480 ≤ node.usable → node.usable ≤ length node.page → IsLeaf node → index + many ≤ cell_count node
    → flat_map (λ i. cell_targets i (cell_in node i)) (range_with_len index many) ≡ []
cells_none node zero index least within leaf few = refl
cells_none node (suc many) index least within leaf few =
    ap (λ l. l ++ flat_map (λ i. cell_targets i (cell_in node i)) (range_with_len (index + 1) many))
    (cell_none node index (cell_in node index) least within leaf.leaf refl (leaf.local index (omega (arith, few))))
    ∙ cells_none node many (index + 1) least within leaf (omega (arith, few))

right_none : (node : NodePage) → has_child node.kind ≡ false → right_target (right_child node) ≡ []
unfolding right_child
right_none node leaf = rw leaf refl

targets_none : (node : NodePage) → 480 ≤ node.usable → node.usable ≤ length node.page → IsLeaf node → targets_of node ≡ []
unfolding cell_targets_from
targets_none node least within leaf =
    ap (λ l. l ++ right_target (right_child node)) (cells_none node (cell_count node - 0) 0 least within leaf (omega arith))
    ∙ right_none node leaf.leaf

leaf_named : (Node Chain : ℕ → Type 0) (usable number : ℕ) (rowid : ℤ) (before now : Option (List ℕ)) → 480 ≤ usable → IsWhole usable now → StaysLeaf usable number rowid before now
    → AllNamed Node Chain usable number now
leaf_named Node Chain usable number rowid (Some before) (Some now) least whole same page node is read =
    let own : Some page ≡ Some now = sym is in
    let pages : page ≡ now = cc in
    let both : Ok node ≡ Ok same.says.node = sym read ∙ ap (λ p. node_of p number usable) pages ∙ same.says.read in
    let nodes : node ≡ same.says.node = cc in
    let of_ = read_is now number usable same.says.node same.says.read in
    All-same (IsNamed Node Chain) (targets_of node) []
    (ap targets_of nodes ∙ targets_none same.says.node (omega (arith, least, of_.same_usable)) (omega (arith, whole.0, of_.same_usable, ap length of_.same_page)) same.says.leaf)
    (All-nil (IsNamed Node Chain))
leaf_named Node Chain usable number rowid (Some before) None least whole same page node is read = absurd same
leaf_named Node Chain usable number rowid None (Some now) least whole same page node is read = absurd same
leaf_named Node Chain usable number rowid None None least whole same page node is read = absurd same

-- ---- lists

pub none_there : (x : ℕ) → Contains [] x → ⊥
none_there x (k, within, is) = omega (arith, within)

pub first_or : (one : ℕ) (changed : List ℕ) (x : ℕ) → (x ≡ one → ⊥) → (Contains changed x → ⊥) → Contains (one ∷ changed) x → ⊥
first_or one changed x differ other (zero, within, is) = differ (sym is)
first_or one changed x differ other (suc k, within, is) = other (k, omega (arith, within), is)

-- a rank is listed or not
pub listed : (changed : List ℕ) (rank : ℕ) → Contains changed rank ⊎ (Contains changed rank → ⊥)
listed [] rank = inr (none_there rank)
listed (one ∷ changed) rank =
    elim (cases_eq rank one) [
      | inl same ↦ inl (0, omega arith, sym same)
      | inr differ ↦ elim (listed changed rank) [
        | inl there ↦ inl (suc there.0, omega (arith, there.1), there.2)
        | inr other ↦ inr (first_or one changed rank differ other)
      ]
    ]

-- what holds below a number and at it holds below the next
pub one_more : (P : ℕ → Type 0) (count : ℕ) → ((k : ℕ) → k < count → P k) → P count → (k : ℕ) → k < count + 1 → P k
one_more P count before at k below =
    elim (cases_lt k count) [
      | inl less ↦ before k less
      | inr past ↦ subst P (omega (arith, past, below)) at
    ]

pub map_at : (view : ℕ → Option (List ℕ)) (numbers : List ℕ) (i : ℕ) → i < length numbers → get_or (map view numbers) i None ≡ view (get_or numbers i 0)
map_at view [] i within = absurd (omega (arith, within))
map_at view (number ∷ numbers) zero within = refl
map_at view (number ∷ numbers) (suc i) within = map_at view numbers i (omega (arith, within))

-- ---- one page

pub same_steady : (usable number : ℕ) (rowid : ℤ) (before now : Option (List ℕ)) (node chain : Bool) → before ≡ now → IsSteadyPage usable number rowid before now node chain
same_steady usable number rowid before now node chain same = record {
  held = ap is_some (sym same);
  leaf = λ marked. inl (sym same);
  same = λ marked. sym same;
}

room_of : (usable : ℕ) (view : ℕ → Option (List ℕ)) → ((number : ℕ) → IsWhole usable (view number)) → (number : ℕ) (page : List ℕ) → view number ≡ Some page → usable ≤ length page
room_of usable view whole number page is = (subst (IsWhole usable) is (whole number)).0

-- ---- all pages

module _ (numbers : List ℕ) (views : List (Option (List ℕ))) (usable root : ℕ) (nodes chains : List Bool)
    (kept : IsWatched numbers views usable root nodes chains) (next : ℕ → Option (List ℕ)) (changed : List ℕ) (covers : Covers numbers next)
    (stand : StandBut changed numbers views next) (whole : (number : ℕ) → IsWhole usable (next number)) where
  pub kept_at : (rank : ℕ) → rank < length numbers → view_at views rank ≡ kept.view (get_or numbers rank 0)
  kept_at rank within = ap (λ vs. view_at vs rank) kept.views_are ∙ map_at kept.view numbers rank within

  module _ (rowid : ℤ) (steady : AreSteady usable rowid numbers views next nodes chains changed) where
    by_rank : (rank : ℕ) → rank < length numbers → IsSteadyPage usable (get_or numbers rank 0) rowid (kept.view (get_or numbers rank 0)) (next (get_or numbers rank 0)) (is_marked nodes rank) (is_marked chains rank)
    by_rank rank within =
        let number = get_or numbers rank 0 in
        elim (listed changed rank) [
          | inl there ↦ subst (λ before. IsSteadyPage usable number rowid before (next number) (is_marked nodes rank) (is_marked chains rank)) (kept_at rank within) (steady rank there)
          | inr other ↦ same_steady usable number rowid (kept.view number) (next number) (is_marked nodes rank) (is_marked chains rank) (sym (kept_at rank within) ∙ stand rank within other)
        ]

    among_case : (number : ℕ) (before now : Option (List ℕ)) → kept.view number ≡ before → next number ≡ now → Contains numbers number ⊎ (next number ≡ kept.view number)
    among_case number (Some page) now was is = inl (kept.covered number (ap is_some was))
    among_case number None (Some page) was is = inl (covers number (ap is_some is))
    among_case number None None was is = inr (is ∙ sym was)

    pub among : (number : ℕ) → Contains numbers number ⊎ (next number ≡ kept.view number)
    among number = among_case number (kept.view number) (next number) refl refl

    held_at : (number : ℕ) → Contains numbers number → is_some (next number) ≡ is_some (kept.view number)
    held_at number (rank, within, is) =
        subst (λ n. is_some (next n) ≡ is_some (kept.view n)) (get_or_default numbers rank 0 number within ∙ is) (by_rank rank within).held

    leaf_at : (number : ℕ) → IsNoted numbers nodes number → Contains numbers number → (next number ≡ kept.view number) ⊎ StaysLeaf usable number rowid (kept.view number) (next number)
    leaf_at number noted there =
        let at = noted there in
        subst (λ n. (next n ≡ kept.view n) ⊎ StaysLeaf usable n rowid (kept.view n) (next n)) at.2 ((by_rank at.0 at.1).leaf at.3)

    same_at : (number : ℕ) → IsNoted numbers chains number → Contains numbers number → next number ≡ kept.view number
    same_at number noted there =
        let at = noted there in
        subst (λ n. next n ≡ kept.view n) at.2 ((by_rank at.0 at.1).same at.3)

    is_steady : IsSteady usable rowid kept.view next (IsNoted numbers nodes) (IsNoted numbers chains)
    is_steady = record {
      held = λ number. elim (among number) [ inl there ↦ held_at number there | inr same ↦ ap is_some same ];
      node = λ number noted. elim (among number) [ inl there ↦ leaf_at number noted there | inr same ↦ inl same ];
      chain = λ number noted. elim (among number) [ inl there ↦ same_at number noted there | inr same ↦ same ];
    }

    named_at : (rank number : ℕ) → rank < length numbers → get_or numbers rank 0 ≡ number → is_marked nodes rank ≡ true
        → AllNamed (IsNoted numbers nodes) (IsNoted numbers chains) usable number (kept.view number)
    named_at rank number within at is =
        elim (kept.marked.named rank within is) [
          | inl there ↦ absurd (none_there rank there)
          | inr named ↦ subst (λ n. AllNamed (IsNoted numbers nodes) (IsNoted numbers chains) usable n (kept.view n)) at
              (subst (AllNamed (IsNoted numbers nodes) (IsNoted numbers chains) usable (get_or numbers rank 0)) (kept_at rank within) named)
        ]

    linked_at : (rank number : ℕ) → rank < length numbers → get_or numbers rank 0 ≡ number → is_marked chains rank ≡ true → IsLinked (IsNoted numbers chains) (kept.view number)
    linked_at rank number within at is =
        elim (kept.marked.linked rank within is) [
          | inl there ↦ absurd (none_there rank there)
          | inr linked ↦ subst (λ n. IsLinked (IsNoted numbers chains) (kept.view n)) at (subst (IsLinked (IsNoted numbers chains)) (kept_at rank within) linked)
        ]

    is_closed : IsClosed kept.view usable (IsNoted numbers nodes) (IsNoted numbers chains)
    is_closed = record {
      nodes = λ number noted page node is read.
          let at = noted (kept.covered number (ap is_some is)) in
          named_at at.0 number at.1 at.2 at.3 page node is read;
      chains = λ number noted page is.
          let at = noted (kept.covered number (ap is_some is)) in
          linked_at at.0 number at.1 at.2 at.3 page is;
    }

    pub law : AreAlike usable root rowid kept.view next (IsNoted numbers nodes) (IsNoted numbers chains)
    law = record {
      least = kept.least;
      room = room_of usable kept.view kept.whole;
      room_now = room_of usable next whole;
      closed = is_closed;
      steady = is_steady;
      at_root = kept.marked.at_root;
    }

    named_now : (rank : ℕ) → rank < length numbers → is_marked nodes rank ≡ true
        → AllNamed (IsNoted numbers nodes) (IsNoted numbers chains) usable (get_or numbers rank 0) (next (get_or numbers rank 0))
    named_now rank within is =
        let number = get_or numbers rank 0 in
        elim ((by_rank rank within).leaf is) [
          | inl same ↦ subst (AllNamed (IsNoted numbers nodes) (IsNoted numbers chains) usable number) (sym same) (named_at rank number within refl is)
          | inr stays ↦ leaf_named (IsNoted numbers nodes) (IsNoted numbers chains) usable number rowid (kept.view number) (next number) kept.least (whole number) stays
        ]

    pub still_marked : AreMarked numbers (map next numbers) usable root nodes chains
    still_marked = record {
      at_root = kept.marked.at_root;
      named = λ rank within is.
          inr (subst (AllNamed (IsNoted numbers nodes) (IsNoted numbers chains) usable (get_or numbers rank 0)) (sym (map_at next numbers rank within)) (named_now rank within is));
      linked = λ rank within is.
          inr (subst (IsLinked (IsNoted numbers chains)) (sym (map_at next numbers rank within))
          (subst (IsLinked (IsNoted numbers chains)) (sym ((by_rank rank within).same is)) (linked_at rank (get_or numbers rank 0) within refl is)));
    }

    unfoldable pub watched_still : IsWatched numbers (map next numbers) usable root nodes chains
    watched_still = record { view = next; covered = covers; views_are = refl; least = kept.least; whole = whole; marked = still_marked }

  -- ---- where the tree is walked anew, the marks are open at the changed pages alone
  pub named_but : AreNamedBut numbers (map next numbers) usable nodes chains changed
  named_but rank within is =
      elim (listed changed rank) [
        | inl there ↦ inl there
        | inr other ↦ elim (kept.marked.named rank within is) [
          | inl there ↦ absurd (none_there rank there)
          | inr named ↦ inr (subst (AllNamed (IsNoted numbers nodes) (IsNoted numbers chains) usable (get_or numbers rank 0))
              (stand rank within other ∙ sym (map_at next numbers rank within)) named)
        ]
      ]

  pub linked_but : AreLinkedBut numbers (map next numbers) chains changed
  linked_but rank within is =
      elim (listed changed rank) [
        | inl there ↦ inl there
        | inr other ↦ elim (kept.marked.linked rank within is) [
          | inl there ↦ absurd (none_there rank there)
          | inr linked ↦ inr (subst (IsLinked (IsNoted numbers chains)) (stand rank within other ∙ sym (map_at next numbers rank within)) linked)
        ]
      ]

-- ---- what the tree says

module _ (numbers : List ℕ) (views : List (Option (List ℕ))) (size usable root : ℕ) (rowid : ℤ) (history : History) (nodes chains : List Bool)
    (kept : IsStanding numbers views size usable root rowid history nodes chains) (next : ℕ → Option (List ℕ)) (changed : List ℕ) (covers : Covers numbers next)
    (stand : StandBut changed numbers views next) (whole : (number : ℕ) → IsWhole usable (next number))
    (steady : AreSteady usable rowid numbers views next nodes chains changed) where
  same_law : AreAlike usable root rowid kept.watched.view next (IsNoted numbers nodes) (IsNoted numbers chains)
  same_law = law numbers views usable root nodes chains kept.watched next changed covers stand whole rowid steady

  pub found_still : items_by history ≡ found_of size next usable root rowid
  found_still = kept.found_is ∙ sym (found_same size usable root rowid kept.watched.view next (IsNoted numbers nodes) (IsNoted numbers chains) same_law)

  pub faults_still : faults_by history ≡ faults_of size next usable root
  faults_still = kept.faults_are ∙ sym (faults_same size usable root rowid kept.watched.view next (IsNoted numbers nodes) (IsNoted numbers chains) same_law)

  pub standing_still : IsStanding numbers (map next numbers) size usable root rowid history nodes chains
  unfolding watched_still
  standing_still = record {
    watched = watched_still numbers views usable root nodes chains kept.watched next changed covers stand whole rowid steady;
    found_is = found_still;
    faults_are = faults_still;
  }

-- ---- what is kept, where it stands

pub if_standing : (stands : Bool) (numbers : List ℕ) (views : List (Option (List ℕ))) (size usable root : ℕ) (rowid : ℤ) (history : History) (nodes chains : List Bool) → stands ≡ true
    → IfStanding stands numbers views size usable root rowid history nodes chains → IsStanding numbers views size usable root rowid history nodes chains
if_standing true numbers views size usable root rowid history nodes chains is kept = kept
if_standing false numbers views size usable root rowid history nodes chains is kept = let clash : false ≡ true = is in absurd cc

pub has_whole : (usable page_size : ℕ) (view : Option (List ℕ)) → usable ≤ page_size → page_size ≤ 65536 → ((page : List ℕ) → view ≡ Some page → length page ≡ page_size) → IsWhole usable view
has_whole usable page_size None within small whole = tt
has_whole usable page_size (Some page) within small whole = (omega (arith, within, whole page refl), omega (arith, small, whole page refl))

pub whole_at : (usable : ℕ) (view : ℕ → Option (List ℕ)) (numbers : List ℕ) → ((number : ℕ) → IsWhole usable (view number)) → (rank : ℕ) → IsWhole usable (get_or (map view numbers) rank None)
whole_at usable view [] whole rank = tt
whole_at usable view (number ∷ numbers) whole zero = whole number
whole_at usable view (number ∷ numbers) whole (suc rank) = whole_at usable view numbers whole rank

pub all_whole : (usable : ℕ) (view : ℕ → Option (List ℕ)) (numbers : List ℕ) (views : List (Option (List ℕ))) → views ≡ map view numbers → ((number : ℕ) → IsWhole usable (view number)) → AreWhole usable views
all_whole usable view numbers views are whole rank = subst (λ vs. IsWhole usable (view_at vs rank)) (sym are) (whole_at usable view numbers whole rank)

-- without marks nothing is open
pub none_marked : (count rank : ℕ) → is_marked (replicate count false) rank ≡ false
none_marked zero rank = refl
none_marked (suc count) zero = refl
none_marked (suc count) (suc rank) = none_marked count rank

none_true : (marks : List Bool) (count rank : ℕ) → marks ≡ replicate count false → is_marked marks rank ≡ true → ⊥
none_true marks count rank are is =
    let clash : false ≡ true = sym (none_marked count rank) ∙ ap (λ ms. is_marked ms rank) (sym are) ∙ is in cc

pub none_named : (numbers : List ℕ) (views : List (Option (List ℕ))) (usable : ℕ) (nodes chains : List Bool) (work : List ℕ) (count : ℕ) → nodes ≡ replicate count false
    → AreNamedBut numbers views usable nodes chains work
none_named numbers views usable nodes chains work count are rank within is = absurd (none_true nodes count rank are is)

pub none_linked : (numbers : List ℕ) (views : List (Option (List ℕ))) (chains : List Bool) (work : List ℕ) (count : ℕ) → chains ≡ replicate count false → AreLinkedBut numbers views chains work
none_linked numbers views chains work count are rank within is = absurd (none_true chains count rank are is)

-- the pages of a moment, as they are kept
unfoldable pub first_watched : (numbers : List ℕ) (views : List (Option (List ℕ))) (usable root : ℕ) (nodes chains : List Bool) (next : ℕ → Option (List ℕ))
    → Covers numbers next → views ≡ map next numbers → 480 ≤ usable → ((number : ℕ) → IsWhole usable (next number))
    → AreMarked numbers views usable root nodes chains → IsWatched numbers views usable root nodes chains
first_watched numbers views usable root nodes chains next covers are least whole marked =
    record { view = next; covered = covers; views_are = are; least = least; whole = whole; marked = marked }

-- what was found of a moment, as it is kept
pub first_standing : (numbers : List ℕ) (views : List (Option (List ℕ))) (size pages usable root : ℕ) (rowid : ℤ) (history : History) (nodes chains : List Bool) (next : ℕ → Option (List ℕ))
    → Covers numbers next → views ≡ map next numbers → 480 ≤ usable → ((number : ℕ) → IsWhole usable (next number)) → size ≡ pages
    → items_by history ≡ found_of pages next usable root rowid → faults_by history ≡ faults_of pages next usable root
    → AreMarked numbers views usable root nodes chains → IsStanding numbers views size usable root rowid history nodes chains
unfolding first_watched
first_standing numbers views size pages usable root rowid history nodes chains next covers are least whole sizes found faults marked = record {
  watched = first_watched numbers views usable root nodes chains next covers are least whole marked;
  found_is = found ∙ ap (λ n. found_of n next usable root rowid) (sym sizes);
  faults_are = faults ∙ ap (λ n. faults_of n next usable root) (sym sizes);
}
