-- Each byte of a moment's pages is in one item of its map.
use Rattle.std.proofs.Common.{◌≡◌, ℕ, ◌+◌, ◌-◌, ◌<◌, ◌≤◌, ◌==◌, ◌&&◌, Bool, true, false, cond, nat_le, nat_lt, List, [], ◌∷◌, ◌++◌, length, get_or, map, filter, replicate, is_some, Option, refl, sym, ap, subst, ◌∙◌, arith, length-append}
use Rattle.std.specs.List.{flat_map, range_with_len}
use Rattle.std.proofs.lemmas.Bool.{eqb-true, eqb-false}
use Rattle.std.proofs.lemmas.List.{length-replicate, get_or-replicate, get_or_append_left, get_or-append_right, append-nil}
use Rattle.std.proofs.lemmas.List.Elements.{filter-append}
use Rattle.std.proofs.lemmas.List.FromFn.{length-map-range_with_len, get_or-map-range_with_len}
use borrow.Author.Tests.{le-leb, lt-leb, lt-ltb, le-ltb, leb-true, leb-false, ltb-true, ltb-false}
use Rattle.sx_base.specs.Maps.{lock_page_of}
use Rattle.sx_base.specs.declared.layout.Layout.{Layout}
use Rattle.sx_base.specs.declared.evidence.Span.{Span}
use Rattle.sx_base.specs.declared.label.Label.{Label}
use Rattle.sx_base.specs.declared.label.Label.TheVariants.{Absent as AbsentLabel, LockPage}
use Rattle.sx_closure.specs.Graph.{Graph}
use Rattle.sx_seglist.specs.Claims.{holds}
use Rattle.sx_prov.specs.declared.stretch.Stretch.{Stretch}
use Rattle.sx_prov.specs.declared.stretch.Stretch.TheVariants.{Absent, Present}
use Rattle.sx_prov.specs.Labels.{view_label, label_of, labels_of}
use Rattle.sx_prov.specs.Runs.{run_of, runs_of, AreRuns}
use Rattle.sx_prov.specs.Stretches.{is_present, stretches_of, AreStretches}
use Rattle.sx_prov.specs.Items.{Item, holds_byte, items_in, items_of, IsInOne}
use Rattle.sx_prov.proofs.Maximal.{runs_are}
use Rattle.sx_prov.proofs.Stretching.{stretches_are}
use Rattle.sx_prov.proofs.Sums.{not_lock, not_held}

-- ---- a byte of a page is in one run

held_yes : (start len at : ℕ) (label : Label) → start ≤ at → at < start + len → holds at (run_of start len label) ≡ true
held_yes start len at label low high = rw (le-leb start at low) (lt-ltb at (start + len) high)

held_early : (start len at : ℕ) (label : Label) → at < start → holds at (run_of start len label) ≡ false
held_early start len at label below = rw (lt-leb start at below) refl

held_late : (start len at : ℕ) (label : Label) → start ≤ at → start + len ≤ at → holds at (run_of start len label) ≡ false
held_late start len at label low past = rw (le-leb start at low) (le-ltb at (start + len) past)

kept : (at : ℕ) (run : Span × Label) (runs : List (Span × Label)) (b : Bool) → holds at run ≡ b → filter (holds at) (run ∷ runs) ≡ cond b (run ∷ filter (holds at) runs) (filter (holds at) runs)
kept at run runs b is = ap (λ b. cond b (run ∷ filter (holds at) runs) (filter (holds at) runs)) is

runs_before : (at from : ℕ) (labels : List Label) (runs : List (Span × Label)) → AreRuns from labels runs → at < from → filter (holds at) runs ≡ []
runs_before at from labels [] are before = refl
runs_before at from labels (run ∷ runs) are before =
    let start = (are.1).0 in
    kept at run runs false (held_early run.0.start run.0.len at run.1 (omega arith)) ∙ runs_before at (from + run.0.len) are.0 runs (are.1).4 (omega arith)

-- one run holds the byte, and its label is the byte's
pub record IsFound (at from : ℕ) (labels : List Label) (runs : List (Span × Label)) (d : Label) : Type 0 where
  pub run : Span × Label
  pub only : filter (holds at) runs ≡ run ∷ []
  pub same : get_or labels (at - from) d ≡ run.1

here : (at from : ℕ) (labels rest : List Label) (run : Span × Label) (runs : List (Span × Label)) (d : Label) → run.0.start ≡ from → labels ≡ replicate run.0.len run.1 ++ rest
    → AreRuns (from + run.0.len) rest runs → from ≤ at → at < from + run.0.len → IsFound at from labels (run ∷ runs) d
here at from labels rest run runs d start all are low high = record {
  run = run;
  only = kept at run runs true (held_yes run.0.start run.0.len at run.1 (omega arith) (omega arith)) ∙ ap (λ l. run ∷ l) (runs_before at (from + run.0.len) rest runs are high);
  same = ap (λ (l : List Label). get_or l (at - from) d) all
      ∙ get_or_append_left (replicate run.0.len run.1) rest d (at - from) (let long = length-replicate run.0.len run.1 in omega arith)
      ∙ get_or-replicate run.0.len (at - from) run.1 d (omega arith);
}

further : (at from : ℕ) (labels rest : List Label) (run : Span × Label) (runs : List (Span × Label)) (d : Label) → run.0.start ≡ from → labels ≡ replicate run.0.len run.1 ++ rest
    → from + run.0.len ≤ at → IsFound at (from + run.0.len) rest runs d → IsFound at from labels (run ∷ runs) d
further at from labels rest run runs d start all past found =
    let place : at - from - run.0.len ≡ at - (from + run.0.len) = omega arith in
    record {
      run = found.run;
      only = kept at run runs false (held_late run.0.start run.0.len at run.1 (omega arith) (omega arith)) ∙ found.only;
      same = ap (λ (l : List Label). get_or l (at - from) d) all
          ∙ get_or-append_right (replicate run.0.len run.1) rest run.0.len (at - from) d (length-replicate run.0.len run.1) (omega arith)
          ∙ ap (λ i. get_or rest i d) place ∙ found.same;
    }

run_case : (at from : ℕ) (labels rest : List Label) (run : Span × Label) (runs : List (Span × Label)) (d : Label) → run.0.start ≡ from → labels ≡ replicate run.0.len run.1 ++ rest
    → AreRuns (from + run.0.len) rest runs → from ≤ at → (from + run.0.len ≤ at → IsFound at (from + run.0.len) rest runs d) → (b : Bool) → nat_lt at (from + run.0.len) ≡ b
    → IsFound at from labels (run ∷ runs) d
run_case at from labels rest run runs d start all are low more true inside =
    here at from labels rest run runs d start all are low (ltb-true at (from + run.0.len) inside)
run_case at from labels rest run runs d start all are low more false inside =
    let past = ltb-false at (from + run.0.len) inside in
    further at from labels rest run runs d start all past (more past)

run_found : (at from : ℕ) (labels : List Label) (runs : List (Span × Label)) (d : Label) → AreRuns from labels runs → from ≤ at → at < from + length labels → IsFound at from labels runs d
run_found at from labels [] d are low high = absurd (let none = ap length are in omega arith)
run_found at from labels (run ∷ runs) d are low high =
    let facts = are.1 in
    let long : length labels ≡ run.0.len + length are.0 =
    ap length facts.2 ∙ length-append (replicate run.0.len run.1) are.0 ∙ ap (λ n. n + length are.0) (length-replicate run.0.len run.1) in
    run_case at from labels are.0 run runs d facts.0 facts.2 facts.4 low (λ past. run_found at (from + run.0.len) are.0 runs d facts.4 past (omega arith))
    (nat_lt at (from + run.0.len)) refl

-- ---- the items of one page

strict : (one other : ℕ) → one ≤ other → (other ≡ one → ⊥) → one < other
strict one other below apart = grind (arith, apart)

abbrev of_page : ℕ → Span × Label → Item
of_page page run = record { first = page; last = page; run = run }

item_kept : (page at : ℕ) (item : Item) (items : List Item) (b : Bool) → holds_byte page at item ≡ b
    → filter (holds_byte page at) (item ∷ items) ≡ cond b (item ∷ filter (holds_byte page at) items) (filter (holds_byte page at) items)
item_kept page at item items b is = ap (λ b. cond b (item ∷ filter (holds_byte page at) items) (filter (holds_byte page at) items)) is

and_true : (a b : Bool) → a ≡ true → (a && b) ≡ b
and_true a b is = rw is refl

and_false : (a b : Bool) → a ≡ false → (a && b) ≡ false
and_false a b is = rw is refl

own : (page at : ℕ) (run : Span × Label) → holds_byte page at (record { first = page; last = page; run = run }) ≡ holds at run
own page at run =
    and_true (nat_le page page && nat_le page page) (holds at run) (and_true (nat_le page page) (nat_le page page) (le-leb page page (omega arith)) ∙ le-leb page page (omega arith))

not_own : (page other at : ℕ) (run : Span × Label) → (page ≡ other → ⊥) → (b : Bool) → nat_le other page ≡ b → holds_byte page at (record { first = other; last = other; run = run }) ≡ false
not_own page other at run apart true low =
    let below = leb-true other page low in
    let above : other < page = strict other page below apart in
    and_false (nat_le other page && nat_le page other) (holds at run) (and_true (nat_le other page) (nat_le page other) low ∙ lt-leb page other above)
not_own page other at run apart false low = and_false (nat_le other page && nat_le page other) (holds at run) (and_false (nat_le other page) (nat_le page other) low)

own_case : (page at : ℕ) (run : Span × Label) (runs : List (Span × Label)) (b : Bool) → holds at run ≡ b
    → filter (holds_byte page at) (map (of_page page) runs) ≡ map (of_page page) (filter (holds at) runs)
    → filter (holds_byte page at) (map (of_page page) (run ∷ runs)) ≡ map (of_page page) (filter (holds at) (run ∷ runs))
own_case page at run runs true is rest =
    item_kept page at (of_page page run) (map (of_page page) runs) true (own page at run ∙ is) ∙ ap (λ l. of_page page run ∷ l) rest
    ∙ ap (map (of_page page)) (sym (kept at run runs true is))
own_case page at run runs false is rest =
    item_kept page at (of_page page run) (map (of_page page) runs) false (own page at run ∙ is) ∙ rest ∙ ap (map (of_page page)) (sym (kept at run runs false is))

own_items : (page at : ℕ) (runs : List (Span × Label)) → filter (holds_byte page at) (map (of_page page) runs) ≡ map (of_page page) (filter (holds at) runs)
own_items page at [] = refl
own_items page at (run ∷ runs) = own_case page at run runs (holds at run) refl (own_items page at runs)

other_items : (page other at : ℕ) (runs : List (Span × Label)) → (page ≡ other → ⊥) → filter (holds_byte page at) (map (of_page other) runs) ≡ []
other_items page other at [] apart = refl
other_items page other at (run ∷ runs) apart =
    item_kept page at (of_page other run) (map (of_page other) runs) false (not_own page other at run apart (nat_le other page) refl) ∙ other_items page other at runs apart

-- ---- the items of all pages

abbrev absent_item : ℕ → ℕ → ℕ → Item
absent_item page_size first last = record { first = first; last = last; run = run_of 0 page_size AbsentLabel }

early : (page at page_size first last : ℕ) → page < first → holds_byte page at (record { first = first; last = last; run = run_of 0 page_size AbsentLabel }) ≡ false
early page at page_size first last before =
    and_false (nat_le first page && nat_le page last) (holds at (run_of 0 page_size AbsentLabel)) (and_false (nat_le first page) (nat_le page last) (lt-leb first page before))

late : (page at page_size first last : ℕ) → first ≤ page → last < page → holds_byte page at (record { first = first; last = last; run = run_of 0 page_size AbsentLabel }) ≡ false
late page at page_size first last low past =
    and_false (nat_le first page && nat_le page last) (holds at (run_of 0 page_size AbsentLabel))
    (and_true (nat_le first page) (nat_le page last) (le-leb first page low) ∙ lt-leb page last past)

among : (page at page_size first last : ℕ) → first ≤ page → page ≤ last → at < page_size → holds_byte page at (record { first = first; last = last; run = run_of 0 page_size AbsentLabel }) ≡ true
among page at page_size first last low high within =
    and_true (nat_le first page && nat_le page last) (holds at (run_of 0 page_size AbsentLabel))
    (and_true (nat_le first page) (nat_le page last) (le-leb first page low) ∙ le-leb page last high)
    ∙ held_yes 0 page_size at AbsentLabel (omega arith) (omega arith)

none_behind : (page at page_size : ℕ) (labels : ℕ → List Label) (lock : ℕ) (view : ℕ → Option (List ℕ)) (size after : ℕ) (stretches : List Stretch) → AreStretches lock view size after stretches → page ≤ after
    → filter (holds_byte page at) (flat_map (items_in page_size labels) stretches) ≡ []
none_behind page at page_size labels lock view size after [] are before = refl
none_behind page at page_size labels lock view size after (Absent first last ∷ stretches) are before =
    let start = are.0 in
    let long = are.1 in
    item_kept page at (absent_item page_size first last) (flat_map (items_in page_size labels) stretches) false (early page at page_size first last (omega arith))
    ∙ none_behind page at page_size labels lock view size last stretches are.5 (omega arith)
none_behind page at page_size labels lock view size after (Present other ∷ stretches) are before =
    let start = are.0 in
    filter-append (holds_byte page at) (map (of_page other) (runs_of (labels other))) (flat_map (items_in page_size labels) stretches)
    ∙ ap (λ l. l ++ filter (holds_byte page at) (flat_map (items_in page_size labels) stretches)) (other_items page other at (runs_of (labels other)) (λ same. absurd (omega arith)))
    ∙ none_behind page at page_size labels lock view size other stretches are.3 (omega arith)

absent_case : (page at page_size : ℕ) (labels : ℕ → List Label) (lock : ℕ) (view : ℕ → Option (List ℕ)) (size after first last : ℕ) (stretches : List Stretch) (label : Label)
    → AreStretches lock view size after (Absent first last ∷ stretches) → after < page → at < page_size → (is_present lock view page ≡ false → AbsentLabel ≡ label)
    → (last < page → IsInOne (flat_map (items_in page_size labels) stretches) page at label) → (b : Bool) → nat_le page last ≡ b
    → IsInOne (flat_map (items_in page_size labels) (Absent first last ∷ stretches)) page at label
absent_case page at page_size labels lock view size after first last stretches label are above within absent more true inside =
    let start = are.0 in
    let low : first ≤ page = omega arith in
    let high = leb-true page last inside in
    record {
      item = absent_item page_size first last;
      only = item_kept page at (absent_item page_size first last) (flat_map (items_in page_size labels) stretches) true (among page at page_size first last low high within)
          ∙ ap (λ l. absent_item page_size first last ∷ l) (none_behind page at page_size labels lock view size last stretches are.5 high);
      same = absent (are.3 page low high);
    }
absent_case page at page_size labels lock view size after first last stretches label are above within absent more false inside =
    let start = are.0 in
    let past = leb-false page last inside in
    let rest = more past in
    record {
      item = rest.item;
      only = item_kept page at (absent_item page_size first last) (flat_map (items_in page_size labels) stretches) false (late page at page_size first last (omega arith) past) ∙ rest.only;
      same = rest.same;
    }

present_case : (page at page_size : ℕ) (labels : ℕ → List Label) (lock : ℕ) (view : ℕ → Option (List ℕ)) (size after other : ℕ) (stretches : List Stretch) (d : Label)
    → AreStretches lock view size after (Present other ∷ stretches) → after < page → at < length (labels page)
    → (other < page → IsInOne (flat_map (items_in page_size labels) stretches) page at (get_or (labels page) at d)) → (b : Bool) → (page == other) ≡ b
    → IsInOne (flat_map (items_in page_size labels) (Present other ∷ stretches)) page at (get_or (labels page) at d)
present_case page at page_size labels lock view size after other stretches d are above within more true same =
    let is : page ≡ other = eqb-true page other same in
    let found = run_found at 0 (labels page) (runs_of (labels page)) d (runs_are 0 (labels page)) (omega arith) (omega arith) in
    let behind = none_behind page at page_size labels lock view size other stretches are.3 (omega arith) in
    let place : at - 0 ≡ at = omega arith in
    record {
      item = of_page page found.run;
      only = filter-append (holds_byte page at) (map (of_page other) (runs_of (labels other))) (flat_map (items_in page_size labels) stretches)
          ∙ ap (λ l. filter (holds_byte page at) (map (of_page other) (runs_of (labels other))) ++ l) behind
          ∙ append-nil (filter (holds_byte page at) (map (of_page other) (runs_of (labels other))))
          ∙ ap (λ p. filter (holds_byte page at) (map (of_page p) (runs_of (labels p)))) (sym is)
          ∙ own_items page at (runs_of (labels page)) ∙ ap (map (of_page page)) found.only;
      same = sym found.same ∙ ap (λ i. get_or (labels page) i d) place;
    }
present_case page at page_size labels lock view size after other stretches d are above within more false same =
    let apart = eqb-false page other same in
    let start = are.0 in
    let rest = more (strict other page (omega arith) apart) in
    record {
      item = rest.item;
      only = filter-append (holds_byte page at) (map (of_page other) (runs_of (labels other))) (flat_map (items_in page_size labels) stretches)
          ∙ ap (λ l. l ++ filter (holds_byte page at) (flat_map (items_in page_size labels) stretches)) (other_items page other at (runs_of (labels other)) apart)
          ∙ rest.only;
      same = rest.same;
    }

in_one : (page at page_size : ℕ) (labels : ℕ → List Label) (lock : ℕ) (view : ℕ → Option (List ℕ)) (size after : ℕ) (stretches : List Stretch) (d : Label) → AreStretches lock view size after stretches
    → after < page → page ≤ size → at < page_size → at < length (labels page) → (is_present lock view page ≡ false → AbsentLabel ≡ get_or (labels page) at d)
    → IsInOne (flat_map (items_in page_size labels) stretches) page at (get_or (labels page) at d)
in_one page at page_size labels lock view size after [] d are above below within inside absent = absurd (omega arith)
in_one page at page_size labels lock view size after (Absent first last ∷ stretches) d are above below within inside absent =
    absent_case page at page_size labels lock view size after first last stretches (get_or (labels page) at d) are above within absent
    (λ past. in_one page at page_size labels lock view size last stretches d are.5 past below within inside absent) (nat_le page last) refl
in_one page at page_size labels lock view size after (Present other ∷ stretches) d are above below within inside absent =
    present_case page at page_size labels lock view size after other stretches d are above inside
    (λ past. in_one page at page_size labels lock view size other stretches d are.3 past below within inside absent) (page == other) refl

absent_label : (graph : Graph) (layout : Layout) (view : ℕ → Option (List ℕ)) (page at : ℕ) → is_present (lock_page_of layout.page_size) view page ≡ false
    → AbsentLabel ≡ label_of graph layout view page at
unfolding label_of
absent_label graph layout view page at none =
    sym (ap (λ b. cond b LockPage (view_label graph layout.usable page (view page) at)) (not_lock (page == lock_page_of layout.page_size) (is_some (view page)) none)
    ∙ ap (λ v. view_label graph layout.usable page v at) (not_held (page == lock_page_of layout.page_size) (view page) none))

pub each_in_one : (graph : Graph) (layout : Layout) (view : ℕ → Option (List ℕ)) (size page at : ℕ) → 1 ≤ page → page ≤ size → at < layout.page_size
    → IsInOne (items_of graph layout view size) page at (label_of graph layout view page at)
unfolding labels_of
each_in_one graph layout view size page at low high within =
    let labels = λ (page : ℕ). map (label_of graph layout view page) (range_with_len 0 layout.page_size) in
    let read : get_or (labels page) at AbsentLabel ≡ label_of graph layout view page at =
    get_or-map-range_with_len (label_of graph layout view page) 0 layout.page_size at at AbsentLabel within (omega arith) in
    subst (IsInOne (items_of graph layout view size) page at) read
    (in_one page at layout.page_size labels (lock_page_of layout.page_size) view size 0 (stretches_of (lock_page_of layout.page_size) view size) AbsentLabel
    (stretches_are (lock_page_of layout.page_size) view size) (omega arith) high within
    (let long = length-map-range_with_len (label_of graph layout view page) 0 layout.page_size in omega arith)
    (λ none. absent_label graph layout view page at none ∙ sym read))
