-- The bytes of all pages of a moment, by groups, are those of the pages that are shown, of the lock-byte page and of the
-- absent pages.
use Rattle.std.proofs.Common.{◌≡◌, ℕ, suc, ◌+◌, ◌-◌, ◌*◌, ◌<◌, ◌≤◌, ◌==◌, Bool, true, false, cond, nat_le, List, [], ◌∷◌, length, map, filter, count_by, slice_index, is_some, Option, Some, None, refl, sym, ap, ◌∙◌, arith, inl, inr, one-mul}
use Rattle.std.specs.Prelude.{sum_by}
use Rattle.std.specs.List.{range_with_len, Contains}
use Rattle.std.proofs.lemmas.Bool.{cases_lt, eqb-true, eq-eqb}
use Rattle.std.proofs.lemmas.Bool.Decides.{nat_tests}
use Rattle.std.proofs.lemmas.List.{get_or_default}
use Rattle.std.proofs.lemmas.List.Sums.{sum_by-cons}
use Rattle.std.proofs.lemmas.List.FromFn.{length-range_with_len}
use Rattle.sx_base.specs.Held.{held_pages}
use Rattle.sx_base.specs.Labels.{is_owning, is_slack, is_fault}
use Rattle.sx_base.specs.Maps.{lock_page_of}
use Rattle.sx_base.specs.declared.label.Label.{Label}
use Rattle.sx_base.specs.declared.label.Label.TheVariants.{LockPage}
use Rattle.sx_base.specs.declared.layout.Layout.{Layout}
use Rattle.sx_base.proofs.HeldPages.{has_view, held_is_there, held_place}
use Rattle.sx_closure.specs.Graph.{Graph, Rises}
use Rattle.sx_refs.specs.Covering.{Covers}
use Rattle.sx_refs.proofs.Graphs.{held_rise}
use Rattle.sx_prov.specs.declared.map.Totals.{Totals}
use Rattle.sx_prov.specs.Labels.{view_label, label_of, labels_of}
use Rattle.sx_prov.specs.Stretches.{is_present, present_above}
use Rattle.sx_prov.specs.Sums.{bytes_in, bytes_of, present_of}
use Rattle.sx_prov.proofs.Sums.{owned_bytes, slack_bytes, fault_bytes}
use Rattle.sx_sums.specs.declared.entry.Entry.{Entry}
use Rattle.sx_sums.specs.declared.entry.Labelled.{Labelled}
use Rattle.sx_sums.specs.Entries.{entry_at, no_bytes, counts_of, owned_of, slack_of, fault_of}
use Rattle.sx_sums.specs.Shown.{AreTotals, IsShown, AreShown, AreMoment, lock_count}
use Rattle.sx_sums.proofs.Rising.{same_rising, filter_rises, kept_there, there_kept, either_sum, ones, none_equal, one_equal}

-- ---- the pages that are shown are the held ones

held_kept : (size : ℕ) (view : ℕ → Option (List ℕ)) (numbers : List ℕ) (number : ℕ) → Covers numbers view → Contains (held_pages size view) number
    → Contains (filter (has_view view) numbers) number
held_kept size view numbers number covered (k, below, is) =
    let same : slice_index (held_pages size view) k ≡ number = get_or_default (held_pages size view) k 0 number below ∙ is in
    let there : is_some (view number) ≡ true = ap (λ n. is_some (view n)) (sym same) ∙ held_is_there size view k below in
    there_kept (has_view view) numbers number (covered number there) there

held_numbers : (size : ℕ) (view : ℕ → Option (List ℕ)) (numbers : List ℕ) → Rises numbers → Covers numbers view
    → ((number : ℕ) → is_some (view number) ≡ true → (1 ≤ number) × (number ≤ size)) → filter (has_view view) numbers ≡ held_pages size view
held_numbers size view numbers rise covered within =
    same_rising (filter (has_view view) numbers) (held_pages size view) (filter_rises (has_view view) numbers rise) (held_rise size view)
    (λ number here.
    let there = kept_there (has_view view) numbers number here in
    let bounds = within number there.1 in
    let place = held_place size view number bounds.0 bounds.1 there.1 in
    (length (held_pages (number - 1) view), place.0, get_or_default (held_pages size view) (length (held_pages (number - 1) view)) number 0 place.0 ∙ place.1))
    (λ number here. held_kept size view numbers number covered here)

-- ---- sums over entries

entry_case : (f : ℕ → ℕ) (number part sum : ℕ) (kept : List ℕ) (held : Bool) → part ≡ cond held (f number) 0 → sum ≡ sum_by f kept
    → part + sum ≡ sum_by f (cond held (number ∷ kept) kept)
entry_case f number part sum kept true is rest = let more = sum_by-cons f number kept in omega (arith, is, rest, more)
entry_case f number part sum kept false is rest = omega (arith, is, rest)

entries_sum : (f : ℕ → ℕ) (part : Entry → ℕ) (view : ℕ → Option (List ℕ)) (numbers : List ℕ) (entries : List Entry) → length entries ≡ length numbers
    → ((rank : ℕ) → rank < length numbers → part (entry_at entries rank) ≡ cond (has_view view (slice_index numbers rank)) (f (slice_index numbers rank)) 0)
    → sum_by part entries ≡ sum_by f (filter (has_view view) numbers)
entries_sum f part view [] [] long each = refl
entries_sum f part view [] (entry ∷ entries) long each = absurd (omega (arith, long))
entries_sum f part view (number ∷ numbers) [] long each = absurd (omega (arith, long))
entries_sum f part view (number ∷ numbers) (entry ∷ entries) long each =
    sum_by-cons part entry entries
    ∙ entry_case f number (part entry) (sum_by part entries) (filter (has_view view) numbers) (has_view view number) (each 0 (omega arith))
    (entries_sum f part view numbers entries (omega (arith, long)) (λ rank below. each (suc rank) (omega (arith, below))))

-- what an entry counts is what the page has
shown_counts : (entry : Entry) (labelled : Labelled) → entry.shown ≡ true → entry.last ≡ Some labelled → counts_of entry ≡ labelled.totals
unfolding counts_of
shown_counts entry labelled shown last = rw (shown, last) refl

hidden_counts : (entry : Entry) → entry.shown ≡ false → counts_of entry ≡ no_bytes
unfolding counts_of
hidden_counts entry shown = rw shown refl

shown_part : (part : Totals → ℕ) (group : Label → Bool) (labels : List Label) (view : Option (List ℕ)) (entry : Entry) → part no_bytes ≡ 0
    → ((totals : Totals) → AreTotals labels totals → part totals ≡ count_by group labels) → IsShown labels view entry
    → part (counts_of entry) ≡ cond (is_some view) (count_by group labels) 0
shown_part part group labels None entry none part_is shown = ap part (hidden_counts entry shown) ∙ none
shown_part part group labels (Some bytes) entry none part_is (shown, (labelled, last, totals)) =
    ap part (shown_counts entry labelled shown last) ∙ part_is labelled.totals totals

-- the bytes of one page in a group
abbrev bytes_at : (Label → Bool) → Graph → Layout → (ℕ → Option (List ℕ)) → ℕ → ℕ
bytes_at group graph layout view page = count_by group (labels_of graph layout view page)

held_sum : (part : Totals → ℕ) (group : Label → Bool) (graph : Graph) (layout : Layout) (view : ℕ → Option (List ℕ)) (size : ℕ) (numbers : List ℕ) (entries : List Entry)
    → part no_bytes ≡ 0 → ((labels : List Label) (totals : Totals) → AreTotals labels totals → part totals ≡ count_by group labels)
    → AreShown graph layout view size numbers entries
    → sum_by (λ entry. part (counts_of entry)) entries ≡ sum_by (bytes_at group graph layout view) (held_pages size view)
held_sum part group graph layout view size numbers entries none part_is shown =
    entries_sum (bytes_at group graph layout view) (λ entry. part (counts_of entry)) view numbers entries shown.count
    (λ rank below.
    let number = slice_index numbers rank in
    shown_part part group (labels_of graph layout view number) (view number) (entry_at entries rank) none (part_is (labels_of graph layout view number)) (shown.shown rank below))
    ∙ ap (sum_by (bytes_at group graph layout view)) (held_numbers size view numbers shown.rise shown.covered shown.within)

-- ---- the lock-byte page

lock_low : (page_size : ℕ) → 1 ≤ lock_page_of page_size
lock_low page_size = omega arith

lock_sum : (f : ℕ → ℕ) (page_size size : ℕ) → sum_by f (filter (λ number. number == lock_page_of page_size) (range_with_len 1 size)) ≡ lock_count (lock_page_of page_size) size * f (lock_page_of page_size)
lock_sum f page_size size =
    let lock = lock_page_of page_size in
    elim (cases_lt size lock) [
      | inl past ↦
          let none : nat_le lock size ≡ false = grind (arith, nat_tests) in
          rw (none_equal lock 1 size (omega (arith, past)), none) (let zeros : 0 ≡ 0 * f lock = grind arith in zeros)
      | inr within ↦
          let here : nat_le lock size ≡ true = grind (arith, nat_tests) in
          rw (one_equal lock 1 size (lock_low page_size) (omega (arith, within)), here)
          (let one = sum_by-cons f lock [] in let once : 1 * f lock ≡ f lock = one-mul (f lock) in omega (arith, one, once))
    ]

label_count : (group : Label → Bool) (label : Label) (xs : List ℕ) → count_by group (map (λ at. label) xs) ≡ length xs * cond (group label) 1 0
label_count group label [] = let none : 0 * cond (group label) 1 0 ≡ 0 = grind arith in sym none
label_count group label (x ∷ xs) =
    let more = sum_by-cons (λ l. cond (group l) 1 0) label (map (λ at. label) xs) in
    let rest = label_count group label xs in
    let times : suc (length xs) * cond (group label) 1 0 ≡ cond (group label) 1 0 + length xs * cond (group label) 1 0 = grind arith in
    omega (arith, more, rest, times)

lock_labels : (graph : Graph) (layout : Layout) (view : ℕ → Option (List ℕ)) → labels_of graph layout view (lock_page_of layout.page_size) ≡ map (λ at. LockPage) (range_with_len 0 layout.page_size)
unfolding labels_of label_of
lock_labels graph layout view =
    let lock = lock_page_of layout.page_size in
    ap (λ b. map (λ at. cond b LockPage (view_label graph layout.usable lock (view lock) at)) (range_with_len 0 layout.page_size)) (eq-eqb lock lock refl)

lock_bytes : (group : Label → Bool) (graph : Graph) (layout : Layout) (view : ℕ → Option (List ℕ)) → bytes_at group graph layout view (lock_page_of layout.page_size) ≡ layout.page_size * cond (group LockPage) 1 0
lock_bytes group graph layout view =
    ap (count_by group) (lock_labels graph layout view) ∙ label_count group LockPage (range_with_len 0 layout.page_size)
    ∙ ap (λ n. n * cond (group LockPage) 1 0) (length-range_with_len 0 layout.page_size)

-- ---- the present pages

lock_apart : (view : ℕ → Option (List ℕ)) (lock number : ℕ) → view lock ≡ None → (number == lock) ≡ true → is_some (view number) ≡ false
lock_apart view lock number none same = ap (λ n. is_some (view n)) (eqb-true number lock same) ∙ ap is_some none

present_sum : (f : ℕ → ℕ) (layout : Layout) (view : ℕ → Option (List ℕ)) (size : ℕ) → view (lock_page_of layout.page_size) ≡ None
    → sum_by f (present_of layout view size) ≡ lock_count (lock_page_of layout.page_size) size * f (lock_page_of layout.page_size) + sum_by f (held_pages size view)
unfolding present_above held_pages
present_sum f layout view size none =
    let lock = lock_page_of layout.page_size in
    let whole : size - 0 ≡ size = omega arith in
    ap (λ n. sum_by f (filter (is_present lock view) (range_with_len 1 n))) whole
    ∙ either_sum f (λ number. number == lock) (has_view view) (range_with_len 1 size) (λ number same. lock_apart view lock number none same)
    ∙ ap (λ n. n + sum_by f (filter (has_view view) (range_with_len 1 size))) (lock_sum f layout.page_size size)

present_count : (layout : Layout) (view : ℕ → Option (List ℕ)) (size : ℕ) → view (lock_page_of layout.page_size) ≡ None
    → length (present_of layout view size) ≡ lock_count (lock_page_of layout.page_size) size + length (held_pages size view)
present_count layout view size none =
    let all = ones (present_of layout view size) in
    let held = ones (held_pages size view) in
    let both = present_sum (λ page. 1) layout view size none in
    let once : lock_count (lock_page_of layout.page_size) size * 1 ≡ lock_count (lock_page_of layout.page_size) size = grind arith in
    omega (arith, all, held, both, once)

present_bytes : (part : Totals → ℕ) (group : Label → Bool) (graph : Graph) (layout : Layout) (view : ℕ → Option (List ℕ)) (size : ℕ) (numbers : List ℕ) (entries : List Entry)
    → part no_bytes ≡ 0 → ((labels : List Label) (totals : Totals) → AreTotals labels totals → part totals ≡ count_by group labels)
    → AreShown graph layout view size numbers entries
    → bytes_in group graph layout view (present_of layout view size)
    ≡ lock_count (lock_page_of layout.page_size) size * (layout.page_size * cond (group LockPage) 1 0) + sum_by (λ entry. part (counts_of entry)) entries
unfolding bytes_in
present_bytes part group graph layout view size numbers entries none part_is shown =
    let lock = lock_page_of layout.page_size in
    present_sum (bytes_at group graph layout view) layout view size shown.lock
    ∙ ap (λ n. lock_count lock size * n + sum_by (bytes_at group graph layout view) (held_pages size view)) (lock_bytes group graph layout view)
    ∙ ap (λ n. lock_count lock size * (layout.page_size * cond (group LockPage) 1 0) + n) (sym (held_sum part group graph layout view size numbers entries none part_is shown))

-- ---- all pages

times_none : (n size : ℕ) → n * (size * 0) ≡ 0
times_none n size = grind arith

times_one : (n size : ℕ) → n * (size * 1) ≡ n * size
times_one n size = grind arith

pub moment_owned : (graph : Graph) (layout : Layout) (view : ℕ → Option (List ℕ)) (size : ℕ) (numbers : List ℕ) (entries : List Entry) → AreShown graph layout view size numbers entries
    → bytes_of is_owning graph layout view size ≡ lock_count (lock_page_of layout.page_size) size * layout.page_size + sum_by owned_of entries
moment_owned graph layout view size numbers entries shown =
    let all = owned_bytes graph layout view size in
    let parts = present_bytes (λ totals. totals.owned) is_owning graph layout view size numbers entries refl (λ labels totals is. is.owned) shown in
    let lock = times_one (lock_count (lock_page_of layout.page_size) size) layout.page_size in
    omega (arith, all, parts, lock)

pub moment_slack : (graph : Graph) (layout : Layout) (view : ℕ → Option (List ℕ)) (size : ℕ) (numbers : List ℕ) (entries : List Entry) → AreShown graph layout view size numbers entries
    → bytes_of is_slack graph layout view size ≡ sum_by slack_of entries
moment_slack graph layout view size numbers entries shown =
    let all = slack_bytes graph layout view size in
    let parts = present_bytes (λ totals. totals.slack) is_slack graph layout view size numbers entries refl (λ labels totals is. is.slack) shown in
    let lock = times_none (lock_count (lock_page_of layout.page_size) size) layout.page_size in
    omega (arith, all, parts, lock)

pub moment_fault : (graph : Graph) (layout : Layout) (view : ℕ → Option (List ℕ)) (size : ℕ) (numbers : List ℕ) (entries : List Entry) → AreShown graph layout view size numbers entries
    → bytes_of is_fault graph layout view size
    ≡ sum_by fault_of entries + (size - length (held_pages size view) - lock_count (lock_page_of layout.page_size) size) * layout.page_size
moment_fault graph layout view size numbers entries shown =
    let all = fault_bytes graph layout view size in
    let parts = present_bytes (λ totals. totals.fault) is_fault graph layout view size numbers entries refl (λ labels totals is. is.fault) shown in
    let lock = times_none (lock_count (lock_page_of layout.page_size) size) layout.page_size in
    let few = present_count layout view size shown.lock in
    let absent : size - length (present_of layout view size) ≡ size - length (held_pages size view) - lock_count (lock_page_of layout.page_size) size = omega (arith, few) in
    let times = ap (λ n. n * layout.page_size) absent in
    omega (arith, all, parts, lock, times)

pub moment_is : (graph : Graph) (layout : Layout) (view : ℕ → Option (List ℕ)) (size held lock page_size absent owned slack fault : ℕ) (numbers : List ℕ) (entries : List Entry)
    → AreShown graph layout view size numbers entries → held ≡ length (held_pages size view) → lock ≡ lock_count (lock_page_of layout.page_size) size
    → page_size ≡ layout.page_size → absent ≡ size - held - lock → owned ≡ sum_by owned_of entries → slack ≡ sum_by slack_of entries → fault ≡ sum_by fault_of entries
    → AreMoment graph layout view size (record { owned = owned + lock * page_size; slack = slack; fault = fault + absent * page_size })
moment_is graph layout view size held lock page_size absent owned slack fault numbers entries shown held_is lock_is page_is absent_is owned_is slack_is fault_is =
    let absent_held : absent ≡ size - length (held_pages size view) - lock_count (lock_page_of layout.page_size) size =
    absent_is ∙ ap (λ n. size - n - lock) held_is ∙ ap (λ n. size - length (held_pages size view) - n) lock_is in
    record {
      owned = rw (lock_is, page_is) (let all = moment_owned graph layout view size numbers entries shown in omega (arith, all, owned_is));
      slack = slack_is ∙ sym (moment_slack graph layout view size numbers entries shown);
      fault = rw (absent_held, page_is) (let all = moment_fault graph layout view size numbers entries shown in omega (arith, all, fault_is));
    }
