-- The bytes of all pages are those of the present pages, and a page size for each other one.
use Rattle.std.proofs.Common.{◌≡◌, ℕ, zero, suc, ◌+◌, ◌-◌, ◌*◌, ◌==◌, ◌||◌, Bool, true, false, cond, List, [], ◌∷◌, length, map, filter, count_by, is_some, Option, Some, None, refl, sym, ap, ◌∙◌, arith, add-mul, one-mul}
use Rattle.std.specs.Prelude.{sum_by}
use Rattle.std.specs.List.{range_with_len}
use Rattle.std.proofs.lemmas.Bool.{false≢true}
use Rattle.std.proofs.lemmas.List.Sums.{sum_by-cons}
use Rattle.std.proofs.lemmas.List.FromFn.{length-range_with_len}
use Rattle.sx_base.specs.Maps.{lock_page_of}
use Rattle.sx_base.specs.declared.layout.Layout.{Layout}
use Rattle.sx_base.specs.declared.label.Label.{Label}
use Rattle.sx_base.specs.declared.label.Label.TheVariants.{Absent, LockPage}
use Rattle.sx_base.specs.Labels.{is_owning, is_slack, is_fault}
use Rattle.sx_closure.specs.Graph.{Graph}
use Rattle.sx_prov.specs.Labels.{view_label, label_of, labels_of}
use Rattle.sx_prov.specs.Stretches.{is_present, present_above}
use Rattle.sx_prov.specs.Sums.{bytes_in, bytes_of, present_of}

-- how many of a list don't pass a test
abbrev others : (ℕ → Bool) → List ℕ → ℕ
others p [] = 0
others p (x ∷ xs) = cond (p x) 0 1 + others p xs

others_case : (p : ℕ → Bool) (x : ℕ) (kept : List ℕ) (n len : ℕ) (b : Bool) → n + length kept ≡ len → cond b 0 1 + n + length (cond b (x ∷ kept) kept) ≡ suc len
others_case p x kept n len true is = omega arith
others_case p x kept n len false is = omega arith

others_are : (p : ℕ → Bool) (xs : List ℕ) → others p xs + length (filter p xs) ≡ length xs
others_are p [] = refl
others_are p (x ∷ xs) = others_case p x (filter p xs) (others p xs) (length xs) (p x) (others_are p xs)

sum_case : (f : ℕ → ℕ) (x each n sum : ℕ) (kept : List ℕ) (b : Bool) → (b ≡ false → f x ≡ each) → sum ≡ sum_by f kept + n * each
    → f x + sum ≡ sum_by f (cond b (x ∷ kept) kept) + (cond b 0 1 + n) * each
sum_case f x each n sum kept true is rest =
    let more = sum_by-cons f x kept in
    let same : 0 + n ≡ n = omega arith in
    let times : (0 + n) * each ≡ n * each = ap (λ k. k * each) same in
    omega (arith, more, times, rest)
sum_case f x each n sum kept false is rest =
    let one = is refl in
    let times : (1 + n) * each ≡ 1 * each + n * each = add-mul 1 n each in
    let once : 1 * each ≡ each = one-mul each in
    omega (arith, one, times, once, rest)

sum_by_kept : (f : ℕ → ℕ) (p : ℕ → Bool) (each : ℕ) (xs : List ℕ) → ((x : ℕ) → p x ≡ false → f x ≡ each) → sum_by f xs ≡ sum_by f (filter p xs) + others p xs * each
sum_by_kept f p each [] is = let none : 0 * each ≡ 0 = grind arith in omega (arith, none)
sum_by_kept f p each (x ∷ xs) is =
    sum_by-cons f x xs ∙ sum_case f x each (others p xs) (sum_by f xs) (filter p xs) (p x) (is x) (sum_by_kept f p each xs is)

-- ---- an absent page

constant_count : (group : Label → Bool) (label : Label) (from len : ℕ) → count_by group (map (λ at. label) (range_with_len from len)) ≡ len * cond (group label) 1 0
constant_count group label from zero = let none : 0 * cond (group label) 1 0 ≡ 0 = grind arith in sym none
constant_count group label from (suc len) =
    let more = sum_by-cons (λ l. cond (group l) 1 0) label (map (λ at. label) (range_with_len (from + 1) len)) in
    let rest = constant_count group label (from + 1) len in
    let next : suc len ≡ 1 + len = omega arith in
    let times : suc len * cond (group label) 1 0 ≡ 1 * cond (group label) 1 0 + len * cond (group label) 1 0 =
    ap (λ n. n * cond (group label) 1 0) next ∙ add-mul 1 len (cond (group label) 1 0) in
    let once : 1 * cond (group label) 1 0 ≡ cond (group label) 1 0 = one-mul (cond (group label) 1 0) in
    omega (arith, more, rest, times, once)

pub not_lock : (a b : Bool) → (a || b) ≡ false → a ≡ false
not_lock true b none = absurd (false≢true (sym none))
not_lock false b none = refl

pub not_held : (a : Bool) (view : Option (List ℕ)) → (a || is_some view) ≡ false → view ≡ None
not_held true view none = absurd (false≢true (sym none))
not_held false None none = refl
not_held false (Some bytes) none = absurd (false≢true (sym none))

absent_labels : (graph : Graph) (layout : Layout) (view : ℕ → Option (List ℕ)) (page : ℕ) → is_present (lock_page_of layout.page_size) view page ≡ false
    → labels_of graph layout view page ≡ map (λ at. Absent) (range_with_len 0 layout.page_size)
unfolding labels_of label_of
absent_labels graph layout view page none =
    let lock = lock_page_of layout.page_size in
    ap (λ b. map (λ at. cond b LockPage (view_label graph layout.usable page (view page) at)) (range_with_len 0 layout.page_size)) (not_lock (page == lock) (is_some (view page)) none)
    ∙ ap (λ v. map (λ at. view_label graph layout.usable page v at) (range_with_len 0 layout.page_size)) (not_held (page == lock) (view page) none)

pub absent_count : (group : Label → Bool) (graph : Graph) (layout : Layout) (view : ℕ → Option (List ℕ)) (page : ℕ) → is_present (lock_page_of layout.page_size) view page ≡ false
    → count_by group (labels_of graph layout view page) ≡ layout.page_size * cond (group Absent) 1 0
absent_count group graph layout view page none =
    ap (count_by group) (absent_labels graph layout view page none) ∙ constant_count group Absent 0 layout.page_size

-- ---- all pages

present_list : (layout : Layout) (view : ℕ → Option (List ℕ)) (size : ℕ) → filter (is_present (lock_page_of layout.page_size) view) (range_with_len 1 size) ≡ present_of layout view size
unfolding present_above
present_list layout view size =
    let whole : size ≡ size - 0 = omega arith in
    ap (λ n. filter (is_present (lock_page_of layout.page_size) view) (range_with_len 1 n)) whole

all_bytes : (group : Label → Bool) (graph : Graph) (layout : Layout) (view : ℕ → Option (List ℕ)) (size : ℕ)
    → bytes_of group graph layout view size
    ≡ bytes_in group graph layout view (present_of layout view size)
    + others (is_present (lock_page_of layout.page_size) view) (range_with_len 1 size) * (layout.page_size * cond (group Absent) 1 0)
unfolding bytes_in
all_bytes group graph layout view size =
    sum_by_kept (λ page. count_by group (labels_of graph layout view page)) (is_present (lock_page_of layout.page_size) view) (layout.page_size * cond (group Absent) 1 0)
    (range_with_len 1 size) (λ page none. absent_count group graph layout view page none)
    ∙ ap (λ pages. sum_by (λ page. count_by group (labels_of graph layout view page)) pages
    + others (is_present (lock_page_of layout.page_size) view) (range_with_len 1 size) * (layout.page_size * cond (group Absent) 1 0)) (present_list layout view size)

absent_few : (layout : Layout) (view : ℕ → Option (List ℕ)) (size : ℕ)
    → others (is_present (lock_page_of layout.page_size) view) (range_with_len 1 size) ≡ size - length (present_of layout view size)
absent_few layout view size =
    let all = others_are (is_present (lock_page_of layout.page_size) view) (range_with_len 1 size) in
    let long = length-range_with_len 1 size in
    let same = ap length (present_list layout view size) in
    omega (arith, all, long, same)

times_none : (n size : ℕ) → n * (size * 0) ≡ 0
times_none n size = grind arith

times_one : (n size : ℕ) → n * (size * 1) ≡ n * size
times_one n size = grind arith

pub owned_bytes : (graph : Graph) (layout : Layout) (view : ℕ → Option (List ℕ)) (size : ℕ)
    → bytes_of is_owning graph layout view size ≡ bytes_in is_owning graph layout view (present_of layout view size)
owned_bytes graph layout view size =
    let all = all_bytes is_owning graph layout view size in
    let none = times_none (others (is_present (lock_page_of layout.page_size) view) (range_with_len 1 size)) layout.page_size in
    omega (arith, all, none)

pub slack_bytes : (graph : Graph) (layout : Layout) (view : ℕ → Option (List ℕ)) (size : ℕ)
    → bytes_of is_slack graph layout view size ≡ bytes_in is_slack graph layout view (present_of layout view size)
slack_bytes graph layout view size =
    let all = all_bytes is_slack graph layout view size in
    let none = times_none (others (is_present (lock_page_of layout.page_size) view) (range_with_len 1 size)) layout.page_size in
    omega (arith, all, none)

pub fault_bytes : (graph : Graph) (layout : Layout) (view : ℕ → Option (List ℕ)) (size : ℕ)
    → bytes_of is_fault graph layout view size
    ≡ bytes_in is_fault graph layout view (present_of layout view size) + (size - length (present_of layout view size)) * layout.page_size
fault_bytes graph layout view size =
    all_bytes is_fault graph layout view size
    ∙ ap (λ n. bytes_in is_fault graph layout view (present_of layout view size) + n)
    (times_one (others (is_present (lock_page_of layout.page_size) view) (range_with_len 1 size)) layout.page_size
    ∙ ap (λ n. n * layout.page_size) (absent_few layout view size))
