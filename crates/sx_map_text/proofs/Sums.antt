-- The bytes of stretches are those of the pages in them.
use Rattle.std.proofs.Common.{◌≡◌, ℕ, zero, suc, ◌+◌, ◌-◌, ◌*◌, ◌<◌, ◌≤◌, Bool, true, false, cond, List, [], ◌∷◌, ◌++◌, count_by, Option, refl, sym, ap, ◌∙◌, arith, add-mul, one-mul}
use Rattle.std.specs.Prelude.{sum_by}
use Rattle.std.specs.List.{range_with_len}
use Rattle.std.proofs.lemmas.List.Sums.{sum_by-cons, sum_by-append, sum_by-le-sum_by, count_by-le-length}
use Rattle.std.proofs.lemmas.List.FromFn.{length-map-range_with_len}
use Rattle.sx_base.proofs.Ranges.{range_append}
use Rattle.sx_base.specs.Maps.{lock_page_of}
use Rattle.sx_base.specs.declared.label.Label.{Label}
use Rattle.sx_base.specs.declared.label.Label.TheVariants.{Absent as AbsentLabel}
use Rattle.sx_base.specs.declared.layout.Layout.{Layout}
use Rattle.sx_closure.specs.Graph.{Graph}
use Rattle.sx_prov.specs.Labels.{label_of, labels_of}
use Rattle.sx_prov.specs.Stretches.{is_present, stretches_of, AreStretches}
use Rattle.sx_prov.specs.Sums.{bytes_in, bytes_of}
use Rattle.sx_prov.specs.declared.stretch.Stretch.{Stretch}
use Rattle.sx_prov.specs.declared.stretch.Stretch.TheVariants.{Absent, Present}
use Rattle.sx_prov.proofs.Stretching.{stretches_are}
use Rattle.sx_prov.proofs.Sums.{absent_count}
use Rattle.sx_map_text.specs.Rest.{stretch_bytes, stretches_bytes}

-- one stretch more
pub bytes_more : (group : Label → Bool) (labels : ℕ → List Label) (page_size : ℕ) (stretch : Stretch) (stretches : List Stretch)
    → stretches_bytes group labels page_size (stretch ∷ stretches) ≡ stretch_bytes group labels page_size stretch + stretches_bytes group labels page_size stretches
unfolding stretches_bytes
bytes_more group labels page_size stretch stretches = sum_by-cons (stretch_bytes group labels page_size) stretch stretches

-- ---- pages that have the same number of bytes each

same_sum : (f : ℕ → ℕ) (each from len : ℕ) → ((page : ℕ) → from ≤ page → page < from + len → f page ≡ each) → sum_by f (range_with_len from len) ≡ len * each
same_sum f each from zero is = let none : 0 * each ≡ 0 = grind arith in sym none
same_sum f each from (suc len) is =
    let first = is from (omega arith) (omega arith) in
    let rest = same_sum f each (from + 1) len (λ page low high. is page (omega arith) (omega arith)) in
    let more = sum_by-cons f from (range_with_len (from + 1) len) in
    let next : suc len ≡ 1 + len = omega arith in
    let times : suc len * each ≡ 1 * each + len * each = ap (λ n. n * each) next ∙ add-mul 1 len each in
    let once : 1 * each ≡ each = one-mul each in
    omega (arith, first, rest, more, times, once)

times_if : (pages page_size : ℕ) (b : Bool) → pages * (page_size * cond b 1 0) ≡ cond b (pages * page_size) 0
times_if pages page_size true = grind arith
times_if pages page_size false = grind arith

-- ---- all pages above a number

abbrev page_bytes : (Label → Bool) → (ℕ → List Label) → ℕ → ℕ
page_bytes group labels page = count_by group (labels page)

abbrev IsNone : (Label → Bool) → (ℕ → List Label) → ℕ → ℕ → (ℕ → Option (List ℕ)) → Type 0
IsNone group labels page_size lock view = (page : ℕ) → is_present lock view page ≡ false → count_by group (labels page) ≡ page_size * cond (group AbsentLabel) 1 0

absent_sum : (group : Label → Bool) (labels : ℕ → List Label) (page_size lock size after first last : ℕ) (view : ℕ → Option (List ℕ)) (rest : ℕ)
    → IsNone group labels page_size lock view → first ≡ after + 1 → first ≤ last → last ≤ size
    → ((number : ℕ) → first ≤ number → number ≤ last → is_present lock view number ≡ false)
    → rest ≡ sum_by (page_bytes group labels) (range_with_len (last + 1) (size - last))
    → stretch_bytes group labels page_size (Absent first last) + rest ≡ sum_by (page_bytes group labels) (range_with_len (after + 1) (size - after))
absent_sum group labels page_size lock size after first last view rest each start some within absent is =
    let f = page_bytes group labels in
    let n = last + 1 - first in
    let parts : size - after ≡ n + (size - last) = omega arith in
    let next : after + 1 + n ≡ last + 1 = omega arith in
    let split = ap (λ len. range_with_len (after + 1) len) parts ∙ range_append (after + 1) n (size - last)
    ∙ ap (λ from. range_with_len (after + 1) n ++ range_with_len from (size - last)) next in
    let sums = ap (sum_by f) split ∙ sum_by-append f (range_with_len (after + 1) n) (range_with_len (last + 1) (size - last)) in
    let here = same_sum f (page_size * cond (group AbsentLabel) 1 0) (after + 1) n (λ page low high. each page (absent page (omega arith) (omega arith)))
    ∙ times_if n page_size (group AbsentLabel) in
    omega (arith, sums, here, is)

present_sum : (group : Label → Bool) (labels : ℕ → List Label) (page_size size after page rest : ℕ) → page ≡ after + 1 → page ≤ size
    → rest ≡ sum_by (page_bytes group labels) (range_with_len (page + 1) (size - page))
    → stretch_bytes group labels page_size (Present page) + rest ≡ sum_by (page_bytes group labels) (range_with_len (after + 1) (size - after))
present_sum group labels page_size size after page rest start within is =
    let f = page_bytes group labels in
    let long : size - after ≡ suc (size - page) = omega arith in
    let all = ap (λ len. sum_by f (range_with_len (after + 1) len)) long
    ∙ ap (λ from. sum_by f (range_with_len from (suc (size - page)))) (sym start)
    ∙ sum_by-cons f page (range_with_len (page + 1) (size - page)) in
    omega (arith, all, is)

along : (group : Label → Bool) (labels : ℕ → List Label) (page_size lock size after : ℕ) (view : ℕ → Option (List ℕ)) (stretches : List Stretch)
    → IsNone group labels page_size lock view → AreStretches lock view size after stretches
    → stretches_bytes group labels page_size stretches ≡ sum_by (page_bytes group labels) (range_with_len (after + 1) (size - after))
unfolding stretches_bytes
along group labels page_size lock size after view [] each are =
    let none : 0 ≡ size - after = omega arith in
    ap (λ len. sum_by (page_bytes group labels) (range_with_len (after + 1) len)) none
along group labels page_size lock size after view (Absent first last ∷ stretches) each are =
    bytes_more group labels page_size (Absent first last) stretches
    ∙ absent_sum group labels page_size lock size after first last view (stretches_bytes group labels page_size stretches) each are.0 are.1 are.2 are.3
    (along group labels page_size lock size last view stretches each are.5)
along group labels page_size lock size after view (Present page ∷ stretches) each are =
    bytes_more group labels page_size (Present page) stretches
    ∙ present_sum group labels page_size size after page (stretches_bytes group labels page_size stretches) are.0 are.1
    (along group labels page_size lock size page view stretches each are.3)

-- the bytes of all stretches of a moment are those of its pages
pub all_bytes : (group : Label → Bool) (graph : Graph) (layout : Layout) (view : ℕ → Option (List ℕ)) (size : ℕ)
    → stretches_bytes group (labels_of graph layout view) layout.page_size (stretches_of (lock_page_of layout.page_size) view size) ≡ bytes_of group graph layout view size
unfolding bytes_in
all_bytes group graph layout view size =
    let whole : size - 0 ≡ size = omega arith in
    along group (labels_of graph layout view) layout.page_size (lock_page_of layout.page_size) size 0 view (stretches_of (lock_page_of layout.page_size) view size)
    (λ page none. absent_count group graph layout view page none) (stretches_are (lock_page_of layout.page_size) view size)
    ∙ ap (λ len. sum_by (page_bytes group (labels_of graph layout view)) (range_with_len 1 len)) whole

-- ---- they are no more than the pages have

page_most : (group : Label → Bool) (graph : Graph) (layout : Layout) (view : ℕ → Option (List ℕ)) (page : ℕ) → count_by group (labels_of graph layout view page) ≤ layout.page_size
unfolding labels_of
page_most group graph layout view page =
    let most = count_by-le-length group (labels_of graph layout view page) in
    let long = length-map-range_with_len (label_of graph layout view page) 0 layout.page_size in
    omega (arith, most, long)

pub most_bytes : (group : Label → Bool) (graph : Graph) (layout : Layout) (view : ℕ → Option (List ℕ)) (size : ℕ) → bytes_of group graph layout view size ≤ size * layout.page_size
unfolding bytes_in
most_bytes group graph layout view size =
    let most = sum_by-le-sum_by (page_bytes group (labels_of graph layout view)) (λ page. layout.page_size) (range_with_len 1 size) (λ page. page_most group graph layout view page) in
    let same = same_sum (λ page. layout.page_size) layout.page_size 1 size (λ page low high. refl) in
    omega (arith, most, same)
