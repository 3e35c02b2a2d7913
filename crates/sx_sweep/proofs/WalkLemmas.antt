-- What the pages of a moment own together.
use Rattle.std.proofs.Common.{◌≡◌, ℕ, ℤ, zero, suc, ◌+◌, ◌-◌, ◌≤◌, Bool, true, false, ◌||◌, ◌&&◌, ◌==◌, nat_lt, List, [], ◌∷◌, length, map, is_some, Option, Some, None, Result, Ok, Err, refl, sym, ap, ◌∙◌, arith}
use Rattle.std.specs.Prelude.{OnOk}
use Rattle.std.specs.List.{list_any, range_with_len}
use Rattle.std.proofs.lemmas.Bool.Decides.{nat_tests}
use Rattle.sx_base.specs.Labels.{is_owning}
use Rattle.sx_base.specs.Held.{held_after}
use Rattle.sx_base.specs.declared.evidence.Place.{Place}
use Rattle.sx_base.specs.declared.label.Label.{Label}
use Rattle.sx_base.specs.declared.layout.Layout.{Layout}
use Rattle.sx_base.specs.declared.moment.Moment.{Moment}
use Rattle.sx_moment.specs.Gathered.{Gathered, size_at}
use Rattle.sx_header.specs.declared.header.Header.{Header}
use Rattle.sx_moment.specs.Heads.{head_of, layout_by, layout_of, encoding_at}
use Rattle.sx_moment.specs.Views.{view_of, source_of}
use Rattle.sx_schema.specs.Entries.{schema_of, roots_of}
use Rattle.sx_closure.specs.Tallying.{Table, one_at, IsTableOf}
use Rattle.sx_closure.specs.Graph.{Graph}
use Rattle.sx_refs.specs.Pages.{graph_of}
use Rattle.sx_prov.specs.Labels.{label_of, labels_of}
use Rattle.sx_prov.specs.Keys.{table_labels}
use Rattle.sx_prov.proofs.Standings.{labels_are}
use Rattle.sx_images.specs.declared.image.Image.{Image}
use Rattle.sx_owned.specs.Owned.{Owned}
use Rattle.sx_sweep.specs.Growth.{nowhere, Grows, Growing}
use Rattle.sx_sweep.specs.Owning.{is_viewed, one_begins, page_owns, page_begins, graph_at}
use Rattle.sx_sweep.specs.Told.{owning_in, only_in, told_owns, told_begins, any_above}
use Rattle.sx_sweep.proofs.GrowthLemmas.{or_false, grows_none, grows_same, grows_both, growing_step, growing_end}
use Rattle.sx_sweep.proofs.PageLemmas.{next_page, no_page, no_source}

-- ---- one page

owns_by : (table : Table) (layout : Layout) (view : ℕ → Option (List ℕ)) (source : ℕ → Option Place) (images : List Image) (image at page : ℕ) (viewed : Bool) → is_viewed images (source page) image ≡ viewed
    → told_owns table layout view source images image at page ≡ (viewed && owning_in (table_labels table layout view page) at)
unfolding told_owns
owns_by table layout view source images image at page viewed is = ap (λ b. b && owning_in (table_labels table layout view page) at) is

begins_by : (table : Table) (layout : Layout) (view : ℕ → Option (List ℕ)) (source : ℕ → Option Place) (images : List Image) (image at page : ℕ) (viewed : Bool) → is_viewed images (source page) image ≡ viewed
    → told_begins table layout view source images image at page ≡ (viewed && one_begins (one_at table page) (view page) page layout.usable at)
unfolding told_begins
begins_by table layout view source images image at page viewed is = ap (λ b. b && one_begins (one_at table page) (view page) page layout.usable at) is

-- no image is its view
pub page_none : (table : Table) (layout : Layout) (view : ℕ → Option (List ℕ)) (source : ℕ → Option Place) (images : List Image) (page : ℕ) (owned : Owned)
    → ((image : ℕ) → is_viewed images (source page) image ≡ false)
    → Grows owned owned (λ image at. told_owns table layout view source images image at page) (λ image at. told_begins table layout view source images image at page)
page_none table layout view source images page owned none =
    grows_none owned (λ image at. told_owns table layout view source images image at page) (λ image at. told_begins table layout view source images image at page)
    (λ image at. owns_by table layout view source images image at page false (none image)) (λ image at. begins_by table layout view source images image at page false (none image))

-- one image is
pub page_grows : (table : Table) (layout : Layout) (view : ℕ → Option (List ℕ)) (source : ℕ → Option Place) (images : List Image) (page number : ℕ) (old mid new : Owned)
    → ((image : ℕ) → is_viewed images (source page) image ≡ (image == number))
    → Grows old mid (only_in number (owning_in (table_labels table layout view page))) nowhere
    → Grows mid new nowhere (only_in number (one_begins (one_at table page) (view page) page layout.usable))
    → Grows old new (λ image at. told_owns table layout view source images image at page) (λ image at. told_begins table layout view source images image at page)
page_grows table layout view source images page number old mid new viewed first second =
    let owns = only_in number (owning_in (table_labels table layout view page)) in
    let begins = only_in number (one_begins (one_at table page) (view page) page layout.usable) in
    grows_same old new (λ image at. owns image at || nowhere image at) (λ image at. nowhere image at || begins image at)
    (λ image at. told_owns table layout view source images image at page) (λ image at. told_begins table layout view source images image at page)
    (grows_both old mid new owns nowhere nowhere begins first second)
    (λ image at. or_false (owns image at) ∙ sym (owns_by table layout view source images image at page (image == number) (viewed image)))
    (λ image at. sym (begins_by table layout view source images image at page (image == number) (viewed image)))

pub on_ok : {E : Type 0} {P Q : Type 0} (r : Result (Unit {0}) E) → (P → Q) → OnOk r P → OnOk r Q
on_ok (Ok done) f p = f p
on_ok (Err refused) f p = tt

-- ---- all pages

owns_none : (table : Table) (layout : Layout) (case : Gathered) (moment : Moment) (images : List Image) (image at page : ℕ) → is_some (view_of case moment page) ≡ false
    → told_owns table layout (view_of case moment) (source_of case moment) images image at page ≡ false
owns_none table layout case moment images image at page none =
    owns_by table layout (view_of case moment) (source_of case moment) images image at page false (ap (λ place. is_viewed images place image) (no_source case moment page none))

begins_none : (table : Table) (layout : Layout) (case : Gathered) (moment : Moment) (images : List Image) (image at page : ℕ) → is_some (view_of case moment page) ≡ false
    → told_begins table layout (view_of case moment) (source_of case moment) images image at page ≡ false
begins_none table layout case moment images image at page none =
    begins_by table layout (view_of case moment) (source_of case moment) images image at page false (ap (λ place. is_viewed images place image) (no_source case moment page none))

-- what the pages above a number own
abbrev pub owns_above : Table → Layout → Gathered → Moment → List Image → ℕ → ℕ → ℕ → Bool
owns_above table layout case moment images after image at = any_above (told_owns table layout (view_of case moment) (source_of case moment) images image at) after (size_at case moment)

abbrev pub begins_above : Table → Layout → Gathered → Moment → List Image → ℕ → ℕ → ℕ → Bool
begins_above table layout case moment images after image at = any_above (told_begins table layout (view_of case moment) (source_of case moment) images image at) after (size_at case moment)

pub pages_step : (table : Table) (layout : Layout) (case : Gathered) (moment : Moment) (images : List Image) (old now new : Owned) (after number : ℕ) → held_after (size_at case moment) (view_of case moment) after ≡ Some number
    → Growing old now (owns_above table layout case moment images 0) (begins_above table layout case moment images 0) (owns_above table layout case moment images after) (begins_above table layout case moment images after)
    → Grows now new (λ image at. told_owns table layout (view_of case moment) (source_of case moment) images image at number) (λ image at. told_begins table layout (view_of case moment) (source_of case moment) images image at number)
    → Growing old new (owns_above table layout case moment images 0) (begins_above table layout case moment images 0) (owns_above table layout case moment images number) (begins_above table layout case moment images number)
pages_step table layout case moment images old now new after number is growing grows =
    let view = view_of case moment in
    let size = size_at case moment in
    growing_step old now new (owns_above table layout case moment images 0) (begins_above table layout case moment images 0) (owns_above table layout case moment images after) (begins_above table layout case moment images after)
    (λ image at. told_owns table layout view (source_of case moment) images image at number) (λ image at. told_begins table layout view (source_of case moment) images image at number)
    (owns_above table layout case moment images number) (begins_above table layout case moment images number)
    growing grows
    (λ image at. next_page (told_owns table layout view (source_of case moment) images image at) size view after number (λ page none. owns_none table layout case moment images image at page none) is)
    (λ image at. next_page (told_begins table layout view (source_of case moment) images image at) size view after number (λ page none. begins_none table layout case moment images image at page none) is)

pub pages_end : (table : Table) (layout : Layout) (case : Gathered) (moment : Moment) (images : List Image) (old now : Owned) (after : ℕ) → after ≤ size_at case moment → held_after (size_at case moment) (view_of case moment) after ≡ None
    → Growing old now (owns_above table layout case moment images 0) (begins_above table layout case moment images 0) (owns_above table layout case moment images after) (begins_above table layout case moment images after)
    → Grows old now (owns_above table layout case moment images 0) (begins_above table layout case moment images 0)
pages_end table layout case moment images old now after within is growing =
    let view = view_of case moment in
    let size = size_at case moment in
    growing_end old now (owns_above table layout case moment images 0) (begins_above table layout case moment images 0) (owns_above table layout case moment images after) (begins_above table layout case moment images after) growing
    (λ image at. no_page (told_owns table layout view (source_of case moment) images image at) size view after within (λ page none. owns_none table layout case moment images image at page none) is)
    (λ image at. no_page (told_begins table layout view (source_of case moment) images image at) size view after within (λ page none. begins_none table layout case moment images image at page none) is)

-- ---- by the graph

owning_map : (f : ℕ → Label) (from n k : ℕ) → owning_in (map f (range_with_len from n)) k ≡ (nat_lt k n && is_owning (f (from + k)))
unfolding owning_in
owning_map f from zero k = let none : nat_lt k zero ≡ false = grind (arith, nat_tests) in sym (ap (λ b. b && is_owning (f (from + k))) none)
owning_map f from (suc n) zero =
    let some : nat_lt zero (suc n) ≡ true = grind (arith, nat_tests) in
    let same : from ≡ from + zero = omega arith in
    ap (λ i. is_owning (f i)) same ∙ sym (ap (λ b. b && is_owning (f (from + zero))) some)
owning_map f from (suc n) (suc k) =
    let less : nat_lt k n ≡ nat_lt (suc k) (suc n) = grind (arith, nat_tests) in
    let more : from + 1 + k ≡ from + suc k = omega arith in
    owning_map f (from + 1) n k ∙ ap (λ b. b && is_owning (f (from + 1 + k))) less ∙ ap (λ i. nat_lt (suc k) (suc n) && is_owning (f i)) more

labels_own : (graph : Graph) (layout : Layout) (view : ℕ → Option (List ℕ)) (page at : ℕ) → owning_in (labels_of graph layout view page) at ≡ (nat_lt at layout.page_size && is_owning (label_of graph layout view page at))
unfolding labels_of
labels_own graph layout view page at =
    let same : 0 + at ≡ at = omega arith in
    owning_map (label_of graph layout view page) 0 layout.page_size at ∙ ap (λ i. nat_lt at layout.page_size && is_owning (label_of graph layout view page i)) same

abbrev Whole : (ℕ → Option (List ℕ)) → Layout → Type 0
Whole view layout = (page : ℕ) (bytes : List ℕ) → view page ≡ Some bytes → length bytes ≡ layout.page_size

owns_is : (size : ℕ) (table : Table) (layout : Layout) (view : ℕ → Option (List ℕ)) (source : ℕ → Option Place) (images : List Image) (roots : List ℤ) (image at page : ℕ) → Whole view layout
    → IsTableOf (graph_of size view layout roots) (layout.usable - 4) table
    → told_owns table layout view source images image at page ≡ page_owns (graph_of size view layout roots) layout view source images image at page
unfolding told_owns page_owns
owns_is size table layout view source images roots image at page whole is =
    let labels = labels_are size view layout table page (table_labels table layout view page) (whole page) refl roots is in
    ap (λ list. is_viewed images (source page) image && owning_in list at) labels
    ∙ ap (λ b. is_viewed images (source page) image && b) (labels_own (graph_of size view layout roots) layout view page at)

begins_is : (size : ℕ) (table : Table) (layout : Layout) (view : ℕ → Option (List ℕ)) (source : ℕ → Option Place) (images : List Image) (roots : List ℤ) (image at page : ℕ)
    → IsTableOf (graph_of size view layout roots) (layout.usable - 4) table
    → told_begins table layout view source images image at page ≡ page_begins (graph_of size view layout roots) layout view source images image at page
unfolding told_begins page_begins
begins_is size table layout view source images roots image at page is = ap (λ one. is_viewed images (source page) image && one_begins one (view page) page layout.usable at) (is.ones page)

any_same : (p q : ℕ → Bool) (pages : List ℕ) → ((page : ℕ) → p page ≡ q page) → list_any p pages ≡ list_any q pages
any_same p q [] same = refl
any_same p q (page ∷ pages) same = ap (λ b. b || list_any p pages) (same page) ∙ ap (λ b. q page || b) (any_same p q pages same)

any_all : (p : ℕ → Bool) (size : ℕ) → any_above p 0 size ≡ list_any p (range_with_len 1 size)
unfolding any_above
any_all p size = let same : size - 0 ≡ size = omega arith in ap (λ n. list_any p (range_with_len 1 n)) same

size_by : (case : Gathered) (size : ℕ) (head : Option Header) → (layout_by case size head).page_size ≡ case.header.page_size
size_by case size None = refl
size_by case size (Some head) = refl

-- the layout has the page size of the file
pub same_size : (case : Gathered) (moment : Moment) (layout : Layout) → layout ≡ layout_of case moment → case.header.page_size ≡ layout.page_size
same_size case moment layout is = sym (ap (λ (l : Layout). l.page_size) is ∙ size_by case (size_at case moment) (head_of case moment))

-- all pages of a moment, by what refers to what there
pub moment_pages : (table : Table) (layout : Layout) (case : Gathered) (moment : Moment) (images : List Image) (roots : List ℤ) (old new : Owned)
    → Whole (view_of case moment) layout → IsTableOf (graph_of (size_at case moment) (view_of case moment) layout roots) (layout.usable - 4) table
    → layout ≡ layout_of case moment → roots ≡ roots_of (schema_of (size_at case moment) (view_of case moment) layout.usable (encoding_at case moment))
    → Grows old new (owns_above table layout case moment images 0) (begins_above table layout case moment images 0)
    → Grows old new
    (λ image at. list_any (page_owns (graph_at case moment) (layout_of case moment) (view_of case moment) (source_of case moment) images image at) (range_with_len 1 (size_at case moment)))
    (λ image at. list_any (page_begins (graph_at case moment) (layout_of case moment) (view_of case moment) (source_of case moment) images image at) (range_with_len 1 (size_at case moment)))
moment_pages table layout case moment images roots old new whole is layout_is roots_are grows =
    let view = view_of case moment in
    let source = source_of case moment in
    let size = size_at case moment in
    let pages = range_with_len 1 size in
    grows_same old new (owns_above table layout case moment images 0) (begins_above table layout case moment images 0)
    (λ image at. list_any (page_owns (graph_at case moment) (layout_of case moment) view source images image at) pages)
    (λ image at. list_any (page_begins (graph_at case moment) (layout_of case moment) view source images image at) pages)
    grows
    (λ image at.
    any_all (told_owns table layout view source images image at) size
    ∙ any_same (told_owns table layout view source images image at) (page_owns (graph_of size view layout roots) layout view source images image at) pages
    (λ page. owns_is size table layout view source images roots image at page whole is)
    ∙ ap (λ list. list_any (page_owns (graph_of size view layout list) layout view source images image at) pages) roots_are
    ∙ ap (λ (l : Layout). list_any (page_owns (graph_of size view l (roots_of (schema_of size view l.usable (encoding_at case moment)))) l view source images image at) pages) layout_is)
    (λ image at.
    any_all (told_begins table layout view source images image at) size
    ∙ any_same (told_begins table layout view source images image at) (page_begins (graph_of size view layout roots) layout view source images image at) pages
    (λ page. begins_is size table layout view source images roots image at page is)
    ∙ ap (λ list. list_any (page_begins (graph_of size view layout list) layout view source images image at) pages) roots_are
    ∙ ap (λ (l : Layout). list_any (page_begins (graph_of size view l (roots_of (schema_of size view l.usable (encoding_at case moment)))) l view source images image at) pages) layout_is)
