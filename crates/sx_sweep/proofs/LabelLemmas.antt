-- The page of one rank: what is known of it after it was gone over.
use Rattle.std.proofs.Common.{◌≡◌, ℕ, ◌<◌, ◌≤◌, ◌==◌, Bool, true, false, ◌||◌, ◌&&◌, List, length, drop, slice_set, slice_index, Some, None, refl, sym, ap, subst, ◌∙◌, arith}
use Rattle.std.proofs.lemmas.List.{length-take}
use Rattle.sx_base.specs.Maps.{lock_page_of}
use Rattle.sx_base.specs.declared.evidence.Place.{Place}
use Rattle.sx_base.specs.declared.label.Label.{Label}
use Rattle.sx_base.specs.declared.layout.Layout.{Layout}
use Rattle.sx_base.specs.declared.moment.Moment.{Moment}
use Rattle.sx_closure.specs.Tallying.{Table}
use Rattle.sx_images.specs.declared.image.Image.{Image}
use Rattle.sx_images.specs.Images.{Table as ImageTable, images_of}
use Rattle.sx_moment.specs.Gathered.{Gathered, size_at}
use Rattle.sx_moment.specs.Views.{bytes_from, part_bytes, source_of, view_of}
use Rattle.sx_owned.specs.Owned.{Owned, owned_at, block_at}
use Rattle.sx_prov.specs.declared.key.PageKey.{PageKey}
use Rattle.sx_prov.specs.declared.map.Totals.{Totals}
use Rattle.sx_prov.specs.Keys.{key_of, keyed_labels}
use Rattle.sx_prov.proofs.Groups.{all_groups}
use Rattle.sx_prov.proofs.KeyLabels.{keyed_long}
use Rattle.sx_sums.specs.Entries.{entry_at, IsPage}
use Rattle.sx_sums.specs.declared.entry.Entry.{Entry}
use Rattle.sx_sums.specs.declared.entry.Labelled.{Labelled}
use Rattle.sx_sums.specs.Shown.{AreTotals}
use Rattle.sx_sweep.specs.Growth.{nowhere, Grows}
use Rattle.sx_sweep.specs.Owning.{is_viewed}
use Rattle.sx_sweep.specs.Told.{owning_in, only_in, told_owns, told_begins}
use Rattle.sx_sweep.specs.Passing.{key_begins, labels_by, IsTold, IsKnown, IsLabelled, Matches, Adds, pages_own, pages_begin, Passes}
use Rattle.sx_sweep.proofs.GrowthLemmas.{or_false, grows_none, grows_same, grows_both}
use Rattle.sx_sweep.proofs.AddLemmas.{or_right, and_both, adds_none, adds_grown, any_here}
use Rattle.sx_sweep.proofs.ViewLemmas.{source_stands, owns_view, begins_view}
use Rattle.sx_sweep.proofs.PassLemmas.{passes_one}

-- ---- the image of a view

pub view_none : (images : List Image) (place : Place) (owned : Owned) (owns begins : ℕ → Bool) → ((image : ℕ) → is_viewed images (Some place) image ≡ false)
    → Grows owned owned (λ image at. is_viewed images (Some place) image && owns at) (λ image at. is_viewed images (Some place) image && begins at)
view_none images place owned owns begins none =
    grows_none owned (λ image at. is_viewed images (Some place) image && owns at) (λ image at. is_viewed images (Some place) image && begins at)
    (λ image at. ap (λ viewed. viewed && owns at) (none image)) (λ image at. ap (λ viewed. viewed && begins at) (none image))

pub view_grows : (images : List Image) (place : Place) (number : ℕ) (old mid new : Owned) (owns begins : ℕ → Bool) → ((image : ℕ) → is_viewed images (Some place) image ≡ (image == number))
    → Grows old mid (only_in number owns) nowhere → Grows mid new nowhere (only_in number begins)
    → Grows old new (λ image at. is_viewed images (Some place) image && owns at) (λ image at. is_viewed images (Some place) image && begins at)
view_grows images place number old mid new owns begins viewed first second =
    grows_same old new (λ image at. only_in number owns image at || nowhere image at) (λ image at. nowhere image at || only_in number begins image at)
    (λ image at. is_viewed images (Some place) image && owns at) (λ image at. is_viewed images (Some place) image && begins at)
    (grows_both old mid new (only_in number owns) nowhere nowhere (only_in number begins) first second)
    (λ image at. or_false (only_in number owns image at) ∙ sym (ap (λ is. is && owns at) (viewed image)))
    (λ image at. sym (ap (λ is. is && begins at) (viewed image)))

-- ---- totals

pub totals_fit : (labels : List Label) (totals : Totals) → AreTotals labels totals → length labels ≤ 65536 → IsPage totals
totals_fit labels totals are long =
    let all = all_groups labels in
    let owned = are.owned in
    let slack = are.slack in
    let fault = are.fault in
    omega (arith, all, owned, slack, fault)

pub told_fits : (case : Gathered) (images : List Image) (owned : Owned) (labelled : Labelled) → case.header.page_size ≤ 65536 → IsTold case images owned labelled → IsPage labelled.totals
told_fits case images owned labelled small told =
    let bytes = bytes_from case labelled.place in
    let long = keyed_long labelled.key bytes (labels_by case labelled) refl in
    let page = length-take case.header.page_size (drop labelled.place.offset (part_bytes case labelled.place.part)) in
    totals_fit (labels_by case labelled) labelled.totals told.totals (omega (arith, long, page))

-- ---- a page that was labelled anew

told_grown : (case : Gathered) (images : List Image) (owned now : Owned) (place : Place) (key : PageKey) (totals : Totals)
    → Grows owned now (λ image at. is_viewed images (Some place) image && owning_in (keyed_labels key (bytes_from case place)) at) (λ image at. is_viewed images (Some place) image && key_begins key (bytes_from case place) at)
    → AreTotals (keyed_labels key (bytes_from case place)) totals → IsTold case images now (record { place = place; key = key; totals = totals })
told_grown case images owned now place key totals grows are = record {
  totals = are;
  owns = λ image at viewed is.
      grows.owned image at
      ∙ or_right (owned_at owned image at) (is_viewed images (Some place) image && owning_in (keyed_labels key (bytes_from case place)) at)
      (and_both (is_viewed images (Some place) image) (owning_in (keyed_labels key (bytes_from case place)) at) viewed is);
  begins = λ image at viewed is.
      grows.block image at
      ∙ or_right (block_at owned image at) (is_viewed images (Some place) image && key_begins key (bytes_from case place) at)
      (and_both (is_viewed images (Some place) image) (key_begins key (bytes_from case place) at) viewed is);
}

adds_view : (case : Gathered) (moment : Moment) (table : Table) (layout : Layout) (images : List Image) (owned now : Owned) (page : ℕ) (place : Place)
    → layout.page_size ≡ case.header.page_size → source_of case moment page ≡ Some place → view_of case moment page ≡ Some (bytes_from case place)
    → Grows owned now (λ image at. is_viewed images (Some place) image && owning_in (keyed_labels (key_of table layout.usable page) (bytes_from case place)) at)
    (λ image at. is_viewed images (Some place) image && key_begins (key_of table layout.usable page) (bytes_from case place) at)
    → Adds owned now (pages_own case moment table layout images) (pages_begin case moment table layout images)
adds_view case moment table layout images owned now page place size from held grows =
    let key = key_of table layout.usable page in
    let bytes = bytes_from case place in
    let stands = source_stands case moment page place from in
    let other : (page == lock_page_of layout.page_size) ≡ false = ap (λ s. page == lock_page_of s) size ∙ stands.2 in
    adds_grown owned now (λ image at. is_viewed images (Some place) image && owning_in (keyed_labels key bytes) at) (λ image at. is_viewed images (Some place) image && key_begins key bytes at)
    (pages_own case moment table layout images) (pages_begin case moment table layout images) grows
    (λ image at is.
    any_here (told_owns table layout (view_of case moment) (source_of case moment) images image at) (size_at case moment) page stands.0 stands.1
    (owns_view table layout (view_of case moment) (source_of case moment) images image at page place bytes from other held ∙ is))
    (λ image at is.
    any_here (told_begins table layout (view_of case moment) (source_of case moment) images image at) (size_at case moment) page stands.0 stands.1
    (begins_view table layout (view_of case moment) (source_of case moment) images image at page place bytes from held ∙ is))

labelled_only : (case : Gathered) (images : List Image) (owned : Owned) (one labelled : Labelled) → IsTold case images owned one → Some one ≡ Some labelled → IsTold case images owned labelled
labelled_only case images owned one labelled told is = let same : one ≡ labelled = cc in subst (IsTold case images owned) same told

anew_here : (case : Gathered) (moment : Moment) (numbers : List ℕ) (table : Table) (layout : Layout) (images : ImageTable) (owned now : Owned) (entries after : List Entry) (rank : ℕ) (place : Place) (totals : Totals)
    → rank < length numbers → layout.page_size ≡ case.header.page_size → source_of case moment (slice_index numbers rank) ≡ Some place
    → view_of case moment (slice_index numbers rank) ≡ Some (bytes_from case place) → IsKnown case numbers images owned entries
    → Grows owned now (λ image at. is_viewed (images_of images) (Some place) image && owning_in (keyed_labels (key_of table layout.usable (slice_index numbers rank)) (bytes_from case place)) at)
    (λ image at. is_viewed (images_of images) (Some place) image && key_begins (key_of table layout.usable (slice_index numbers rank)) (bytes_from case place) at)
    → AreTotals (keyed_labels (key_of table layout.usable (slice_index numbers rank)) (bytes_from case place)) totals
    → after ≡ slice_set entries rank (record { last = Some (record { place = place; key = key_of table layout.usable (slice_index numbers rank); totals = totals }); shown = true })
    → Passes case moment numbers table layout images owned now entries after (λ other. rank == other)
anew_here case moment numbers table layout images owned now entries after rank place totals within size from held known grows are is =
    let page = slice_index numbers rank in
    let key = key_of table layout.usable page in
    let labelled : Labelled = record { place = place; key = key; totals = totals } in
    let entry : Entry = record { last = Some labelled; shown = true } in
    let mine : IsLabelled place key entry = record { labelled = labelled; shown = refl; last = refl; same_place = refl; same_key = refl } in
    passes_one case moment numbers table layout images owned now entries after rank entry within known
    (adds_view case moment table layout (images_of images) owned now page place size from held grows)
    is
    (λ other last. labelled_only case (images_of images) now labelled other (told_grown case (images_of images) owned now place key totals grows are) last)
    (subst (λ s. Matches s key entry) (sym from) mine)

pub passes_anew : (case : Gathered) (moment : Moment) (numbers : List ℕ) (table : Table) (layout : Layout) (images : ImageTable) (owned now : Owned) (entries after : List Entry) (rank page : ℕ) (place : Place) (key : PageKey) (totals : Totals)
    (bytes : List ℕ) (labels : List Label)
    → rank < length numbers → layout.page_size ≡ case.header.page_size → page ≡ slice_index numbers rank → source_of case moment page ≡ Some place → key ≡ key_of table layout.usable page
    → view_of case moment page ≡ Some (bytes_from case place) → Some bytes ≡ view_of case moment page → labels ≡ keyed_labels key bytes → IsKnown case numbers images owned entries
    → Grows owned now (λ image at. is_viewed (images_of images) (Some place) image && owning_in labels at) (λ image at. is_viewed (images_of images) (Some place) image && key_begins key bytes at)
    → AreTotals labels totals
    → after ≡ slice_set entries rank (record { last = Some (record { place = place; key = key; totals = totals }); shown = true })
    → Passes case moment numbers table layout images owned now entries after (λ other. rank == other)
passes_anew case moment numbers table layout images owned now entries after rank page place key totals bytes labels within size number from key_is held view made known grows are is =
    let here : Some bytes ≡ Some (bytes_from case place) = view ∙ held in
    let same : bytes ≡ bytes_from case place = cc in
    let key_here : key ≡ key_of table layout.usable (slice_index numbers rank) = key_is ∙ ap (key_of table layout.usable) number in
    let labels_are : labels ≡ keyed_labels (key_of table layout.usable (slice_index numbers rank)) (bytes_from case place) = made ∙ ap (keyed_labels key) same ∙ ap (λ k. keyed_labels k (bytes_from case place)) key_here in
    anew_here case moment numbers table layout images owned now entries after rank place totals within size
    (subst (λ n. source_of case moment n ≡ Some place) number from)
    (subst (λ n. view_of case moment n ≡ Some (bytes_from case place)) number held)
    known
    (grows_same owned now (λ image at. is_viewed (images_of images) (Some place) image && owning_in labels at) (λ image at. is_viewed (images_of images) (Some place) image && key_begins key bytes at)
    (λ image at. is_viewed (images_of images) (Some place) image && owning_in (keyed_labels (key_of table layout.usable (slice_index numbers rank)) (bytes_from case place)) at)
    (λ image at. is_viewed (images_of images) (Some place) image && key_begins (key_of table layout.usable (slice_index numbers rank)) (bytes_from case place) at)
    grows
    (λ image at. ap (λ list. is_viewed (images_of images) (Some place) image && owning_in list at) labels_are)
    (λ image at. ap (λ list. is_viewed (images_of images) (Some place) image && key_begins key list at) same ∙ ap (λ k. is_viewed (images_of images) (Some place) image && key_begins k (bytes_from case place) at) key_here))
    (subst (λ list. AreTotals list totals) labels_are are)
    (is ∙ ap (λ k. slice_set entries rank (record { last = Some (record { place = place; key = k; totals = totals }); shown = true })) key_here)

-- ---- a page that is as it was labelled last

pub passes_same : (case : Gathered) (moment : Moment) (numbers : List ℕ) (table : Table) (layout : Layout) (images : ImageTable) (owned : Owned) (entries after : List Entry) (rank page : ℕ) (place : Place) (key : PageKey) (labelled : Labelled)
    → rank < length numbers → page ≡ slice_index numbers rank → Some place ≡ source_of case moment (slice_index numbers rank) → key ≡ key_of table layout.usable page → IsKnown case numbers images owned entries
    → (entry_at entries rank).last ≡ Some labelled → labelled.place ≡ place → labelled.key ≡ key
    → after ≡ slice_set entries rank (record { last = Some labelled; shown = true })
    → Passes case moment numbers table layout images owned owned entries after (λ other. rank == other)
passes_same case moment numbers table layout images owned entries after rank page place key labelled within number from key_is known last same_place same_key is =
    let entry : Entry = record { last = Some labelled; shown = true } in
    let key_here : key ≡ key_of table layout.usable (slice_index numbers rank) = key_is ∙ ap (key_of table layout.usable) number in
    let mine : IsLabelled place (key_of table layout.usable (slice_index numbers rank)) entry =
    record { labelled = labelled; shown = refl; last = refl; same_place = same_place; same_key = same_key ∙ key_here } in
    passes_one case moment numbers table layout images owned owned entries after rank entry within known
    (adds_none owned (pages_own case moment table layout (images_of images)) (pages_begin case moment table layout (images_of images)))
    is
    (λ other there. labelled_only case (images_of images) owned labelled other (known.told rank labelled last) there)
    (subst (λ s. Matches s (key_of table layout.usable (slice_index numbers rank)) entry) from mine)

-- ---- a page without a view

pub passes_hidden : (case : Gathered) (moment : Moment) (numbers : List ℕ) (table : Table) (layout : Layout) (images : ImageTable) (owned : Owned) (entries after : List Entry) (rank : ℕ)
    → rank < length numbers → None ≡ source_of case moment (slice_index numbers rank) → IsKnown case numbers images owned entries
    → after ≡ slice_set entries rank (record { last = (entry_at entries rank).last; shown = false })
    → Passes case moment numbers table layout images owned owned entries after (λ other. rank == other)
passes_hidden case moment numbers table layout images owned entries after rank within from known is =
    let entry : Entry = record { last = (entry_at entries rank).last; shown = false } in
    let key = key_of table layout.usable (slice_index numbers rank) in
    let hidden : Matches None key entry = refl in
    passes_one case moment numbers table layout images owned owned entries after rank entry within known
    (adds_none owned (pages_own case moment table layout (images_of images)) (pages_begin case moment table layout (images_of images)))
    is
    (λ labelled last. known.told rank labelled last)
    (subst (λ s. Matches s key entry) from hidden)
