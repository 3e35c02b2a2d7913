-- A page that has a view: where it can stand, and what its key gives.
use Rattle.std.proofs.Common.{◌≡◌, ℕ, ◌≤◌, ◌==◌, Bool, true, false, cond, not, ◌&&◌, nat_le, nat_lt, List, map, Option, Some, None, refl, sym, ap, subst, ◌∙◌}
use Rattle.std.specs.List.{range_with_len}
use Rattle.std.specs.Option.{option_map, option_or}
use Rattle.std.proofs.lemmas.Bool.{ltb-true, leb-true, and_parts}
use Rattle.sx_base.specs.Maps.{lock_page_of}
use Rattle.sx_base.specs.declared.evidence.Place.{Place}
use Rattle.sx_base.specs.declared.layout.Layout.{Layout}
use Rattle.sx_base.specs.declared.label.Label.TheVariants.{LockPage}
use Rattle.sx_base.specs.declared.moment.Moment.{Moment}
use Rattle.sx_closure.specs.Tallying.{Table, one_at}
use Rattle.sx_images.specs.declared.image.Image.{Image}
use Rattle.sx_moment.specs.Gathered.{Gathered, size_at}
use Rattle.sx_moment.specs.Views.{image_at, can_be_viewed, lock_in, file_page, origin_of, place_of, source_of, view_of, bytes_from, IsWhole}
use Rattle.sx_moment.specs.declared.origin.Origin.{Origin}
use Rattle.sx_prov.specs.Keys.{key_of, keyed_labels, viewed_labels, table_labels}
use Rattle.sx_sweep.specs.Owning.{is_viewed, one_begins}
use Rattle.sx_sweep.specs.Told.{owning_in, told_owns, told_begins}
use Rattle.sx_sweep.specs.Passing.{key_begins}
use Rattle.sx_sweep.proofs.KeyBlocks.{one_key}

-- ---- where it can stand

not_so : (b : Bool) → not b ≡ true → b ≡ false
not_so true is = sym is
not_so false is = refl

pub can_stand : (lock size number : ℕ) → can_be_viewed lock size number ≡ true → (1 ≤ number) × (number ≤ size) × ((number == lock) ≡ false)
can_stand lock size number can =
    let parts = and_parts (nat_lt 0 number && nat_le number size) (not (number == lock)) can in
    let sized = and_parts (nat_lt 0 number) (nat_le number size) parts.0 in
    (ltb-true 0 number sized.0, leb-true number size sized.1, not_so (number == lock) parts.1)

viewed_case : (case : Gathered) (size number : ℕ) (place : Place) (origin : Option Origin) (can : Bool) → can_be_viewed (lock_in case) size number ≡ can
    → option_map (place_of case number) (cond can origin None) ≡ Some place → (1 ≤ number) × (number ≤ size) × ((number == lock_in case) ≡ false)
viewed_case case size number place origin true can is = can_stand (lock_in case) size number can
viewed_case case size number place origin false can is = absurd (let never : None ≡ Some place = is in cc)

pub source_stands : (case : Gathered) (moment : Moment) (number : ℕ) (place : Place) → source_of case moment number ≡ Some place
    → (1 ≤ number) × (number ≤ size_at case moment) × ((number == lock_in case) ≡ false)
unfolding origin_of
source_stands case moment number place is =
    viewed_case case (size_at case moment) number place (option_or (image_at case moment number) (file_page case number))
    (can_be_viewed (lock_in case) (size_at case moment) number) refl is

-- ---- what its key gives

pub view_labels : (table : Table) (layout : Layout) (view : ℕ → Option (List ℕ)) (page : ℕ) (bytes : List ℕ) → (page == lock_page_of layout.page_size) ≡ false → view page ≡ Some bytes
    → table_labels table layout view page ≡ keyed_labels (key_of table layout.usable page) bytes
unfolding table_labels
view_labels table layout view page bytes other held =
    ap (λ b. cond b (map (λ at. LockPage) (range_with_len 0 layout.page_size)) (viewed_labels table layout.page_size layout.usable page (view page))) other
    ∙ ap (viewed_labels table layout.page_size layout.usable page) held

pub owns_view : (table : Table) (layout : Layout) (view : ℕ → Option (List ℕ)) (source : ℕ → Option Place) (images : List Image) (image at page : ℕ) (place : Place) (bytes : List ℕ)
    → source page ≡ Some place → (page == lock_page_of layout.page_size) ≡ false → view page ≡ Some bytes
    → told_owns table layout view source images image at page ≡ (is_viewed images (Some place) image && owning_in (keyed_labels (key_of table layout.usable page) bytes) at)
unfolding told_owns
owns_view table layout view source images image at page place bytes from other held =
    ap (λ s. is_viewed images s image && owning_in (table_labels table layout view page) at) from
    ∙ ap (λ labels. is_viewed images (Some place) image && owning_in labels at) (view_labels table layout view page bytes other held)

pub begins_view : (table : Table) (layout : Layout) (view : ℕ → Option (List ℕ)) (source : ℕ → Option Place) (images : List Image) (image at page : ℕ) (place : Place) (bytes : List ℕ)
    → source page ≡ Some place → view page ≡ Some bytes
    → told_begins table layout view source images image at page ≡ (is_viewed images (Some place) image && key_begins (key_of table layout.usable page) bytes at)
unfolding told_begins
begins_view table layout view source images image at page place bytes from held =
    ap (λ s. is_viewed images s image && one_begins (one_at table page) (view page) page layout.usable at) from
    ∙ ap (λ v. is_viewed images (Some place) image && one_begins (one_at table page) v page layout.usable at) held
    ∙ ap (λ b. is_viewed images (Some place) image && b) (one_key table bytes page layout.usable at)

owns_none : (table : Table) (layout : Layout) (view : ℕ → Option (List ℕ)) (source : ℕ → Option Place) (images : List Image) (image at page : ℕ) → source page ≡ None
    → told_owns table layout view source images image at page ≡ false
unfolding told_owns
owns_none table layout view source images image at page from = ap (λ s. is_viewed images s image && owning_in (table_labels table layout view page) at) from

begins_none : (table : Table) (layout : Layout) (view : ℕ → Option (List ℕ)) (source : ℕ → Option Place) (images : List Image) (image at page : ℕ) → source page ≡ None
    → told_begins table layout view source images image at page ≡ false
unfolding told_begins
begins_none table layout view source images image at page from = ap (λ s. is_viewed images s image && one_begins (one_at table page) (view page) page layout.usable at) from

place_case : (found : Option Place) → ((found ≡ None) → ⊥) → (place : Place) × (found ≡ Some place)
place_case None never = absurd (never refl)
place_case (Some place) never = (place, refl)

-- a page that owns something has a view
pub owns_source : (table : Table) (layout : Layout) (view : ℕ → Option (List ℕ)) (source : ℕ → Option Place) (images : List Image) (image at page : ℕ)
    → told_owns table layout view source images image at page ≡ true → (place : Place) × (source page ≡ Some place)
owns_source table layout view source images image at page is =
    place_case (source page) (λ from. let never : false ≡ true = sym (owns_none table layout view source images image at page from) ∙ is in cc)

pub begins_source : (table : Table) (layout : Layout) (view : ℕ → Option (List ℕ)) (source : ℕ → Option Place) (images : List Image) (image at page : ℕ)
    → told_begins table layout view source images image at page ≡ true → (place : Place) × (source page ≡ Some place)
begins_source table layout view source images image at page is =
    place_case (source page) (λ from. let never : false ≡ true = sym (begins_none table layout view source images image at page from) ∙ is in cc)

-- ---- a view lies where it begins

abbrev Lie : Gathered → Moment → Type 0
Lie case moment = (number : ℕ) → (place : Place) → source_of case moment number ≡ Some place → IsWhole case place × (view_of case moment number ≡ Some (bytes_from case place))

pub lies_here : (case other : Gathered) (moment at : Moment) → other ≡ case → at ≡ moment
    → ((number : ℕ) → (place : Place) → source_of other at number ≡ Some place → IsWhole other place × (view_of other at number ≡ Some (bytes_from other place)))
    → (number : ℕ) (place : Place) → source_of case moment number ≡ Some place → view_of case moment number ≡ Some (bytes_from case place)
lies_here case other moment at same_case same_moment law number place from =
    let here : Lie case moment = subst (Lie case) same_moment (subst (λ c. Lie c at) same_case law) in
    (here number place from).1
