-- The pages of a moment, one after the other, and the images that are their views.
use Rattle.std.proofs.Common.{◌≡◌, ◌↔◌, ℕ, zero, suc, ◌+◌, ◌-◌, ◌<◌, ◌≤◌, Bool, true, false, ◌||◌, ◌&&◌, ◌==◌, eqb-true, eq-eqb, List, length, is_some, slice_get, Option, Some, None, refl, sym, ap, ◌∙◌, arith}
use Rattle.std.specs.List.{list_any, range_with_len}
use Rattle.std.specs.Option.{option_map}
use Rattle.std.proofs.lemmas.Option.{slice_get_within}
use Rattle.sx_base.specs.declared.evidence.Part.{Part}
use Rattle.sx_base.specs.declared.evidence.Part.TheVariants.{Database, Wal, Journal}
use Rattle.sx_base.specs.declared.evidence.Place.{Place}
use Rattle.sx_base.specs.Held.{held_after}
use Rattle.sx_base.proofs.HeldPages.{next_held, none_held}
use Rattle.sx_moment.specs.Gathered.{Gathered}
use Rattle.sx_base.specs.declared.moment.Moment.{Moment}
use Rattle.sx_moment.specs.Views.{origin_of, view_of, source_of, bytes_of, place_of}
use Rattle.sx_moment.specs.declared.origin.Origin.{Origin}
use Rattle.sx_images.specs.declared.image.Image.{Image}
use Rattle.sx_images.specs.Images.{Table, images_of, part_number, Holds}
use Rattle.sx_sweep.specs.Owning.{begins_at, is_viewed}
use Rattle.sx_sweep.specs.Told.{any_above}

-- ---- the next page

any_more : (p : ℕ → Bool) (from count : ℕ) → list_any p (range_with_len from (suc count)) ≡ (p from || list_any p (range_with_len (from + 1) count))
any_more p from count = refl

any_skip : (p : ℕ → Bool) (more from total count : ℕ) → total ≡ more + count → ((number : ℕ) → from ≤ number → number < from + more → p number ≡ false)
    → list_any p (range_with_len from total) ≡ list_any p (range_with_len (from + more) count)
any_skip p zero from total count is none =
    let start : from ≡ from + zero = omega arith in
    let same : total ≡ count = omega arith in
    ap (λ n. list_any p (range_with_len from n)) same ∙ ap (λ n. list_any p (range_with_len n count)) start
any_skip p (suc more) from zero count is none = absurd (omega arith)
any_skip p (suc more) from (suc total) count is none =
    let start : from + 1 + more ≡ from + suc more = omega arith in
    ap (λ b. b || list_any p (range_with_len (from + 1) total)) (none from (omega arith) (omega arith))
    ∙ any_skip p more (from + 1) total count (omega arith) (λ number low high. none number (omega arith) (omega arith))
    ∙ ap (λ n. list_any p (range_with_len n count)) start

-- the next page that is held, and those above it
pub next_page : (p : ℕ → Bool) (size : ℕ) (view : ℕ → Option (List ℕ)) (after number : ℕ) → ((page : ℕ) → is_some (view page) ≡ false → p page ≡ false) → held_after size view after ≡ Some number
    → any_above p after size ≡ (p number || any_above p number size)
unfolding any_above
next_page p size view after number none is =
    let next = next_held size view after number is in
    let above : after < number = next.above in
    let high : number < 1 + size = let h = next.high in omega arith in
    let start : after + 1 + (number - (after + 1)) ≡ number = omega arith in
    any_skip p (number - (after + 1)) (after + 1) (size - after) (suc (size - number)) (omega arith)
    (λ page low below. none page (next.between page (omega arith) (omega arith) (omega arith)))
    ∙ ap (λ n. list_any p (range_with_len n (suc (size - number)))) start

pub next_above : (size : ℕ) (view : ℕ → Option (List ℕ)) (after number : ℕ) → held_after size view after ≡ Some number → (after < number) × (number ≤ size)
next_above size view after number is =
    let next = next_held size view after number is in
    (next.above, (let h = next.high in omega arith))

-- no page is left
pub no_page : (p : ℕ → Bool) (size : ℕ) (view : ℕ → Option (List ℕ)) (after : ℕ) → after ≤ size → ((page : ℕ) → is_some (view page) ≡ false → p page ≡ false) → held_after size view after ≡ None
    → any_above p after size ≡ false
unfolding any_above
no_page p size view after within none is =
    any_skip p (size - after) (after + 1) (size - after) 0 (omega arith)
    (λ page low below. none page (none_held size view after is page (omega arith) (omega arith)))

-- ---- a page without a view

no_origin : (case : Gathered) (page : ℕ) (origin : Option Origin) → is_some (option_map (bytes_of case page) origin) ≡ false → option_map (place_of case page) origin ≡ None
no_origin case page None is = refl
no_origin case page (Some origin) is = absurd (cc)

pub no_source : (case : Gathered) (moment : Moment) (page : ℕ) → is_some (view_of case moment page) ≡ false → source_of case moment page ≡ None
no_source case moment page is = no_origin case page (origin_of case moment page) is

-- ---- the image that is found

same_part : (one other : Part) → (part_number one == part_number other) ≡ true → one ≡ other
same_part Database Database is = refl
same_part Database Wal is = absurd (cc)
same_part Database Journal is = absurd (cc)
same_part Wal Database is = absurd (cc)
same_part Wal Wal is = refl
same_part Wal Journal is = absurd (cc)
same_part Journal Database is = absurd (cc)
same_part Journal Wal is = absurd (cc)
same_part Journal Journal is = refl

both_true : (a b : Bool) → (a && b) ≡ true → (a ≡ true) × (b ≡ true)
both_true true true is = (refl, refl)
both_true true false is = absurd (cc)
both_true false b is = absurd (cc)

viewed_by : (table : Table) (place : Place) (i : ℕ) (found : Option Image) → 0 < table.page_size → slice_get (images_of table) i ≡ found → begins_at place found ≡ true → Holds table i 0 place
viewed_by table place i None some is begins = absurd (cc)
viewed_by table place i (Some image) some is begins =
    let both = both_true (part_number image.part == part_number place.part) (image.offset == place.offset) begins in
    let offset : image.offset ≡ place.offset = eqb-true image.offset place.offset both.1 in
    record { image = image; there = is; part = same_part image.part place.part both.0; byte = omega arith; within = some }

viewed_holds : (table : Table) (place : Place) (i : ℕ) → 0 < table.page_size → is_viewed (images_of table) (Some place) i ≡ true → Holds table i 0 place
viewed_holds table place i some is = viewed_by table place i (slice_get (images_of table) i) some refl is

both : (a b : Bool) → a ≡ true → b ≡ true → (a && b) ≡ true
both true true one other = refl
both true false one other = other
both false b one other = one

holds_viewed : (table : Table) (place : Place) (i : ℕ) → Holds table i 0 place → is_viewed (images_of table) (Some place) i ≡ true
holds_viewed table place i holds =
    let offset : holds.image.offset ≡ place.offset = let byte = holds.byte in omega arith in
    ap (begins_at place) holds.there
    ∙ both (part_number holds.image.part == part_number place.part) (holds.image.offset == place.offset)
    (eq-eqb (part_number holds.image.part) (part_number place.part) (ap part_number holds.part)) (eq-eqb holds.image.offset place.offset offset)

abbrev as_number : Option ℕ → ℕ
as_number None = 0
as_number (Some n) = n

found_by : (table : Table) (place : Place) (n i : ℕ) (viewed same : Bool) → 0 < table.page_size → ((j : ℕ) → (Some n ≡ Some j) ↔ Holds table j 0 place)
    → is_viewed (images_of table) (Some place) i ≡ viewed → (i == n) ≡ same → viewed ≡ same
found_by table place n i true true some found is equal = refl
found_by table place n i false false some found is equal = refl
found_by table place n i true false some found is equal =
    let here = (found i).1 (viewed_holds table place i some is) in
    let number : n ≡ i = ap as_number here in
    absurd (let e = eq-eqb i n (sym number) in cc)
found_by table place n i false true some found is equal =
    let number : i ≡ n = eqb-true i n equal in
    let holds = (found i).0 (ap Some (sym number)) in
    absurd (let e = holds_viewed table place i holds in cc)

-- it is the one that is the view
pub found_only : (table : Table) (place : Place) (n : ℕ) → 0 < table.page_size → ((j : ℕ) → (Some n ≡ Some j) ↔ Holds table j 0 place) → (i : ℕ) → is_viewed (images_of table) (Some place) i ≡ (i == n)
found_only table place n some found i = found_by table place n i (is_viewed (images_of table) (Some place) i) (i == n) some found refl refl

pub found_there : (table : Table) (place : Place) (n : ℕ) → ((j : ℕ) → (Some n ≡ Some j) ↔ Holds table j 0 place) → n < length (images_of table)
found_there table place n found = let holds = (found n).0 refl in slice_get_within (images_of table) n holds.image holds.there

abbrev no_number : Option ℕ
no_number = None

none_by : (table : Table) (place : Place) (i : ℕ) (viewed : Bool) → 0 < table.page_size → ((j : ℕ) → (no_number ≡ Some j) ↔ Holds table j 0 place) → is_viewed (images_of table) (Some place) i ≡ viewed → viewed ≡ false
none_by table place i false some found is = refl
none_by table place i true some found is = absurd (let none = (found i).1 (viewed_holds table place i some is) in cc)

-- where none is found, none is
pub found_none : (table : Table) (place : Place) → 0 < table.page_size → ((j : ℕ) → (no_number ≡ Some j) ↔ Holds table j 0 place) → (i : ℕ) → is_viewed (images_of table) (Some place) i ≡ false
found_none table place some found i = none_by table place i (is_viewed (images_of table) (Some place) i) some found refl
