-- Each view lies wholly within one of the files.
use Rattle.std.proofs.Common.{◌≡◌, ℕ, zero, suc, ◌+◌, ◌-◌, ◌*◌, ◌/◌, ◌≤◌, Bool, true, false, cond, ◌&&◌, nat_le, nat_lt, not, ◌==◌, IsTrue, List, Option, Some, None, IfSome, length, drop, refl, sym, ap, ◌∙◌, subst, arith, length-take-le}
use Rattle.std.specs.Option.{option_map, option_or}
use Rattle.std.proofs.Math.Nat.{div-mul-le_self, mul-le-mul_right, suc-mul}
use Rattle.std.proofs.lemmas.Bool.{ltb-true, leb-true, and_parts}
use Rattle.std.proofs.lemmas.List.{length-drop}
use Rattle.sx_base.specs.declared.evidence.Place.{Place}
use Rattle.sx_base.specs.declared.moment.Moment.{Moment}
use Rattle.sx_moment.specs.Gathered.{Gathered, page_count, size_at, is_moment}
use Rattle.sx_moment.specs.Views.{image_at, can_be_viewed, lock_in, file_page, origin_of, place_of, part_bytes, bytes_from, bytes_of, IsWhole, view_of, source_of}
use Rattle.sx_moment.specs.Reading.{IsGathered}
use Rattle.sx_moment.specs.Images.{Stands}
use Rattle.sx_moment.specs.declared.origin.Origin.{Origin}
use Rattle.sx_moment.specs.declared.origin.Origin.TheVariants.{Database, Slot, Record}
use Rattle.sx_moment.proofs.Moments.{image_stands, limit_within}

-- ---- where a view comes from there is an image

file_case : (case : Gathered) (number : ℕ) (whole : Bool) → nat_le number (page_count case) ≡ whole → 1 ≤ number
    → IfSome (cond whole (Some Database) None) (Stands case number)
file_case case number true is first = (first, leb-true number (page_count case) is)
file_case case number false is first = tt

either_case : (case : Gathered) (number : ℕ) (image : Option Origin) → 1 ≤ number → IfSome image (Stands case number)
    → IfSome (option_or image (file_page case number)) (Stands case number)
either_case case number None first there = file_case case number (nat_le number (page_count case)) refl first
either_case case number (Some origin) first there = there

viewed_first : (lock size number : ℕ) → can_be_viewed lock size number ≡ true → 1 ≤ number
viewed_first lock size number viewed =
    let sized = and_parts (nat_lt 0 number && nat_le number size) (not (number == lock)) viewed in
    let first = and_parts (nat_lt 0 number) (nat_le number size) sized.0 in
    ltb-true 0 number first.0

viewed_case : (case : Gathered) (size number : ℕ) (image : Option Origin) (viewed : Bool) → can_be_viewed (lock_in case) size number ≡ viewed
    → IfSome image (Stands case number) → IfSome (cond viewed (option_or image (file_page case number)) None) (Stands case number)
viewed_case case size number image true is there = either_case case number image (viewed_first (lock_in case) size number is) there
viewed_case case size number image false is there = tt

pub origin_stands : (case : Gathered) (moment : Moment) (number : ℕ) → IsGathered case → IsTrue (is_moment case moment)
    → IfSome (origin_of case moment number) (Stands case number)
unfolding origin_of
origin_stands case moment number gathered is =
    viewed_case case (size_at case moment) number (image_at case moment number) (can_be_viewed (lock_in case) (size_at case moment) number) refl
    (image_stands case moment number (limit_within case moment gathered is))

-- ---- an image is there from its place on

page_fits : (page_size long number : ℕ) → 1 ≤ number → number ≤ long / page_size → (number - 1) * page_size + page_size ≤ long
page_fits page_size long zero first within = absurd (omega (arith, first))
page_fits page_size long (suc n) first within =
    let whole : long / page_size * page_size ≤ long = div-mul-le_self long page_size in
    let more : suc n * page_size ≤ long / page_size * page_size = mul-le-mul_right page_size within in
    let sum : suc n * page_size ≡ n * page_size + page_size = suc-mul n page_size in
    let less : suc n - 1 ≡ n = omega arith in
    rw less (omega (arith, whole, more, sum))

pub stands_whole : (case : Gathered) (number : ℕ) (origin : Origin) → IsGathered case → Stands case number origin
    → IsWhole case (place_of case number origin)
stands_whole case number Database gathered stands = page_fits case.header.page_size (length case.database) number stands.0 stands.1
stands_whole case number (Slot i) gathered stands = gathered.slots i stands
stands_whole case number (Record i) gathered stands = gathered.records i stands

whole_long : (case : Gathered) (place : Place) → IsWhole case place → length (bytes_from case place) ≡ case.header.page_size
whole_long case place whole =
    let bytes = part_bytes case place.part in
    let left = length-drop place.offset bytes in
    length-take-le case.header.page_size (drop place.offset bytes) (omega (arith, left, whole))

-- ---- so is a view

lie_case : (case : Gathered) (number : ℕ) (origin : Option Origin) (place : Place) → IsGathered case → IfSome origin (Stands case number)
    → option_map (place_of case number) origin ≡ Some place
    → IsWhole case place × (option_map (bytes_of case number) origin ≡ Some (bytes_from case place))
lie_case case number None place gathered stands found = let never : None ≡ Some place = found in cc
lie_case case number (Some origin) place gathered stands found =
    let here : place_of case number origin ≡ place = cc in
    (subst (IsWhole case) here (stands_whole case number origin gathered stands), ap (λ p. Some (bytes_from case p)) here)

pub views_lie : (case : Gathered) (moment : Moment) (number : ℕ) (place : Place) → IsGathered case → IsTrue (is_moment case moment)
    → source_of case moment number ≡ Some place → IsWhole case place × (view_of case moment number ≡ Some (bytes_from case place))
views_lie case moment number place gathered is found =
    lie_case case number (origin_of case moment number) place gathered (origin_stands case moment number gathered is) found

long_case : (case : Gathered) (number : ℕ) (origin : Option Origin) (page : List ℕ) → IsGathered case → IfSome origin (Stands case number)
    → option_map (bytes_of case number) origin ≡ Some page → length page ≡ case.header.page_size
long_case case number None page gathered stands found = let never : None ≡ Some page = found in cc
long_case case number (Some origin) page gathered stands found =
    let here : bytes_of case number origin ≡ page = cc in
    ap length (sym here) ∙ whole_long case (place_of case number origin) (stands_whole case number origin gathered stands)

-- and has the page size
pub views_long : (case : Gathered) (moment : Moment) (number : ℕ) (page : List ℕ) → IsGathered case → IsTrue (is_moment case moment)
    → view_of case moment number ≡ Some page → length page ≡ case.header.page_size
views_long case moment number page gathered is found =
    long_case case number (origin_of case moment number) page gathered (origin_stands case moment number gathered is) found
