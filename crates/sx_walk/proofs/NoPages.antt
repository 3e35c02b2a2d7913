-- A moment without pages, from which another is followed.
use Rattle.std.proofs.Common.{◌≡◌, ℕ, zero, suc, ◌<◌, List, [], ◌∷◌, length, map, is_some, Option, None, replicate, option_copied, refl, sym, ap, ◌∙◌, arith}
use Rattle.std.specs.Borrow.{Bor}
use Rattle.std.specs.List.{All, Contains, range_with_len}
use Rattle.std.proofs.lemmas.Bool.{false≢true}
use Rattle.std.proofs.lemmas.List.FromFn.{length-range_with_len, get_or-range_with_len}
use Rattle.sx_base.specs.Sheets.{sheet_view}
use Rattle.sx_base.proofs.SheetViews.{view_past}
use Rattle.sx_refs.specs.Covering.{Covers}
use Rattle.sx_walk.specs.Walks.{RanksStand}

no_page_0 : (page_size : ℕ) (sheets : List (Bor (List ℕ))) → sheet_view page_size sheets 0 ≡ None
unfolding sheet_view
no_page_0 page_size sheets = refl

-- no page has a view
pub no_view : (page_size : ℕ) (sheets : List (Bor (List ℕ))) → sheets ≡ [] → (number : ℕ) → sheet_view page_size sheets number ≡ None
no_view page_size sheets none zero = no_page_0 page_size sheets
no_view page_size sheets none (suc number) =
    let long = ap length none in
    view_past page_size sheets (suc number) (omega (arith, long))

pub none_covered : (numbers : List ℕ) (view : ℕ → Option (List ℕ)) → ((number : ℕ) → view number ≡ None) → Covers numbers view
none_covered numbers view none number there = absurd (false≢true (ap is_some (sym (none number)) ∙ there))

-- and so none is kept
pub none_kept : (numbers : List ℕ) (view : ℕ → Option (List ℕ)) → ((number : ℕ) → view number ≡ None)
    → (let nothing : Option (Bor (List ℕ)) = None in map option_copied (replicate (length numbers) nothing) ≡ map view numbers)
none_kept [] view none = refl
none_kept (number ∷ numbers) view none =
    ap (λ one. one ∷ map option_copied (replicate (length numbers) None)) (sym (none number)) ∙ ap (λ list. view number ∷ list) (none_kept numbers view none)

-- each rank is one of all
pub all_listed : (long rank : ℕ) → rank < long → Contains (range_with_len 0 long) rank
all_listed long rank within =
    let many = length-range_with_len 0 long in
    (rank, omega (arith, many, within), get_or-range_with_len 0 long rank rank within ∙ omega arith)

pub all_within : (numbers : List ℕ) → All (λ rank. rank < length numbers) (range_with_len 0 (length numbers))
all_within numbers k d within =
    let many = length-range_with_len 0 (length numbers) in
    let low : k < length numbers = omega (arith, many, within) in
    let same = get_or-range_with_len 0 (length numbers) k d low in
    omega (arith, same, low)

-- where all ranks are listed none stands
pub none_stands : (numbers : List ℕ) (views : List (Option (List ℕ))) (view : ℕ → Option (List ℕ)) → RanksStand (range_with_len 0 (length numbers)) numbers views view
none_stands numbers views view rank within other = absurd (other (all_listed (length numbers) rank within))
