-- Which pages a list of sheets has.
use Rattle.std.proofs.Common.{◌≡◌, ℕ, zero, suc, ◌-◌, ◌<◌, ◌≤◌, ◌==◌, Bool, true, false, cond, List, [], ◌∷◌, Option, None, Some, length, slice_get, nat_le, refl, sym, ◌∙◌, ap, arith}
use Rattle.std.specs.Borrow.{Bor}
use Rattle.std.proofs.lemmas.Bool.{eqb-true}
use Rattle.sx_base.specs.Sheets.{whole_sheet, sheet_view}

get_past : {X : Type 0} (xs : List X) (i : ℕ) → length xs ≤ i → slice_get xs i ≡ None
get_past [] i past = refl
get_past (x ∷ xs) zero past = absurd (omega arith)
get_past (x ∷ xs) (suc i) past = get_past xs i (omega arith)

past_case : (page_size : ℕ) (sheets : List (Bor (List ℕ))) (number : ℕ) (b : Bool) → nat_le 1 number ≡ b → slice_get sheets (number - 1) ≡ None
    → sheet_view page_size sheets number ≡ None
unfolding sheet_view
past_case page_size sheets number true from past = rw (from, past) refl
past_case page_size sheets number false from past = rw from refl

-- none past the last sheet
pub view_past : (page_size : ℕ) (sheets : List (Bor (List ℕ))) (number : ℕ) → length sheets < number
    → sheet_view page_size sheets number ≡ None
view_past page_size sheets number past =
    past_case page_size sheets number (nat_le 1 number) refl (get_past sheets (number - 1) (omega arith))

long_case : (page_size : ℕ) (sheet page : List ℕ) (b : Bool) → (length sheet == page_size) ≡ b → cond b (Some sheet) None ≡ Some page → length page ≡ page_size
long_case page_size sheet page true long found =
    let same : sheet ≡ page = cc in
    ap length (sym same) ∙ eqb-true (length sheet) page_size long
long_case page_size sheet page false long found = let never : None ≡ Some page = found in cc

sheet_case : (page_size : ℕ) (sheet : Option (Bor (List ℕ))) (page : List ℕ) → whole_sheet page_size sheet ≡ Some page → length page ≡ page_size
sheet_case page_size None page found = let never : None ≡ Some page = found in cc
sheet_case page_size (Some sheet) page found = long_case page_size sheet.now page (length sheet.now == page_size) refl found

view_case : (page_size : ℕ) (sheet : Option (Bor (List ℕ))) (page : List ℕ) (b : Bool) → cond b (whole_sheet page_size sheet) None ≡ Some page → length page ≡ page_size
view_case page_size sheet page true found = sheet_case page_size sheet page found
view_case page_size sheet page false found = let never : None ≡ Some page = found in cc

-- each has the page size
pub view_whole : (page_size : ℕ) (sheets : List (Bor (List ℕ))) (number : ℕ) (page : List ℕ) → sheet_view page_size sheets number ≡ Some page
    → length page ≡ page_size
unfolding sheet_view
view_whole page_size sheets number page found = view_case page_size (slice_get sheets (number - 1)) page (nat_le 1 number) found
