-- A moment of two pages, for the tests.
use Rattle.std.proofs.Common.{◌≡◌, ℕ, zero, suc, ◌<◌, true, List, [], ◌∷◌, length, is_some, None, refl, sym, ap, ◌∙◌, arith, Contains}
use Rattle.std.specs.Borrow.{Bor}
use Rattle.std.specs.List.{All}
use Rattle.std.specs.List.Sorted.{IsStrictlyIncreasing}
use Rattle.std.proofs.lemmas.Bool.{false≢true}
use Rattle.sx_base.specs.Sheets.{sheet_view}
use Rattle.sx_base.proofs.SheetViews.{view_past}

abbrev pub two : List ℕ
two = 1 ∷ 2 ∷ []

abbrev pub ranks : List ℕ
ranks = 0 ∷ 1 ∷ []

pub two_rises : IsStrictlyIncreasing two
two_rises zero within = omega arith
two_rises (suc k) within = absurd (omega (arith, within))

no_page_0 : (page_size : ℕ) (sheets : List (Bor (List ℕ))) → sheet_view page_size sheets 0 ≡ None
unfolding sheet_view
no_page_0 page_size sheets = refl

pub two_covers : (page_size : ℕ) (sheets : List (Bor (List ℕ))) → length sheets ≡ 2 → (number : ℕ) → is_some (sheet_view page_size sheets number) ≡ true → Contains two number
two_covers page_size sheets long zero there = absurd (false≢true (ap is_some (sym (no_page_0 page_size sheets)) ∙ there))
two_covers page_size sheets long (suc zero) there = (0, omega arith, refl)
two_covers page_size sheets long (suc (suc zero)) there = (1, omega arith, refl)
two_covers page_size sheets long (suc (suc (suc number))) there =
    absurd (false≢true (ap is_some (sym (view_past page_size sheets (suc (suc (suc number))) (omega (arith, long)))) ∙ there))

-- where all ranks are listed no other stays
pub none_other : {P : Type 0} (rank : ℕ) → rank < 2 → (Contains ranks rank → ⊥) → P
none_other zero within other = absurd (other (0, omega arith, refl))
none_other (suc zero) within other = absurd (other (1, omega arith, refl))
none_other (suc (suc rank)) within other = absurd (omega (arith, within))

-- and they are those of the pages
pub ranks_within : (numbers : List ℕ) → length numbers ≡ 2 → All (λ rank. rank < length numbers) ranks
ranks_within numbers long zero d within = omega (arith, long)
ranks_within numbers long (suc zero) d within = omega (arith, long)
ranks_within numbers long (suc (suc at)) d within = absurd (omega (arith, within))
