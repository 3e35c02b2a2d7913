-- A moment of five pages, for the tests.
use Rattle.std.proofs.Common.{◌≡◌, ℕ, zero, suc, ◌+◌, ◌<◌, true, List, [], ◌∷◌, length, get_or, is_some, None, refl, sym, ap, ◌∙◌, arith}
use Rattle.std.specs.Borrow.{Bor}
use Rattle.std.specs.List.{All, Contains}
use Rattle.std.proofs.lemmas.Bool.{false≢true}
use Rattle.sx_base.specs.Sheets.{sheet_view}
use Rattle.sx_base.proofs.SheetViews.{view_past}
use Rattle.sx_closure.specs.Graph.{Rises}

abbrev pub five : List ℕ
five = 1 ∷ 2 ∷ 3 ∷ 4 ∷ 5 ∷ []

abbrev pub ranks : List ℕ
ranks = 0 ∷ 1 ∷ 2 ∷ 3 ∷ 4 ∷ []

number_at : (i : ℕ) → i < 5 → get_or five i 0 ≡ i + 1
number_at zero within = refl
number_at (suc zero) within = refl
number_at (suc (suc zero)) within = refl
number_at (suc (suc (suc zero))) within = refl
number_at (suc (suc (suc (suc zero)))) within = refl
number_at (suc (suc (suc (suc (suc i))))) within = absurd (omega (arith, within))

pub five_rises : Rises five
five_rises i j less within = let one = number_at i (omega (arith, less, within)) in let two = number_at j within in omega (arith, one, two, less)

no_page_0 : (page_size : ℕ) (sheets : List (Bor (List ℕ))) → sheet_view page_size sheets 0 ≡ None
unfolding sheet_view
no_page_0 page_size sheets = refl

pub five_covers : (page_size : ℕ) (sheets : List (Bor (List ℕ))) → length sheets ≡ 5 → (number : ℕ) → is_some (sheet_view page_size sheets number) ≡ true
    → Contains five number
five_covers page_size sheets long zero there = absurd (false≢true (ap is_some (sym (no_page_0 page_size sheets)) ∙ there))
five_covers page_size sheets long (suc zero) there = (0, omega arith, refl)
five_covers page_size sheets long (suc (suc zero)) there = (1, omega arith, refl)
five_covers page_size sheets long (suc (suc (suc zero))) there = (2, omega arith, refl)
five_covers page_size sheets long (suc (suc (suc (suc zero)))) there = (3, omega arith, refl)
five_covers page_size sheets long (suc (suc (suc (suc (suc zero))))) there = (4, omega arith, refl)
five_covers page_size sheets long (suc (suc (suc (suc (suc (suc number)))))) there =
    absurd (false≢true (ap is_some (sym (view_past page_size sheets (suc (suc (suc (suc (suc (suc number)))))) (omega (arith, long)))) ∙ there))

-- where all ranks are listed no other stays
pub none_other : {P : Type 0} (rank : ℕ) → rank < 5 → (Contains ranks rank → ⊥) → P
none_other zero within other = absurd (other (0, omega arith, refl))
none_other (suc zero) within other = absurd (other (1, omega arith, refl))
none_other (suc (suc zero)) within other = absurd (other (2, omega arith, refl))
none_other (suc (suc (suc zero))) within other = absurd (other (3, omega arith, refl))
none_other (suc (suc (suc (suc zero)))) within other = absurd (other (4, omega arith, refl))
none_other (suc (suc (suc (suc (suc rank))))) within other = absurd (omega (arith, within))

-- and they are those of the pages
pub ranks_within : (numbers : List ℕ) → length numbers ≡ 5 → All (λ rank. rank < length numbers) ranks
ranks_within numbers long zero d within = omega (arith, long)
ranks_within numbers long (suc zero) d within = omega (arith, long)
ranks_within numbers long (suc (suc zero)) d within = omega (arith, long)
ranks_within numbers long (suc (suc (suc zero))) d within = omega (arith, long)
ranks_within numbers long (suc (suc (suc (suc zero)))) d within = omega (arith, long)
ranks_within numbers long (suc (suc (suc (suc (suc at))))) d within = absurd (omega (arith, within))
