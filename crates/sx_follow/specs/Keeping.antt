-- Of which pages the sums stay as they are.
use Rattle.std.specs.Prelude.{◌≡◌, ℕ, ◌==◌, Bool, false, List}
use Rattle.std.specs.List.{list_any}
use Rattle.sx_closure.specs.declared.pair.Pair.{Pair}
use Rattle.sx_follow.specs.Sums.{Sums}
use Rattle.sx_follow.specs.Following.{sum_of}

-- one of the pairs is the page in a role
abbrev pub has_page : List Pair → ℕ → Bool
has_page pairs page = list_any (λ pair. pair.page == page) pairs

-- the sums of a page that none of the pairs is are those of before
abbrev pub AreKeptBut : List Pair → List Pair → Sums → Sums → Type 0
AreKeptBut named lost before now = (page : ℕ) → has_page named page ≡ false → has_page lost page ≡ false → sum_of now page ≡ sum_of before page

-- from one list of pairs and sums to the next the list grows, and the sums of a page that none of its pairs is stay
abbrev pub Keeps : List Pair → Sums → List Pair → Sums → Type 0
Keeps some before more now = (page : ℕ) → has_page more page ≡ false → (has_page some page ≡ false) × (sum_of now page ≡ sum_of before page)
