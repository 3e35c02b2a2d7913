-- The pages of a moment from 1 to its size, as those that are present one by one and the others as stretches between them.
-- A page is present where it has a view, and the lock-byte page is ("The Lock-Byte Page").
use Rattle.std.specs.Prelude.{◌≡◌, ℕ, ◌+◌, ◌-◌, ◌≤◌, ◌==◌, ◌||◌, Bool, true, false, nat_le, if◌then◌else◌, List, [], ◌∷◌, ◌++◌, filter, is_some, Option}
use Rattle.std.specs.List.{range_with_len}
use Rattle.sx_prov.specs.declared.stretch.Stretch.{Stretch}
use Rattle.sx_prov.specs.declared.stretch.Stretch.TheVariants.{Absent, Present}

-- the page is present
abbrev pub is_present : ℕ → (ℕ → Option (List ℕ)) → ℕ → Bool
is_present lock view number = (number == lock) || is_some (view number)

-- the present pages above a number, up to the size, in rising order
unfoldable pub present_above : ℕ → (ℕ → Option (List ℕ)) → ℕ → ℕ → List ℕ
present_above lock view size after = filter (is_present lock view) (range_with_len (after + 1) (size - after))

-- the absent pages from one to another, if there are any
abbrev pub absent_from : ℕ → ℕ → List Stretch
absent_from first last = if nat_le first last then Absent first last ∷ [] else []

-- the pages above a number, up to the size, of which these are present
unfoldable pub stretches_along : ℕ → ℕ → List ℕ → List Stretch
stretches_along after size [] = absent_from (after + 1) size
stretches_along after size (page ∷ pages) = absent_from (after + 1) (page - 1) ++ Present page ∷ stretches_along page size pages

-- the pages above a number, up to the size
abbrev pub stretches_above : ℕ → (ℕ → Option (List ℕ)) → ℕ → ℕ → List Stretch
stretches_above lock view size after = stretches_along after size (present_above lock view size after)

-- all pages up to the size
abbrev pub stretches_of : ℕ → (ℕ → Option (List ℕ)) → ℕ → List Stretch
stretches_of lock view size = stretches_above lock view size 0

-- the last page of a stretch
abbrev pub last_of : Stretch → ℕ
last_of (Absent first last) = last
last_of (Present page) = page

-- stretches don't begin with absent pages
abbrev pub BeginPresent : List Stretch → Type 0
BeginPresent [] = Unit {0}
BeginPresent (Absent first last ∷ stretches) = ⊥
BeginPresent (Present page ∷ stretches) = Unit {0}

-- each page above a number, up to the size, is in exactly one stretch: a stretch begins behind the one before it, and has
-- either one present page, or one or more absent ones with a present page behind them, if any page is
abbrev pub AreStretches : ℕ → (ℕ → Option (List ℕ)) → ℕ → ℕ → List Stretch → Type 0
AreStretches lock view size after [] = size ≤ after
AreStretches lock view size after (Absent first last ∷ stretches) =
    (first ≡ after + 1) × (first ≤ last) × (last ≤ size)
    × ((number : ℕ) → first ≤ number → number ≤ last → is_present lock view number ≡ false)
    × BeginPresent stretches × AreStretches lock view size last stretches
AreStretches lock view size after (Present page ∷ stretches) =
    (page ≡ after + 1) × (page ≤ size) × (is_present lock view page ≡ true) × AreStretches lock view size page stretches
