-- The references of one moment after the other, over one list of page numbers.
use Rattle.std.specs.Prelude.{◌≡◌, ℕ, ◌<◌, List, length, map, slice_index, slice_index_or, slice_set, Option, Some, None, ⊤}
use Rattle.std.specs.List.{Contains}
use Rattle.sx_closure.specs.Graph.{Graph}
use Rattle.sx_closure.specs.Tallying.{Table, count_at, one_at, left_at, IsTableOf}

-- the numbers of the pages that any of the moments may hold, the view of each at the moment, what refers to each; and the
-- ranks of those of which the table may say something else than at the moment before, or none where that isn't known.
-- The rank of a page is its place in the list of numbers
pub record Walk : Type 0 where
  pub numbers : List ℕ
  pub views : List (Option (List ℕ))
  pub table : Table
  pub touched : Option (List ℕ)

-- a page whose rank isn't listed has the view that a list has of it
abbrev pub RanksStand : List ℕ → List ℕ → List (Option (List ℕ)) → (ℕ → Option (List ℕ)) → Type 0
RanksStand changed numbers views view = (rank : ℕ) → rank < length numbers → (Contains changed rank → ⊥)
    → slice_index_or views rank None ≡ view (slice_index numbers rank)

-- a page whose rank isn't listed has the view that is kept of it
abbrev pub StandBut : List ℕ → Walk → (ℕ → Option (List ℕ)) → Type 0
StandBut changed walk view = (rank : ℕ) → rank < length walk.numbers → (Contains changed rank → ⊥)
    → slice_index_or walk.views rank None ≡ view (slice_index walk.numbers rank)

-- two tables say the same of a page
pub record SaySame (before now : Table) (page : ℕ) : Type 0 where
  pub count : count_at now page ≡ count_at before page
  pub one : one_at now page ≡ one_at before page
  pub left : left_at now page ≡ left_at before page

-- of a page whose rank isn't listed they say the same; without a list nothing is said
abbrev pub SayOther : List ℕ → Table → Table → Option (List ℕ) → Type 0
SayOther numbers before now None = ⊤
SayOther numbers before now (Some touched) = (rank : ℕ) → rank < length numbers → (Contains touched rank → ⊥) → SaySame before now (slice_index numbers rank)

-- the walk stands at the moment with these views and this graph
pub record StandsAt (view : ℕ → Option (List ℕ)) (graph : Graph) (body : ℕ) (walk : Walk) : Type 0 where
  pub views : walk.views ≡ map view walk.numbers
  pub table : IsTableOf graph body walk.table

-- the views, with that of one rank taken anew
abbrev pub looked : (ℕ → Option (List ℕ)) → List ℕ → List (Option (List ℕ)) → ℕ → List (Option (List ℕ))
looked view numbers views rank = slice_set views rank (view (slice_index numbers rank))
