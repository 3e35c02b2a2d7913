-- The newest place of each number of a list, by the number's rank among the distinct ones.
use Rattle.std.specs.Prelude.{◌≡◌, ℕ, ◌-◌, ◌<◌, ◌==◌, if◌then◌else◌, Contains, List, Option, None, Some, length, slice_index}
use Rattle.std.specs.List.Sorted.{IsStrictlyIncreasing}
use Rattle.sx_base.specs.Places.{last_place}
use Rattle.sx_chain.specs.Newest.{has_number}

-- the numbers of a list, in rising order, each once
pub record AreDistinct (numbers distinct : List ℕ) : Type 0 where
  pub rising : IsStrictlyIncreasing distinct
  pub held : (number : ℕ) → Contains numbers number → Contains distinct number

-- the place right below an end, if there is one
abbrev pub place_below : ℕ → Option ℕ
place_below end = if end == 0 then None else Some (end - 1)

-- at the rank of each number stands the end of the list's front that its newest place closes
pub record AreHeads (numbers distinct ends : List ℕ) : Type 0 where
  pub long : length ends ≡ length distinct
  pub newest : (rank : ℕ) → rank < length distinct
      → place_below (slice_index ends rank) ≡ last_place (has_number numbers (slice_index distinct rank)) (length numbers)
