-- The references to pages without a view, counted anew.
use Rattle.std.specs.Prelude.{◌≡◌, ℕ, ◌<◌, ◌⊎◌, Bool, List, length, slice_index}
use Rattle.sx_follow.specs.Sums.{Sums}
use Rattle.sx_walk.specs.Renewing.{unsaid_count}

-- from one list of counts by rank to the next the pages that are told have the count that the sums say, and so have those
-- that had it before
pub record Recounts (shown : ℕ → Bool) (told : ℕ → Type 0) (sums : Sums) (numbers before now : List ℕ) : Type 0 where
  pub long : length now ≡ length before
  pub agrees : (rank : ℕ) → rank < length numbers → told (slice_index numbers rank) ⊎ (slice_index before rank ≡ unsaid_count shown sums (slice_index numbers rank))
      → slice_index now rank ≡ unsaid_count shown sums (slice_index numbers rank)
