-- What a sweep keeps from moment to moment.
use Rattle.std.specs.Prelude.{ℕ, ◌≡◌, ◌≢◌, ◌+◌, ◌-◌, ◌<◌, ◌≤◌, ◌⊎◌, List, length, slice_get, slice_index, Option, Some}
use Rattle.sx_base.specs.declared.moment.Moment.{Moment}
use Rattle.sx_moment.specs.Gathered.{Gathered, moments_of}
use Rattle.sx_moment.specs.Views.{origin_of}
use Rattle.sx_moment.specs.Ranks.{AreRanked}
use Rattle.sx_moment.specs.Sweep.{moment_at}
use Rattle.sx_moment.specs.Turning.{base_of, AreOrigins}
use Rattle.sx_moment.specs.declared.origin.Origin.{Origin}

-- the last turn of a page among the moments up to a place: a turn is one past the place of the moment. It is 1, or the page
-- comes at its moment from elsewhere than at the one before; and since then it comes from where it comes now.
pub record IsTurn (case : Gathered) (number place turn : ℕ) : Type 0 where
  pub first : 1 ≤ turn
  pub within : turn ≤ place + 1
  pub turned : (turn ≡ 1) ⊎ (origin_of case (moment_at case (turn - 1)) number ≢ origin_of case (moment_at case (turn - 1 - 1)) number)
  pub kept : (at : ℕ) → turn ≤ at + 1 → at ≤ place → origin_of case (moment_at case at) number ≡ origin_of case (moment_at case place) number

-- what a sweep keeps at a moment
pub record IsSwept (case : Gathered) (place : ℕ) (moment : Moment) (numbers : List ℕ) (origins : List (Option Origin)) (settled : ℕ) (turns : List ℕ) : Type 0 where
  pub there : slice_get (moments_of case) place ≡ Some moment
  pub ranked : AreRanked case numbers
  pub origins_are : AreOrigins (base_of case moment) numbers origins
  pub long : length turns ≡ length numbers
  pub turns_are : (rank : ℕ) → rank < length numbers → IsTurn case (slice_index numbers rank) place (slice_index turns rank)
  pub settled_within : settled ≤ place + 1
