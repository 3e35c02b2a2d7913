-- Pages by rank: all that some moment of a case may hold, in rising order.
use Rattle.std.specs.Prelude.{ℕ, ◌≡◌, ◌^◌, ◌<◌, Bool, false, ◌||◌, List, length, is_some}
use Rattle.std.specs.List.Sorted.{IsStrictlyIncreasing}
use Rattle.sx_moment.specs.Gathered.{Gathered, page_count}
use Rattle.sx_moment.specs.Views.{lock_in}
use Rattle.sx_moment.specs.Images.{is_in_file, past_only, first_slot, first_record}
use Rattle.sx_moment.specs.Turns.{is_among}

-- numbers that rise from 1 on
pub record RiseFromOne (numbers : List ℕ) : Type 0 where
  pub rising : IsStrictlyIncreasing numbers
  pub none : is_among numbers 0 ≡ false

-- numbers that rise, no more of them than 32 bits can count
pub record AreRanks (numbers : List ℕ) : Type 0 where
  pub rising : IsStrictlyIncreasing numbers
  pub few : length numbers < 2 ^ 32

-- a page that some moment may hold: a whole page of the file, or one past its end that a slot or a Good record holds; the
-- lock-byte page is none
abbrev pub is_ranked : Gathered → ℕ → Bool
is_ranked case number =
    is_in_file (lock_in case) (page_count case) number || is_some (past_only case (first_slot case) number) || is_some (past_only case (first_record case) number)

-- all these pages, in rising order
pub record AreRanked (case : Gathered) (numbers : List ℕ) : Type 0 where
  pub rising : IsStrictlyIncreasing numbers
  pub are : (number : ℕ) → is_among numbers number ≡ is_ranked case number
