-- Things in a row, of which each may be joined to the next one, and the maximal lists of at least two neighbours that are.
-- Places in the row count from 0.
use Rattle.std.specs.Prelude.{◌≡◌, ℕ, ◌+◌, ◌-◌, ◌<◌, ◌≤◌, Bool, true, false, not, ◌&&◌, nat_lt, List, map}
use Rattle.std.specs.List.{filter, prefix_len, range_with_len}
use Rattle.sx_generations.specs.declared.neighbours.Streak.{Streak}

-- a place is followed: there is a next one, and it is joined to that
abbrev pub is_followed : (ℕ → Bool) → ℕ → ℕ → Bool
is_followed joined count at = nat_lt (at + 1) count && joined at

-- a place follows: there is one before it, and that is joined to it
abbrev pub follows : (ℕ → Bool) → ℕ → Bool
follows joined at = nat_lt 0 at && joined (at - 1)

-- a streak begins at a place that is followed and doesn't follow
abbrev pub begins : (ℕ → Bool) → ℕ → ℕ → Bool
begins joined count at = is_followed joined count at && not (follows joined at)

-- how many places from one on are followed, one after the other
unfoldable pub links_from : (ℕ → Bool) → ℕ → ℕ → ℕ
links_from joined count at = prefix_len (is_followed joined count) (range_with_len at (count - at))

-- the streak that begins at a place
abbrev pub streak_at : (ℕ → Bool) → ℕ → ℕ → Streak
streak_at joined count first = record { first = first; len = links_from joined count first + 1 }

-- the streaks among so many places, in order
unfoldable pub streaks_of : (ℕ → Bool) → ℕ → List Streak
streaks_of joined count = map (streak_at joined count) (filter (begins joined count) (range_with_len 0 count))

-- a maximal list of at least two neighbours: each of its places but the last is joined to the next one, and neither the
-- place before it nor the one behind it goes with it
pub record IsStreak (joined : ℕ → Bool) (count : ℕ) (streak : Streak) : Type 0 where
  pub two : 2 ≤ streak.len
  pub within : streak.first + streak.len ≤ count
  pub each : (at : ℕ) → streak.first ≤ at → at + 1 < streak.first + streak.len → joined at ≡ true
  pub before : 0 < streak.first → joined (streak.first - 1) ≡ false
  pub behind : streak.first + streak.len < count → joined (streak.first + streak.len - 1) ≡ false
