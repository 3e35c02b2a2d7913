-- The turns at which ranks changed last, and the ranks that changed past a turn. Turns count from 1.
use Rattle.std.specs.Prelude.{ℕ, ◌≡◌, ◌<◌, Bool, nat_lt, nat_eq, if◌then◌else◌, List, length, slice_index}
use Rattle.std.specs.List.{IsDistinct, count_by}
use Rattle.sx_moment.specs.Turns.{is_among}

-- for each rank its last turn; the turn up to which all is settled; the ranks that changed past it
pub record Changing : Type 0 where
  pub turns : List ℕ
  pub settled : ℕ
  pub listed : List ℕ

-- the ranks whose last turn isn't settled, each once
pub record AreListed (settled : ℕ) (turns listed : List ℕ) : Type 0 where
  pub are : (rank : ℕ) → is_among listed rank ≡ nat_lt settled (slice_index turns rank)
  pub once : IsDistinct nat_eq listed
  pub few : length listed ≡ count_by (nat_lt settled) turns

-- the ranks that pass a test changed at a turn, and no others
pub record AreMarked (test : ℕ → Bool) (turn : ℕ) (before now : List ℕ) : Type 0 where
  pub long : length now ≡ length before
  pub each : (rank : ℕ) → rank < length before → slice_index now rank ≡ (if test rank then turn else slice_index before rank)
