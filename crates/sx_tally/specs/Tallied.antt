-- Counts behind the sums of pairs. Item i below the number of counts is the sum of the items 2 * i and 2 * i + 1.
use Rattle.std.specs.Prelude.{◌≡◌, ℕ, ◌+◌, ◌*◌, ◌^◌, ◌<◌, ◌≤◌, ◌==◌, if◌then◌else◌, nat_le, List, length, drop, sum, slice_index}

-- each item before the counts is the sum of a pair, and no item is above the sum of all counts
pub record IsTallied (len : ℕ) (items : List ℕ) : Type 0 where
  pub long : length items ≡ 2 * len
  pub pairs : (i : ℕ) → 1 ≤ i → i < len → slice_index items i ≡ slice_index items (2 * i) + slice_index items (2 * i + 1)
  pub bounded : (i : ℕ) → 1 ≤ i → i < 2 * len → slice_index items i ≤ sum (drop len items)
  pub fits : sum (drop len items) < 2 ^ 32

-- the same while the sums from item `node` upwards are one too small: that item's own, and those that it is part of
pub record IsRaising (len node : ℕ) (items : List ℕ) : Type 0 where
  pub long : length items ≡ 2 * len
  pub below : node < len
  pub pairs : (i : ℕ) → 1 ≤ i → i < len
      → slice_index items i + (if i == node then 1 else 0) ≡ slice_index items (2 * i) + slice_index items (2 * i + 1)
  pub bounded : (i : ℕ) → 1 ≤ i → i < 2 * len → slice_index items i + (if nat_le i node then 1 else 0) ≤ sum (drop len items)
  pub fits : sum (drop len items) < 2 ^ 32
