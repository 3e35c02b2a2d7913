-- How many of the pages of a list each commit sees.
use Rattle.std.specs.Prelude.{◌≡◌, ℕ, ◌-◌, ◌≤◌, Bool, true, false, List, length, map, slice_get, slice_index, Some}
use Rattle.sx_base.specs.declared.moment.Moment.TheVariants.{Commit}
use Rattle.sx_moment.specs.Gathered.{Gathered, size_at, limit_at}
use Rattle.sx_moment.specs.Firsts.{below, taken}
use Rattle.sx_moment.specs.Images.{first_slot}
use Rattle.sx_moment.specs.declared.first_image.FirstImage.{FirstImage}

-- 1 for what holds
abbrev pub flag : Bool → ℕ
flag true = 1
flag false = 0

-- the pages of the list whose first image stands below a bound, each flagged at its place
abbrev pub seen_below : ℕ → List FirstImage → List ℕ
seen_below bound images = map (λ image. flag (below bound image)) images

-- each page stands with its first slot
abbrev pub AreFirst : Gathered → List FirstImage → Type 0
AreFirst case images = (place : ℕ) (image : FirstImage) → slice_get images place ≡ Some image → first_slot case image.page ≡ Some image.first

-- for each commit, how many pages of the list lie within its size and have their first slot up to the commit's
pub record AreCounts (case : Gathered) (images : List FirstImage) (counts : List ℕ) : Type 0 where
  pub long : length counts ≡ length case.wal.commits
  pub each : (k : ℕ) → 1 ≤ k → k ≤ length case.wal.commits
      → slice_index counts (k - 1) ≡ length (taken (below (limit_at case (Commit k))) (size_at case (Commit k)) images)
