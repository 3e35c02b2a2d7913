-- The maximal runs of bytes of a page of which the same is claimed. Bytes count from 0.
use Rattle.std.specs.Prelude.{◌≡◌, ◌≢◌, ℕ, ◌+◌, ◌-◌, ◌<◌, ◌≤◌, List, [], ◌∷◌, length, All, slice_index_or}
use Rattle.sx_base.specs.declared.evidence.Span.{Span}
use Rattle.sx_seglist.specs.declared.claimed.Claimed.{Claimed}
use Rattle.sx_seglist.specs.declared.claimed.Claimed.TheVariants.{None}

-- what is claimed of a byte
abbrev pub state_at : List Claimed → ℕ → Claimed
state_at states at = slice_index_or states at None

-- a run has a byte, the same is claimed of each of its bytes, and something else of the bytes before and behind it
pub record IsMaximal (states : List Claimed) (run : Span × Claimed) : Type 0 where
  pub some : 0 < run.0.len
  pub within : run.0.start + run.0.len ≤ length states
  pub each : (at : ℕ) → run.0.start ≤ at → at < run.0.start + run.0.len → state_at states at ≡ run.1
  pub before : 0 < run.0.start → state_at states (run.0.start - 1) ≢ run.1
  pub behind : run.0.start + run.0.len < length states → state_at states (run.0.start + run.0.len) ≢ run.1

-- the runs cover the bytes from a place up to an end: each begins where the one before it ends
abbrev pub Cover : ℕ → ℕ → List (Span × Claimed) → Type 0
Cover from end [] = from ≡ end
Cover from end (run ∷ runs) = (run.0.start ≡ from) × Cover (run.0.start + run.0.len) end runs

-- they are the maximal runs of all bytes, in order
pub record AreRuns (states : List Claimed) (runs : List (Span × Claimed)) : Type 0 where
  pub maximal : All (IsMaximal states) runs
  pub all : Cover 0 (length states) runs
