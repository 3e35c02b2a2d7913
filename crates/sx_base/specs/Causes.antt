-- Why a call may answer that the outside failed: a count of faults rose in that call.
use Rattle.std.specs.Prelude.{ℕ, ◌+◌, ◌-◌, ◌^◌, ◌≤◌, min, Result, OnErr}

-- the last value of a counter of 64 bits, at which it stands still
abbrev pub last_count : ℕ
last_count = 2 ^ 64 - 1

-- the count rose, or stands at the counter's last value
abbrev pub Rose : ℕ → ℕ → Type 0
Rose before now = min (before + 1) last_count ≤ now

-- the count didn't fall, and where the call failed it rose
pub record HasCause {T E : Type 0} (before now : ℕ) (result : Result T E) : Type 0 where
  pub later : before ≤ now
  pub failed : OnErr result (Rose before now)
