-- How the runs of a log are kept: their commits stand in one list, those of one run behind those of the runs before it.
use Rattle.std.specs.Prelude.{ℕ, ◌+◌, ◌<◌, ◌≤◌, ◌^◌, List, [], length, take, drop, slice_get, All, Option, Some, None}
use Rattle.sx_generations.specs.declared.runs.Run.{Run}
use Rattle.sx_generations.specs.declared.runs.Listed.{Listed}

-- a run, and its commits out of the list of all
abbrev pub shown : List ℕ → Listed → Run × List ℕ
shown commits listed = (listed.run, take listed.run.commits (drop listed.before commits))

-- the commits of a run are in the list
abbrev pub IsHeld : List ℕ → Listed → Type 0
IsHeld commits listed = listed.before + listed.run.commits ≤ length commits

-- so are those of all runs
pub record AreListed (runs : List Listed) (commits : List ℕ) : Type 0 where
  pub few : length runs < 2 ^ 32
  pub held : All (IsHeld commits) runs

-- the commits of a run that may be there
abbrev pub commits_there : Option (Run × List ℕ) → List ℕ
commits_there None = []
commits_there (Some run) = run.1

-- the commits of run i
abbrev pub commits_at : List (Run × List ℕ) → ℕ → List ℕ
commits_at runs i = commits_there (slice_get runs i)
