-- How far the writing of `generations` has come.
use Rattle.std.specs.Prelude.{◌≡◌, ℕ, ◌+◌, ◌<◌, List, [], ◌∷◌, ◌++◌, map, drop, length, Option, None, Some}
use Rattle.sx_wal.specs.declared.slot.Slot.{Slot}
use Rattle.sx_generations.specs.declared.runs.Run.{Run}
use Rattle.sx_generations.specs.declared.groups.Group.{Group}
use Rattle.sx_lines.specs.Lines.{ended}
use Rattle.sx_generations.specs.Listing.{commits_at}
use Rattle.sx_generations_text.specs.Generations.{commit_line, older_run_lines, groups_line, group_lines, generations_lines}
use Rattle.sx_generations_text.specs.declared.generations_line.GenerationsLine.{GenerationsLine}
use Rattle.sx_generations_text.specs.declared.generations_line.GenerationsLine.TheVariants as lines

-- the lines of the runs behind the first i, and those of the groups
abbrev pub lines_behind : List Slot → List (Run × List ℕ) → List Group → ℕ → List (List ℕ)
lines_behind slots runs groups i = older_run_lines slots i (drop i runs) ++ groups_line groups ∷ group_lines 0 groups

-- the lines from one on
abbrev pub lines_from : GenerationsLine → List Slot → List (Run × List ℕ) → List Group → List (List ℕ)
lines_from lines.Runs slots runs groups = generations_lines slots runs groups
lines_from (lines.Run i) slots runs groups = lines_behind slots runs groups i
lines_from (lines.Commit i k) slots runs groups = map (commit_line slots) (drop k (commits_at runs i)) ++ lines_behind slots runs groups (i + 1)
lines_from (lines.Group i) slots runs groups = group_lines i (drop i groups)

-- a line can come next: where it is that of a commit, the run is there
abbrev pub IsPlace : GenerationsLine → List (Run × List ℕ) → Type 0
IsPlace lines.Runs runs = Unit {0}
IsPlace (lines.Run i) runs = Unit {0}
IsPlace (lines.Commit i k) runs = i < length runs
IsPlace (lines.Group i) runs = Unit {0}

-- of the lines from one on the first is this with its end, and the others come from the next one on
pub record IsStep (slots : List Slot) (runs : List (Run × List ℕ)) (groups : List Group) (at next : GenerationsLine) (line : List ℕ) : Type 0 where
  pub place : IsPlace next runs
  pub first : List ℕ
  pub text : line ≡ ended first
  pub rest : lines_from at slots runs groups ≡ first ∷ lines_from next slots runs groups

-- there is such a next one, or no line is left
abbrev pub IsWritten : List Slot → List (Run × List ℕ) → List Group → GenerationsLine → Option GenerationsLine → List ℕ → Type 0
IsWritten slots runs groups at None line = lines_from at slots runs groups ≡ []
IsWritten slots runs groups at (Some next) line = IsStep slots runs groups at next line
