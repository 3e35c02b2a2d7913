-- What `drill` prints: what it was asked for, the lengths of the two files that were made, and what was found in them.
use Rattle.std.specs.Prelude.{ℕ, List, [], ◌∷◌, ◌++◌, codes}
use Rattle.std.specs.Fmt.{decimal}
use Rattle.sx_drill_text.specs.declared.drill_lines.DrillCounts.{DrillCounts}

-- what it was asked for
unfoldable pub asked_line : ℕ → ℕ → ℕ → List ℕ
asked_line seed leaves commits = codes "drill seed " ++ decimal seed ++ codes " leaves " ++ decimal leaves ++ codes " commits " ++ decimal commits

-- the lengths of the files, in bytes
unfoldable pub files_line : DrillCounts → List ℕ
files_line counts = codes "database " ++ decimal counts.database ++ codes " wal " ++ decimal counts.wal

-- what was found: the commits of the log, the rows of the table at the last of them, and candidates under all moments
unfoldable pub found_line : DrillCounts → List ℕ
found_line counts = codes "commits " ++ decimal counts.commits ++ codes " rows " ++ decimal counts.rows ++ codes " candidates " ++ decimal counts.candidates

-- all lines
abbrev pub drill_lines : ℕ → ℕ → ℕ → DrillCounts → List (List ℕ)
drill_lines seed leaves commits counts = asked_line seed leaves commits ∷ files_line counts ∷ found_line counts ∷ []
