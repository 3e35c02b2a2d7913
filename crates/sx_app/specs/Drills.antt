-- What `drill` answers: evidence is made from a seed, and read as any other is.
use Rattle.std.specs.Prelude.{ℕ, Bool, true, false, List, length, count_by, codes, Option, None, Some, Result, Ok, Err}
use Rattle.std.specs.List.{last_or}
use Rattle.sx_base.specs.declared.moment.Moment.{Moment}
use Rattle.sx_base.specs.declared.moment.Moment.TheVariants.{File}
use Rattle.sx_gen.specs.Made.{drilled_database, drilled_log}
use Rattle.sx_header.specs.Header.{header_of}
use Rattle.sx_moment.specs.Gathered.{Gathered, bytes_in, moments_of, size_at}
use Rattle.sx_moment.specs.Heads.{layout_of}
use Rattle.sx_moment.specs.Views.{view_of}
use Rattle.sx_tree.specs.Rows.{rows_of}
use Rattle.sx_tree.specs.Trees.{tree_in}
use Rattle.sx_tree.specs.declared.item.RowItem.{RowItem}
use Rattle.sx_tree.specs.declared.item.RowItem.TheVariants.{Row}
use Rattle.sx_drill_text.specs.Drill.{drill_lines}
use Rattle.sx_drill_text.specs.declared.drill_lines.DrillCounts.{DrillCounts}
use Rattle.sx_app.specs.Carving.{candidates_under}
use Rattle.sx_app.specs.Evidence.{◌>>=◌, Opened, Evidence, headed, case_of}
use Rattle.sx_app.specs.Histories.{table_there}
use Rattle.sx_app.specs.Tables.{Table}
use Rattle.sx_app.specs.declared.refused.Refused.{Refused}

-- the evidence of a drill: the database that is made, with its header, the log that is made, and no journal
abbrev pub with_log : List ℕ → Opened → Evidence
with_log log database = record { database = database; wal = Some log; journal = None }

unfoldable pub drilled : ℕ → ℕ → ℕ → Result Evidence Refused
drilled seed leaves commits =
    let database = drilled_database seed leaves in
    headed database (header_of database) >>= λ opened. Ok (with_log (drilled_log seed leaves commits) opened)

-- the last moment: there is always that of the file
abbrev pub or_file : Option Moment → Moment
or_file None = File
or_file (Some moment) = moment

abbrev pub last_moment : Gathered → Moment
last_moment case = or_file (last_or None (moments_of case))

-- a row, and no fault in its place
abbrev pub is_row : RowItem → Bool
is_row (Row page cell) = true
is_row fault = false

-- how many rows a table has at a moment, none where there is no table
abbrev pub row_count : Gathered → Moment → Result Table Refused → ℕ
row_count case moment (Ok table) = count_by is_row (rows_of (tree_in (size_at case moment) (view_of case moment) (layout_of case moment).usable table.root))
row_count case moment (Err refused) = 0

-- how many rows the table of a name has at the last moment
unfoldable pub rows_named : Gathered → List ℕ → ℕ
rows_named case name = row_count case (last_moment case) (table_there case (last_moment case) name)

-- how many candidates there are under all moments
unfoldable pub candidate_count : Gathered → ℕ
candidate_count case = length (candidates_under case (moments_of case) (last_moment case))

-- what is found in gathered evidence, with a table of this name
abbrev pub found_in : Gathered → List ℕ → DrillCounts
found_in case name = record {
  database = length case.database;
  wal = length (bytes_in case.wal_bytes);
  commits = length case.wal.commits;
  rows = rows_named case name;
  candidates = candidate_count case;
}

-- the lines of a drill
abbrev pub lines_over : ℕ → ℕ → ℕ → Gathered → List (List ℕ)
lines_over seed leaves commits case = drill_lines seed leaves commits (found_in case (codes "t"))

unfoldable pub drill_of : ℕ → ℕ → ℕ → Result (List (List ℕ)) Refused
drill_of seed leaves commits = drilled seed leaves commits >>= λ evidence. Ok (lines_over seed leaves commits (case_of evidence))
