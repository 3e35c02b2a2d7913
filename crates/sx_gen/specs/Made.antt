-- The two files of a drill, by its seed, its count of leaves and its count of commits.
use Rattle.std.specs.Prelude.{ℕ, ◌*◌, List}
use Rattle.sx_gen.specs.Draws.{letters_of_row, state_after, letters, taken_leaves}
use Rattle.sx_gen.specs.Pages.{rows_of_leaf, database_bytes}
use Rattle.sx_gen.specs.Log.{log_bytes}

-- the letters of all rows
abbrev pub drilled_letters : ℕ → ℕ → List ℕ
drilled_letters seed leaves = letters seed (rows_of_leaf * leaves)

-- the leaves that the commits take: their draws go on where those of the letters end
abbrev pub drilled_leaves : ℕ → ℕ → ℕ → List ℕ
drilled_leaves seed leaves commits =
    taken_leaves (state_after seed (letters_of_row * (rows_of_leaf * leaves))) leaves commits

-- the database
abbrev pub drilled_database : ℕ → ℕ → List ℕ
drilled_database seed leaves = database_bytes (drilled_letters seed leaves) leaves

-- the write-ahead log beside it
abbrev pub drilled_log : ℕ → ℕ → ℕ → List ℕ
drilled_log seed leaves commits = log_bytes seed (drilled_letters seed leaves) leaves (drilled_leaves seed leaves commits)
