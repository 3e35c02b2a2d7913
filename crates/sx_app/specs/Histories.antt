-- The lines of `history` over gathered evidence: what each moment holds under the name of a table and a rowid.
use Rattle.std.specs.Prelude.{ℕ, ℤ, List, [], ◌∷◌, Result, Ok, Err}
use Rattle.std.specs.List.{flat_map}
use Rattle.sx_base.specs.declared.moment.Moment.{Moment}
use Rattle.sx_moment.specs.Gathered.{Gathered, moments_of, size_at}
use Rattle.sx_moment.specs.Heads.{head_of, layout_of, encoding_at}
use Rattle.sx_moment.specs.Views.{view_of}
use Rattle.sx_history_text.specs.Histories.{at_moment, lack_word, row_lines}
use Rattle.sx_history_text.specs.declared.lack.Lack.{Lack}
use Rattle.sx_history_text.specs.declared.lack.Lack.TheVariants as lacks
use Rattle.sx_app.specs.Evidence.{◌>>=◌}
use Rattle.sx_app.specs.Tables.{Table, readable, table_named}
use Rattle.sx_app.specs.declared.refused.Refused.{Refused}
use Rattle.sx_app.specs.declared.refused.Refused.TheVariants.{NoTable, NoTree}

-- the table of a name at a moment, where that can be read
unfoldable pub table_there : Gathered → Moment → List ℕ → Result Table Refused
table_there case moment name = readable moment (head_of case moment) >>= λ moment. table_named case moment name

-- what a moment lacks: what else looking for a table may meet is that the moment can't be read
abbrev pub lack_of : Refused → Lack
lack_of NoTable = lacks.NoTable
lack_of NoTree = lacks.NoTree
lack_of refused = lacks.Unreadable

-- the lines of a moment with this table, or without one
abbrev pub history_by : Gathered → Moment → ℤ → Result Table Refused → List (List ℕ)
history_by case moment rowid (Ok table) =
    row_lines moment (size_at case moment) (view_of case moment) (layout_of case moment).usable (encoding_at case moment) table.root table.columns rowid
history_by case moment rowid (Err refused) = at_moment moment (lack_word (lack_of refused)) ∷ []

-- the lines of a moment
unfoldable pub history_at : Gathered → List ℕ → ℤ → Moment → List (List ℕ)
history_at case name rowid moment = history_by case moment rowid (table_there case moment name)

-- the lines of all moments, in order
unfoldable pub histories_of : Gathered → List ℕ → ℤ → List (List ℕ)
histories_of case name rowid = flat_map (history_at case name rowid) (moments_of case)
