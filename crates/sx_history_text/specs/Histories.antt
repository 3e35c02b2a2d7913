-- What `history` prints of a moment: each row that has the rowid, and how many rows and faults there are; or why there are no
-- rows.
use Rattle.std.specs.Prelude.{ℕ, ℤ, List, [], ◌∷◌, ◌++◌, map, count_by, codes, Option}
use Rattle.sx_base.specs.declared.moment.Moment.{Moment}
use Rattle.sx_bytes.specs.declared.encoding.Encoding.{Encoding}
use Rattle.sx_tree.specs.declared.item.RowItem.TheVariants.{Row}
use Rattle.sx_history.specs.History.{faults_of, found_of}
use Rattle.sx_history.specs.declared.found.Found.{Found}
use Rattle.sx_lines.specs.Names.{moment_word}
use Rattle.sx_show_text.specs.Columns.{Columns}
use Rattle.sx_show_text.specs.Items.{Printed, item_printed}
use Rattle.sx_show_text.specs.Show.{last_line}
use Rattle.sx_history_text.specs.declared.lack.Lack.{Lack}
use Rattle.sx_history_text.specs.declared.lack.Lack.TheVariants.{Unreadable, NoTable, NoTree}

-- a line of a moment: its word stands in front
abbrev pub at_moment : Moment → List ℕ → List ℕ
at_moment moment line = moment_word moment ++ 32 ∷ line

-- why there are no rows
abbrev pub lack_word : Lack → List ℕ
lack_word Unreadable = codes "unreadable"
lack_word NoTable = codes "no table"
lack_word NoTree = codes "no tree"

-- what is printed of a row that was found: what `show` prints of it
abbrev pub found_printed : ℕ → (ℕ → Option (List ℕ)) → ℕ → Encoding → Option Columns → Found → Printed
found_printed size view usable encoding shape found = item_printed size view usable encoding shape (Row found.page found.cell)

-- the lines of what is printed of rows; the last tells how many of these are shown, and how many faults there are
abbrev pub rows_lines : Moment → ℕ → List Printed → List (List ℕ)
rows_lines moment faults printed =
    map (λ one. at_moment moment one.line) printed ++ at_moment moment (last_line (count_by (λ one. one.is_row) printed) faults) ∷ []

-- the lines of a moment at which the table has the tree of a root
abbrev pub row_lines : Moment → ℕ → (ℕ → Option (List ℕ)) → ℕ → Encoding → ℕ → Option Columns → ℤ → List (List ℕ)
row_lines moment size view usable encoding root shape rowid =
    rows_lines moment (faults_of size view usable root) (map (found_printed size view usable encoding shape) (found_of size view usable root rowid))
