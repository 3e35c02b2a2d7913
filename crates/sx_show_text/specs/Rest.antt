-- How far the writing of `show` has come.
use Rattle.std.specs.Prelude.{ℕ, ◌+◌, ◌^◌, ◌<◌, ◌≤◌, List, [], ◌∷◌, ◌++◌, map, count_by, Option}
use Rattle.sx_show_text.specs.Columns.{Columns}
use Rattle.sx_show_text.specs.Columns.{columns_line}
use Rattle.sx_show_text.specs.Items.{Printed}
use Rattle.sx_show_text.specs.Show.{last_line, is_fault}
use Rattle.sx_row.specs.declared.lengths.ChainLengths.{ChainLengths}
use Rattle.sx_row.specs.Lengths.{AreLengths}
use Rattle.sx_show_text.specs.declared.show_line.Counts.{Counts}
use Rattle.sx_show_text.specs.declared.show_line.ShowLine.{ShowLine}
use Rattle.sx_show_text.specs.declared.show_line.ShowLine.TheVariants as lines

-- the lines of what is still to be printed, where so many rows and faults came before
abbrev pub printed_from : ℕ → ℕ → List Printed → List (List ℕ)
printed_from rows faults printed =
    map (λ one. one.line) printed ++ last_line (rows + count_by (λ one. one.is_row) printed) (faults + count_by is_fault printed) ∷ []

-- the lines from one on
abbrev pub lines_from : ShowLine → Option Columns → ℕ → ℕ → List Printed → List (List ℕ)
lines_from lines.Columns shape rows faults printed = columns_line shape ∷ printed_from rows faults printed
lines_from lines.Items shape rows faults printed = printed_from rows faults printed
lines_from lines.End shape rows faults printed = []

-- what a text in hand keeps: the lengths are those of its pages, and fewer than 2^64 items were printed or are to come
pub record IsShowing (size : ℕ) (view : ℕ → Option (List ℕ)) (page_size usable : ℕ) (known : ChainLengths) (counts : Counts) (left : ℕ) : Type 0 where
  pub least : 480 ≤ usable
  pub within : usable ≤ page_size
  pub small : page_size ≤ 65536
  pub lengths : AreLengths size view known
  pub few : counts.rows + counts.faults + left < 2 ^ 64
