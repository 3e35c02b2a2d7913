-- How far the writing of a moment's rows has come.
use Rattle.std.specs.Prelude.{ℕ, ◌+◌, ◌≤◌, Bool, true, false, List, [], ◌∷◌, ◌++◌, map, count_by, Option}
use Rattle.sx_base.specs.declared.moment.Moment.{Moment}
use Rattle.sx_row.specs.declared.lengths.ChainLengths.{ChainLengths}
use Rattle.sx_row.specs.Lengths.{AreLengths}
use Rattle.sx_show_text.specs.Items.{Printed}
use Rattle.sx_show_text.specs.Show.{last_line}
use Rattle.sx_history_text.specs.Histories.{at_moment}

-- the lines of what is still to be printed, where so many rows were shown before
abbrev pub rows_from : Moment → ℕ → ℕ → List Printed → List (List ℕ)
rows_from moment rows faults printed =
    map (λ one. at_moment moment one.line) printed
    ++ at_moment moment (last_line (rows + count_by (λ one. one.is_row) printed) faults) ∷ []

-- the lines to come: none where the last was written
abbrev pub lines_from : Bool → Moment → ℕ → ℕ → List Printed → List (List ℕ)
lines_from true moment rows faults printed = []
lines_from false moment rows faults printed = rows_from moment rows faults printed

-- what a text in hand keeps: the lengths are those of its pages, and no more rows were shown than were gone over
pub record IsListing (size : ℕ) (view : ℕ → Option (List ℕ)) (page_size usable : ℕ) (known : ChainLengths) (rows place : ℕ) : Type 0 where
  pub least : 480 ≤ usable
  pub within : usable ≤ page_size
  pub small : page_size ≤ 65536
  pub lengths : AreLengths size view known
  pub few : rows ≤ place
