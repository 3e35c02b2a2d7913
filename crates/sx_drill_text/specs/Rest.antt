-- How far the writing of `drill` has come: the lines to come.
use Rattle.std.specs.Prelude.{ℕ, List, [], ◌∷◌}
use Rattle.sx_drill_text.specs.Drill.{drill_lines, files_line, found_line}
use Rattle.sx_drill_text.specs.declared.drill_lines.DrillCounts.{DrillCounts}
use Rattle.sx_drill_text.specs.declared.drill_lines.DrillLine.{DrillLine}
use Rattle.sx_drill_text.specs.declared.drill_lines.DrillLine.TheVariants as lines
use Rattle.sx_drill_text.specs.declared.drill_lines.DrillLines.{DrillLines}

abbrev pub drill_from : DrillLine → ℕ → ℕ → ℕ → DrillCounts → List (List ℕ)
drill_from lines.Asked seed leaves commits counts = drill_lines seed leaves commits counts
drill_from lines.Files seed leaves commits counts = files_line counts ∷ found_line counts ∷ []
drill_from lines.Found seed leaves commits counts = found_line counts ∷ []
drill_from lines.End seed leaves commits counts = []

abbrev pub drill_rest : DrillLines → List (List ℕ)
drill_rest rest = drill_from rest.next rest.seed rest.leaves rest.commits rest.counts
