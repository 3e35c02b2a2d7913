-- The lines of a moment that are still to come.
use Rattle.std.specs.Prelude.{ℕ, List, [], ◌∷◌}
use Rattle.sx_history_text.specs.Histories.{at_moment, lack_word}
use Rattle.sx_history_text.specs.declared.moment_lines.MomentLines.{MomentLines}
use Rattle.sx_history_text.specs.declared.moment_lines.MomentLines.TheVariants.{Lacking, Rows, End}

abbrev pub moment_rest : MomentLines → List (List ℕ)
moment_rest (Lacking moment lack) = at_moment moment (lack_word lack) ∷ []
moment_rest (Rows rows) = rows
moment_rest End = []
