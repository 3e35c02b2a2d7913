-- How far the writing of `explain` has come: the lines to come.
use Rattle.std.specs.Prelude.{ℕ, List, [], ◌∷◌}
use Rattle.sx_images.specs.Images.{images_of}
use Rattle.sx_explain_text.specs.Explain.{byte_line, place_line, moment_lines}
use Rattle.sx_explain_text.specs.declared.explain.ExplainLines.{ExplainLines}
use Rattle.sx_explain_text.specs.declared.explain.ExplainLine.{ExplainLine}
use Rattle.sx_explain_text.specs.declared.explain.ExplainLine.TheVariants as lines

-- the lines from one on
abbrev pub lines_from : ExplainLine → ExplainLines → List (List ℕ)
lines_from lines.Byte one =
    byte_line one.place ∷ place_line (images_of one.images.now) one.physical ∷ moment_lines one.physical one.moment one.label
lines_from lines.Thing one = place_line (images_of one.images.now) one.physical ∷ moment_lines one.physical one.moment one.label
lines_from lines.Moment one = moment_lines one.physical one.moment one.label
lines_from lines.End one = []

-- the lines to come
abbrev pub explain_rest : ExplainLines → List (List ℕ)
explain_rest one = lines_from one.next one
