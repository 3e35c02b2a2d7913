-- How far the writing of `carve` with completed candidates has come.
use Rattle.std.specs.Prelude.{ℕ, ◌+◌, ◌≤◌, List, [], ◌∷◌, ◌++◌, length, map, Option}
use Rattle.sx_bytes.specs.declared.encoding.Encoding.{Encoding}
use Rattle.sx_images.specs.declared.image.Image.{Image}
use Rattle.sx_grammar.specs.Sightings.{Sighting}
use Rattle.sx_carve.specs.Candidates.{Carved}
use Rattle.sx_carve_text.specs.Rest.{IsCarving}
use Rattle.sx_carve_text.specs.Spilled.{spilled_line, completed_count, completed_line}
use Rattle.sx_carve_text.specs.declared.carve.CarveLine.{CarveLine}
use Rattle.sx_carve_text.specs.declared.carve.CarveLine.TheVariants as lines

-- the lines of candidates, where so many came before, and so many completed ones
abbrev pub spilled_from : Encoding → List Image → (Sighting → Option (List ℕ)) → ℕ → ℕ → List Carved → List (List ℕ)
spilled_from encoding images complete count completed candidates =
    map (spilled_line encoding images complete) candidates
    ++ completed_line (count + length candidates) (completed + completed_count complete candidates) ∷ []

-- the lines from one on
abbrev pub spilled_rest : CarveLine → Encoding → List Image → (Sighting → Option (List ℕ)) → ℕ → ℕ → List Carved → List (List ℕ)
spilled_rest lines.Candidate encoding images complete count completed candidates = spilled_from encoding images complete count completed candidates
spilled_rest lines.End encoding images complete count completed candidates = []

-- what a text in hand keeps: what it keeps without completing, and that no more are completed than were found
pub record IsSpilling (images : List Image) (count completed : ℕ) (candidates : List Carved) : Type 0 where
  pub carving : IsCarving images count candidates
  pub fewer : completed ≤ count
