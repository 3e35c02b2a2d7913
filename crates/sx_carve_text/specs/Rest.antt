-- How far the writing of `carve` has come.
use Rattle.std.specs.Prelude.{ℕ, ◌+◌, ◌<◌, ◌^◌, List, [], ◌∷◌, ◌++◌, length, map}
use Rattle.sx_bytes.specs.declared.encoding.Encoding.{Encoding}
use Rattle.sx_images.specs.declared.image.Image.{Image}
use Rattle.sx_carve.specs.Candidates.{Carved, AreIn}
use Rattle.sx_carve_text.specs.Carve.{candidate_line, count_line}
use Rattle.sx_carve_text.specs.declared.carve.CarveLine.{CarveLine}
use Rattle.sx_carve_text.specs.declared.carve.CarveLine.TheVariants as lines

-- the lines of candidates, where so many came before
abbrev pub counted_from : Encoding → List Image → ℕ → List Carved → List (List ℕ)
counted_from encoding images count candidates = map (candidate_line encoding images) candidates ++ count_line (count + length candidates) ∷ []

-- the lines from one on
abbrev pub lines_from : CarveLine → Encoding → List Image → ℕ → List Carved → List (List ℕ)
lines_from lines.Candidate encoding images count candidates = counted_from encoding images count candidates
lines_from lines.End encoding images count candidates = []

-- what a text in hand keeps: the candidates are of the images, and fewer than 2^64 were printed or are to come
pub record IsCarving (images : List Image) (count : ℕ) (candidates : List Carved) : Type 0 where
  pub told : AreIn (length images) candidates
  pub few : count + length candidates < 2 ^ 64
