-- Candidates, one after the other, completed or not.
use Rattle.std.proofs.Common.{◌≡◌, ℕ, ◌+◌, ◌<◌, ◌≤◌, cond, List, [], ◌∷◌, ◌++◌, length, map, Option, Some, is_some, slice_get, ap, ◌∙◌, arith}
use Rattle.std.proofs.lemmas.List.Sums.{sum_by-cons}
use Rattle.sx_bytes.specs.declared.encoding.Encoding.{Encoding}
use Rattle.sx_images.specs.declared.image.Image.{Image}
use Rattle.sx_grammar.specs.Sightings.{Sighting}
use Rattle.sx_carve.specs.Candidates.{Carved}
use Rattle.sx_carve_text.specs.Spilled.{line_by, spilled_in, spilled_line, completed_count, completed_line}
use Rattle.sx_carve_text.specs.SpilledRest.{spilled_from, IsSpilling}
use Rattle.sx_carve_text.proofs.Counting as counting

-- the next candidate is of an image
pub one_there : (images : List Image) (count completed : ℕ) (found : Carved) (old new : List Carved) → IsSpilling images count completed old → old ≡ found ∷ new → found.image < length images
one_there images count completed found old new spilling is = counting.one_there images count found old new spilling.carving is

-- and so are those behind it
pub more_there : (images : List Image) (count completed more : ℕ) (found : Carved) (old new : List Carved) → IsSpilling images count completed old → old ≡ found ∷ new → more ≤ completed + 1
    → IsSpilling images (count + 1) more new
more_there images count completed more found old new spilling is few = record {
  carving = counting.more_there images count found old new spilling.carving is;
  fewer = omega (arith, spilling.fewer, few);
}

-- the line of a candidate, and those behind it
pub one_spilled : (encoding : Encoding) (images : List Image) (complete : Sighting → Option (List ℕ)) (count completed more : ℕ) (image : Image) (found : Carved) (old new : List Carved)
    → old ≡ found ∷ new → slice_get images found.image ≡ Some image → more ≡ completed + cond (is_some (complete found.sighting)) 1 0
    → spilled_from encoding images complete count completed old ≡ line_by encoding image found (complete found.sighting) ∷ spilled_from encoding images complete (count + 1) more new
one_spilled encoding images complete count completed more image found old new is there counted =
    let one : count + length old ≡ count + 1 + length new = omega (arith, ap length is) in
    let step = sum_by-cons (λ (one : Carved). cond (is_some (complete one.sighting)) 1 0) found new in
    let all : completed + completed_count complete old ≡ more + completed_count complete new = omega (arith, ap (completed_count complete) is, step, counted) in
    ap (λ n. map (spilled_line encoding images complete) old ++ completed_line n (completed + completed_count complete old) ∷ []) one
    ∙ ap (λ n. map (spilled_line encoding images complete) old ++ completed_line (count + 1 + length new) n ∷ []) all
    ∙ ap (λ list. map (spilled_line encoding images complete) list ++ completed_line (count + 1 + length new) (more + completed_count complete new) ∷ []) is
    ∙ ap (λ one. spilled_in encoding one found (complete found.sighting) ∷ spilled_from encoding images complete (count + 1) more new) there

-- the last line
pub none_spilled : (encoding : Encoding) (images : List Image) (complete : Sighting → Option (List ℕ)) (count completed : ℕ) (old : List Carved) → old ≡ []
    → spilled_from encoding images complete count completed old ≡ completed_line count completed ∷ []
none_spilled encoding images complete count completed old is =
    let none : count + length old ≡ count = omega (arith, ap length is) in
    let all : completed + completed_count complete old ≡ completed = omega (arith, ap (completed_count complete) is) in
    ap (λ n. map (spilled_line encoding images complete) old ++ completed_line n (completed + completed_count complete old) ∷ []) none
    ∙ ap (λ n. map (spilled_line encoding images complete) old ++ completed_line count n ∷ []) all
    ∙ ap (λ list. map (spilled_line encoding images complete) list ++ completed_line count completed ∷ []) is
