-- Candidates, one after the other.
use Rattle.std.proofs.Common.{◌≡◌, ℕ, ◌+◌, ◌<◌, List, [], ◌∷◌, ◌++◌, length, map, Some, slice_get, ap, ◌∙◌, subst, arith}
use Rattle.sx_bytes.specs.declared.encoding.Encoding.{Encoding}
use Rattle.sx_images.specs.declared.image.Image.{Image}
use Rattle.sx_carve.specs.Candidates.{Carved, AreIn}
use Rattle.sx_carve_text.specs.Carve.{line_in, found_line, candidate_line, count_line}
use Rattle.sx_carve_text.specs.Rest.{counted_from, IsCarving}

-- the next candidate is of an image
pub one_there : (images : List Image) (count : ℕ) (found : Carved) (old new : List Carved) → IsCarving images count old → old ≡ found ∷ new → found.image < length images
one_there images count found old new carving is = (subst (AreIn (length images)) is carving.told).0

-- and so are those behind it
pub more_there : (images : List Image) (count : ℕ) (found : Carved) (old new : List Carved) → IsCarving images count old → old ≡ found ∷ new → IsCarving images (count + 1) new
more_there images count found old new carving is = record {
  told = (subst (AreIn (length images)) is carving.told).1;
  few = omega (arith, carving.few, ap length is);
}

-- the line of a candidate, and those behind it
pub one_counted : (encoding : Encoding) (images : List Image) (count : ℕ) (image : Image) (found : Carved) (old new : List Carved) → old ≡ found ∷ new → slice_get images found.image ≡ Some image
    → counted_from encoding images count old ≡ found_line encoding image found ∷ counted_from encoding images (count + 1) new
one_counted encoding images count image found old new is there =
    let more : count + length old ≡ count + 1 + length new = omega (arith, ap length is) in
    ap (λ n. map (candidate_line encoding images) old ++ count_line n ∷ []) more
    ∙ ap (λ list. map (candidate_line encoding images) list ++ count_line (count + 1 + length new) ∷ []) is
    ∙ ap (λ one. line_in encoding one found ∷ counted_from encoding images (count + 1) new) there

-- the last line
pub none_counted : (encoding : Encoding) (images : List Image) (count : ℕ) (old : List Carved) → old ≡ [] → counted_from encoding images count old ≡ count_line count ∷ []
none_counted encoding images count old is =
    let none : count + length old ≡ count = omega (arith, ap length is) in
    ap (λ n. map (candidate_line encoding images) old ++ count_line n ∷ []) none ∙ ap (λ list. map (candidate_line encoding images) list ++ count_line count ∷ []) is
