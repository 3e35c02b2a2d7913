-- How many candidates there are, and of which images.
use Rattle.std.proofs.Common.{ℕ, ◌+◌, ◌*◌, ◌<◌, ◌≤◌, List, [], ◌∷◌, ◌++◌, length, drop, Option, Some, None, arith, length-append, length-take}
use Rattle.sx_base.specs.declared.evidence.Part.{Part}
use Rattle.sx_images.specs.declared.image.Image.{Image}
use Rattle.sx_owned.specs.Owned.{Owned}
use Rattle.sx_grammar.specs.declared.shape.ShapeKey.{ShapeKey}
use Rattle.sx_grammar.specs.Sightings.{Sighting}
use Rattle.sx_carve.specs.Candidates.{told_by, Carved, carved, candidate_at, carved_from, image_bytes, candidates_from, AreIn}

in_both : (count : ℕ) (first second : List Carved) → AreIn count first → AreIn count second → AreIn count (first ++ second)
in_both count [] second one other = other
in_both count (found ∷ first) second one other = (one.0, in_both count first second one.1 other)

one_told : (count image at : ℕ) (found : Option Sighting) → image < count → AreIn count (carved image at found)
one_told count image at None within = tt
one_told count image at (Some sighting) within = (within, tt)

image_told : (count usable : ℕ) (shapes : List ShapeKey) (table : Owned) (image at : ℕ) (bytes : List ℕ) → image < count → AreIn count (carved_from usable shapes (told_by table) image at bytes)
unfolding carved_from
image_told count usable shapes table image at [] within = tt
image_told count usable shapes table image at (byte ∷ bytes) within =
    in_both count (carved image at (candidate_at usable shapes (told_by table) image at (byte ∷ bytes))) (carved_from usable shapes (told_by table) image (at + 1) bytes)
    (one_told count image at (candidate_at usable shapes (told_by table) image at (byte ∷ bytes)) within) (image_told count usable shapes table image (at + 1) bytes within)

told_from : (count usable : ℕ) (shapes : List ShapeKey) (table : Owned) (page_size : ℕ) (files : Part → List ℕ) (number : ℕ) (images : List Image) → number + length images ≤ count
    → AreIn count (candidates_from usable shapes (told_by table) page_size files number images)
unfolding candidates_from
told_from count usable shapes table page_size files number [] within = tt
told_from count usable shapes table page_size files number (image ∷ images) within =
    in_both count (carved_from usable shapes (told_by table) number 0 (image_bytes page_size files image)) (candidates_from usable shapes (told_by table) page_size files (number + 1) images)
    (image_told count usable shapes table number 0 (image_bytes page_size files image) (omega arith))
    (told_from count usable shapes table page_size files (number + 1) images (omega arith))

-- each is of one of the images
pub all_told : (usable : ℕ) (shapes : List ShapeKey) (table : Owned) (page_size : ℕ) (files : Part → List ℕ) (images : List Image) → AreIn (length images) (candidates_from usable shapes (told_by table) page_size files 0 images)
all_told usable shapes table page_size files images = told_from (length images) usable shapes table page_size files 0 images (omega arith)

one_few : (image at : ℕ) (found : Option Sighting) → length (carved image at found) ≤ 1
one_few image at None = omega arith
one_few image at (Some sighting) = omega arith

image_few : (usable : ℕ) (shapes : List ShapeKey) (table : Owned) (image at : ℕ) (bytes : List ℕ) → length (carved_from usable shapes (told_by table) image at bytes) ≤ length bytes
unfolding carved_from
image_few usable shapes table image at [] = omega arith
image_few usable shapes table image at (byte ∷ bytes) =
    let found = candidate_at usable shapes (told_by table) image at (byte ∷ bytes) in
    omega (arith, length-append (carved image at found) (carved_from usable shapes (told_by table) image (at + 1) bytes), one_few image at found, image_few usable shapes table image (at + 1) bytes)

few_from : (usable : ℕ) (shapes : List ShapeKey) (table : Owned) (page_size : ℕ) (files : Part → List ℕ) (number : ℕ) (images : List Image) → page_size ≤ 65536
    → length (candidates_from usable shapes (told_by table) page_size files number images) ≤ length images * 65536
unfolding candidates_from
few_from usable shapes table page_size files number [] small = omega arith
few_from usable shapes table page_size files number (image ∷ images) small =
    let bytes = image_bytes page_size files image in
    omega (
      arith,
      length-append (carved_from usable shapes (told_by table) number 0 bytes) (candidates_from usable shapes (told_by table) page_size files (number + 1) images),
      image_few usable shapes table number 0 bytes,
      length-take page_size (drop image.offset (files image.part)),
      few_from usable shapes table page_size files (number + 1) images small,
    )

-- they are at most as many as bytes
pub all_few : (usable : ℕ) (shapes : List ShapeKey) (table : Owned) (page_size : ℕ) (files : Part → List ℕ) (images : List Image) → page_size ≤ 65536
    → length (candidates_from usable shapes (told_by table) page_size files 0 images) ≤ length images * 65536
all_few usable shapes table page_size files images small = few_from usable shapes table page_size files 0 images small
