-- How far the search in an image has come. No definition of an answer goes through it.
use Rattle.std.specs.Prelude.{◌≡◌, ℕ, ◌+◌, ◌<◌, ◌≤◌, Bool, true, false, not, List, [], ◌∷◌, ◌++◌, length, drop, All, Option, None, Some}
use Rattle.sx_base.specs.declared.evidence.Span.{Span}
use Rattle.sx_base.specs.declared.evidence.Part.{Part}
use Rattle.sx_images.specs.Images.{Table, images_of as all_images}
use Rattle.sx_owned.specs.Owned.{Owned, images_of, owned_at, block_at}
use Rattle.sx_owned.specs.Spans.{IsMaximal, Rise, in_spans}
use Rattle.sx_grammar.specs.declared.shape.ShapeKey.{ShapeKey}
use Rattle.sx_grammar.specs.Choice.{Rises, setting_of, accepted_at}
use Rattle.sx_carve.specs.Candidates.{told_by, Carved, carved, carved_from, candidates_from}

-- the same in a run of bytes none of which is owned: what is accepted at each place from one on
unfoldable pub scanned_from : ℕ → List ShapeKey → Owned → ℕ → ℕ → List ℕ → List Carved
scanned_from usable shapes table image at [] = []
scanned_from usable shapes table image at (byte ∷ bytes) =
    carved image at (accepted_at usable shapes (setting_of at (block_at table image at) usable) (byte ∷ bytes))
    ++ scanned_from usable shapes table image (at + 1) bytes

-- those of a run from one of its places on
abbrev pub run_rest : ℕ → List ShapeKey → Owned → ℕ → List ℕ → ℕ → List Carved
run_rest usable shapes table image run at = scanned_from usable shapes table image at (drop at run)

-- those of an image from one of its offsets on
abbrev pub image_rest : ℕ → List ShapeKey → Owned → ℕ → List ℕ → ℕ → List Carved
image_rest usable shapes table image bytes at = carved_from usable shapes (told_by table) image at (drop at bytes)

-- those of the images from one on
abbrev pub images_rest : ℕ → List ShapeKey → Owned → (Part → List ℕ) → Table → ℕ → List Carved
images_rest usable shapes table files images number =
    candidates_from usable shapes (told_by table) images.page_size files number (drop number (all_images images))

-- the spans are the maximal ones of the places that pass, from a place on up to a size
pub record AreLeft (size : ℕ) (passes : ℕ → Bool) (from : ℕ) (spans : List Span) : Type 0 where
  pub maximal : All (IsMaximal size passes) spans
  pub all : (at : ℕ) → from ≤ at → at < size → in_spans spans at ≡ passes at
  pub order : Rise from spans

-- a byte of an image isn't owned
abbrev pub is_free : Owned → ℕ → ℕ → Bool
is_free table image at = not (owned_at table image at)

-- what a search goes by: the usable bytes of a page, the shapes, an image that is told of
pub record IsSought (usable : ℕ) (shapes : List ShapeKey) (table : Owned) (image : ℕ) : Type 0 where
  pub least : 480 ≤ usable
  pub greatest : usable ≤ 65536
  pub rise : Rises 1 shapes
  pub told : image < images_of table

-- the search of an image stands at a place of a run that nothing owns and that ends at a place; these spans follow it
pub record IsScan (table : Owned) (image size at end : ℕ) (spans : List Span) : Type 0 where
  pub small : size ≤ 65536
  pub rises : at ≤ end
  pub within : end ≤ size
  pub run : (k : ℕ) → at ≤ k → k < end → owned_at table image k ≡ false
  pub stop : at < end → end < size → owned_at table image end ≡ true
  pub left : AreLeft size (is_free table image) end spans

-- those of an image that is searched, where one is
abbrev pub scan_rest : Option (List Carved) → List Carved
scan_rest None = []
scan_rest (Some rest) = rest

-- a candidate is the first of a run from a place on
pub record IsNextInRun (usable : ℕ) (shapes : List ShapeKey) (table : Owned) (image : ℕ) (run : List ℕ) (from : ℕ) (found : Carved) : Type 0 where
  pub first : run_rest usable shapes table image run from ≡ found ∷ run_rest usable shapes table image run (found.at + 1)
  pub behind : from ≤ found.at
  pub inside : found.at < length run

-- a candidate is the first of an image from a place on
pub record IsNextInImage (usable : ℕ) (shapes : List ShapeKey) (table : Owned) (image : ℕ) (bytes : List ℕ) (from : ℕ) (found : Carved) : Type 0 where
  pub first : image_rest usable shapes table image bytes from ≡ found ∷ image_rest usable shapes table image bytes (found.at + 1)
  pub inside : found.at < length bytes
