-- The candidates of page images: at each offset of an image the first form whose whole span lies in the image and isn't owned
-- ("B-tree Pages": what a deleted cell leaves in a freeblock, or in a page that isn't used any more).
-- Images and offsets are numbered from 0.
use Rattle.std.specs.Prelude.{◌≡◌, ℕ, ◌+◌, ◌<◌, Bool, if◌then◌else◌, List, [], ◌∷◌, ◌++◌, Option, None, Some, take, drop}
use Rattle.sx_base.specs.declared.evidence.Part.{Part}
use Rattle.sx_images.specs.declared.image.Image.{Image}
use Rattle.sx_owned.specs.Owned.{Owned, owned_at, block_at}
use Rattle.sx_grammar.specs.declared.shape.ShapeKey.{ShapeKey}
use Rattle.sx_grammar.specs.Sightings.{Sighting}
use Rattle.sx_grammar.specs.Choice.{setting_of, accepted_at}

-- what is told of page images: which bytes of an image are owned, and where freeblocks begin
pub record Told : Type 0 where
  pub owned : ℕ → ℕ → Bool
  pub block : ℕ → ℕ → Bool

-- what owned runs tell
abbrev pub told_by : Owned → Told
told_by table = record { owned = owned_at table; block = block_at table }

-- the same is told of each byte and of each offset
pub record TellSame (one other : Told) : Type 0 where
  pub owned : (image at : ℕ) → one.owned image at ≡ other.owned image at
  pub block : (image at : ℕ) → one.block image at ≡ other.block image at

-- a candidate: the number of its image, its offset in it, and what is read of it
pub record Carved : Type 0 where
  pub image : ℕ
  pub at : ℕ
  pub sighting : Sighting

-- of the bytes from an offset on those up to the next owned one
unfoldable pub unowned_front : (ℕ → Bool) → ℕ → List ℕ → List ℕ
unowned_front owned at [] = []
unowned_front owned at (byte ∷ bytes) = if owned at then [] else byte ∷ unowned_front owned (at + 1) bytes

-- the candidate at an offset of an image whose bytes from there on are these: the first form whose span begins there and
-- isn't owned
unfoldable pub candidate_at : ℕ → List ShapeKey → Told → ℕ → ℕ → List ℕ → Option Sighting
candidate_at usable shapes told image at bytes =
    accepted_at usable shapes (setting_of at (told.block image at) usable) (unowned_front (told.owned image) at bytes)

-- a candidate, where there is one
abbrev pub carved : ℕ → ℕ → Option Sighting → List Carved
carved image at None = []
carved image at (Some sighting) = record { image = image; at = at; sighting = sighting } ∷ []

-- the candidates of an image whose bytes from an offset on are these: each offset is asked for itself
unfoldable pub carved_from : ℕ → List ShapeKey → Told → ℕ → ℕ → List ℕ → List Carved
carved_from usable shapes told image at [] = []
carved_from usable shapes told image at (byte ∷ bytes) =
    carved image at (candidate_at usable shapes told image at (byte ∷ bytes)) ++ carved_from usable shapes told image (at + 1) bytes

-- the bytes of an image, in files of these bytes
abbrev pub image_bytes : ℕ → (Part → List ℕ) → Image → List ℕ
image_bytes page_size files image = take page_size (drop image.offset (files image.part))

-- the candidates of images that are numbered from one on
unfoldable pub candidates_from : ℕ → List ShapeKey → Told → ℕ → (Part → List ℕ) → ℕ → List Image → List Carved
candidates_from usable shapes told page_size files number [] = []
candidates_from usable shapes told page_size files number (image ∷ images) =
    carved_from usable shapes told number 0 (image_bytes page_size files image)
    ++ candidates_from usable shapes told page_size files (number + 1) images

-- all candidates, in order of image and offset
abbrev pub candidates_of : ℕ → List ShapeKey → Told → ℕ → (Part → List ℕ) → List Image → List Carved
candidates_of usable shapes told page_size files images = candidates_from usable shapes told page_size files 0 images

-- each candidate is of one of so many images
abbrev pub AreIn : ℕ → List Carved → Type 0
AreIn count [] = Unit {0}
AreIn count (one ∷ more) = (one.image < count) × AreIn count more
