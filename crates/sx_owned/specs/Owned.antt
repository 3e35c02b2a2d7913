-- What is known of the bytes of images: which are owned, and at which a freeblock begins.
use Rattle.std.specs.Prelude.{◌≡◌, ℕ, ◌<◌, ◌^◌, Bool, false, ◌&&◌, ◌||◌, ◌==◌, List, [], length, All, slice_index_or}
use Rattle.sx_base.specs.declared.evidence.Span.{Span}
use Rattle.sx_owned.specs.declared.run.Run.{Run}
use Rattle.sx_owned.specs.Runs.{Within, is_owned}
use Rattle.sx_owned.specs.Spans.{in_span}

-- images by number, and what is known of each: its owned bytes and its freeblocks, as sets of places
pub record Owned : Type 0 where
  pub page_size : ℕ
  pub owned : List (List Run)
  pub blocks : List (List Run)

-- how many images there are
abbrev pub images_of : Owned → ℕ
images_of table = length table.owned

-- the set of an image; none past the last image
abbrev pub places_of : List (List Run) → ℕ → List Run
places_of sets image = slice_index_or sets image []

-- the byte at an offset of an image is owned
unfoldable pub owned_at : Owned → ℕ → ℕ → Bool
owned_at table image at = is_owned (places_of table.owned image) at

-- a freeblock begins at an offset of an image
unfoldable pub block_at : Owned → ℕ → ℕ → Bool
block_at table image at = is_owned (places_of table.blocks image) at

-- nothing is owned and no freeblock begins
pub record IsFresh (made : Owned) (images page_size : ℕ) : Type 0 where
  pub count : images_of made ≡ images
  pub size : made.page_size ≡ page_size
  pub owned : (image at : ℕ) → owned_at made image at ≡ false
  pub block : (image at : ℕ) → block_at made image at ≡ false

-- the same images, and the same freeblocks begin; owned besides are the bytes of a span of one image
pub record Owns (old new : Owned) (image : ℕ) (span : Span) : Type 0 where
  pub count : images_of new ≡ images_of old
  pub size : new.page_size ≡ old.page_size
  pub owned : (other at : ℕ) → owned_at new other at ≡ (owned_at old other at || (other == image && in_span at span))
  pub block : (other at : ℕ) → block_at new other at ≡ block_at old other at

-- the same images, and the same bytes are owned; a freeblock begins besides at an offset of one image
pub record Begins (old new : Owned) (image offset : ℕ) : Type 0 where
  pub count : images_of new ≡ images_of old
  pub size : new.page_size ≡ old.page_size
  pub owned : (other at : ℕ) → owned_at new other at ≡ owned_at old other at
  pub block : (other at : ℕ) → block_at new other at ≡ (block_at old other at || (other == image && at == offset))

-- as many sets of freeblocks as of owned bytes, so many that a number of 32 bits tells it, and the owned bytes lie in a page
pub record IsTable (owned blocks : List (List Run)) (page_size : ℕ) : Type 0 where
  pub few : length owned < 2 ^ 32
  pub same : length blocks ≡ length owned
  pub within : All (Within page_size) owned
