-- The pages of a moment whose usable bytes nothing owns.
use Rattle.std.specs.Prelude.{◌≡◌, ℕ, ◌≤◌, Bool, false, not, if◌then◌else◌, List, length, Option, None, Some}
use Rattle.std.specs.List.{list_all, range_with_len}
use Rattle.sx_base.specs.declared.evidence.Place.{Place}
use Rattle.sx_base.specs.declared.moment.Moment.{Moment}
use Rattle.sx_images.specs.Images.{Table, images_of}
use Rattle.sx_images.specs.Places.{physical_of}
use Rattle.sx_images.specs.declared.physical.Physical.{Physical}
use Rattle.sx_images.specs.declared.physical.Physical.TheVariants.{Image}
use Rattle.sx_moment.specs.Gathered.{Gathered}
use Rattle.sx_moment.specs.Views.{source_of, view_of}
use Rattle.sx_owned.specs.Owned.{Owned, images_of as owned_images, owned_at}

-- pages that can be gone through: each by its number, and how many of its bytes are in use
pub record Unused : Type 0 where
  pub view : ℕ → Option (List ℕ)
  pub usable : ℕ

-- the image that a byte is part of
abbrev pub image_in : Option Physical → Option ℕ
image_in (Some (Image number byte)) = Some number
image_in _ = None

-- the image that a view begins in, where there is one: the number of the image that its first byte is part of
abbrev pub image_at : Table → Option Place → Option ℕ
image_at images None = None
image_at images (Some place) = image_in (physical_of images place)

-- none of the first so many bytes of an image is owned
unfoldable pub is_unowned : (ℕ → ℕ → Bool) → ℕ → ℕ → Bool
is_unowned owned usable image = list_all (λ at. not (owned image at)) (range_with_len 0 usable)

-- the same, where there is an image
abbrev pub is_unused : (ℕ → ℕ → Bool) → ℕ → Option ℕ → Bool
is_unused owned usable None = false
is_unused owned usable (Some image) = is_unowned owned usable image

-- the view of a page at a moment, where nothing owns the usable bytes of its image
unfoldable pub unused_at : Gathered → Moment → Table → (ℕ → ℕ → Bool) → ℕ → ℕ → Option (List ℕ)
unused_at case moment images owned usable number =
    if is_unused owned usable (image_at images (source_of case moment number)) then view_of case moment number else None

-- all these pages
abbrev pub unused_pages : Gathered → Moment → Table → (ℕ → ℕ → Bool) → ℕ → Unused
unused_pages case moment images owned usable = record { view = unused_at case moment images owned usable; usable = usable }

-- what they are found by: the evidence and the moment, the page images, what of these is owned, and the usable bytes of a page
pub record Given : Type 0 where
  pub case : Gathered
  pub moment : Moment
  pub images : Table
  pub owned : Owned
  pub usable : ℕ

abbrev pub unused_by : Given → Unused
unused_by given = unused_pages given.case given.moment given.images (owned_at given.owned) given.usable

-- what is owned is told for these images, and so many bytes of a page are in use
pub record Fit (case : Gathered) (images : Table) (owned : Owned) (usable : ℕ) : Type 0 where
  pub count : owned_images owned ≡ length (images_of images)
  pub size : usable ≤ owned.page_size
  pub least : 480 ≤ usable
  pub within : usable ≤ case.header.page_size
