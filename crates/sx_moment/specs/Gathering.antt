-- The maps and lists of first images, while they are made.
use Rattle.std.specs.Prelude.{ℕ, ◌==◌, Bool, ◌&&◌, if◌then◌else◌, List, [], ◌∷◌, ◌++◌, Option, None, Some, is_some}
use Rattle.sx_moment.specs.declared.first_image.FirstImage.{FirstImage}

-- what stands for a page once image i of another was noted, where it counts
abbrev pub noted : Bool → ℕ → ℕ → Option ℕ → ℕ → Option ℕ
noted counts page i (Some first) number = Some first
noted counts page i None number = if counts && (page == number) then Some i else None

-- of the entries of a map those whose key is kept, as pages with their first images
abbrev pub images_of : (ℕ → Bool) → List (ℕ × ℕ) → List FirstImage
images_of keeps [] = []
images_of keeps (entry ∷ entries) = (if keeps entry.0 then (record { page = entry.0; first = entry.1 }) ∷ [] else []) ++ images_of keeps entries

-- the pages that have something in a map
abbrev pub has_key : (ℕ → Option ℕ) → ℕ → Bool
has_key known number = is_some (known number)

-- a page with its first image, if it has one
abbrev pub image_with : ℕ → Option ℕ → List FirstImage
image_with page None = []
image_with page (Some first) = record { page = page; first = first } ∷ []

-- of a list of pages those that have a first image, each with it
abbrev pub firsts_of : (ℕ → Option ℕ) → List ℕ → List FirstImage
firsts_of first [] = []
firsts_of first (page ∷ pages) = image_with page (first page) ++ firsts_of first pages
