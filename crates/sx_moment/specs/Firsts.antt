-- Pages in rising order, each with the place of the first of its images.
use Rattle.std.specs.Prelude.{ℕ, ◌≡◌, ◌+◌, ◌≤◌, ◌==◌, Bool, true, false, not, ◌&&◌, nat_le, nat_lt, if◌then◌else◌, List, [], ◌∷◌, map, filter, Option, None, Some, ⊤}
use Rattle.std.specs.List.{range_with_len}
use Rattle.std.specs.List.Sorted.{IsPartitionPoint}
use Rattle.sx_moment.specs.declared.first_image.FirstImage.{FirstImage}

-- the pages rise, from a least one on
abbrev pub Rises : ℕ → List FirstImage → Type 0
Rises least [] = ⊤
Rises least (image ∷ images) = (least ≤ image.page) × Rises (image.page + 1) images

-- the place of a page's first image, where the page is listed
abbrev pub first_in : List FirstImage → ℕ → Option ℕ
first_in [] number = None
first_in (image ∷ images) number = if image.page == number then Some image.first else first_in images number

-- the first image stands below a bound
abbrev pub below : ℕ → FirstImage → Bool
below bound image = nat_lt image.first bound

-- a page within a size that passes a test
abbrev pub is_taken : (FirstImage → Bool) → ℕ → FirstImage → Bool
is_taken test size image = test image && nat_le image.page size

-- all such pages
abbrev pub taken : (FirstImage → Bool) → ℕ → List FirstImage → List ℕ
taken test size images = map (λ image. image.page) (filter (is_taken test size) images)

-- a page whose first image, where it has one, passes the test
abbrev pub passes : (FirstImage → Bool) → ℕ → Option ℕ → Bool
passes test number None = false
passes test number (Some first) = test (record { page = number; first = first })

-- the place of a search: the pages before it are below a number, and those from it on aren't
abbrev pub IsSearched : ℕ → List FirstImage → ℕ → Type 0
IsSearched number images place = IsPartitionPoint (λ image. nat_lt image.page number ≡ true) (λ image. nat_lt image.page number ≡ false) images place

-- the same of the pages at a number or below it
abbrev pub IsSearchedAbove : ℕ → List FirstImage → ℕ → Type 0
IsSearchedAbove number images place = IsPartitionPoint (λ image. nat_le image.page number ≡ true) (λ image. nat_le image.page number ≡ false) images place

-- of the first pages of a file all but the lock-byte page
abbrev pub file_pages : ℕ → ℕ → List ℕ
file_pages lock count = filter (λ number. not (number == lock)) (range_with_len 1 count)
