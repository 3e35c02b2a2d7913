-- What the nodes and the heads of a list of numbers hold.
use Rattle.std.specs.Prelude.{◌≡◌, ℕ, ◌^◌, ◌<◌, nat_le, if◌then◌else◌, List, Option, None, Some, length, map, slice_index, slice_index_or}
use Rattle.sx_chain.specs.declared.node.Node.{Node}
use Rattle.sx_base.specs.Places.{last_place}
use Rattle.sx_chain.specs.Newest.{has_number}
use Rattle.sx_chain.specs.Heads.{place_below}

-- the numbers of the nodes
abbrev pub numbers_of : List Node → List ℕ
numbers_of nodes = map (λ node. node.number) nodes

-- the links of the nodes: each keeps the end that the item before it closes
abbrev pub links_of : List Node → List (Option ℕ)
links_of nodes = map (λ node. place_below node.end) nodes

-- the far ends of the links
abbrev pub fars_of : List Node → List ℕ
fars_of nodes = map (λ node. node.far) nodes

-- where a link leads on the way down to a bound: to the far item where that isn't below it, else to the item before
abbrev pub followed : Option ℕ → ℕ → ℕ → Option ℕ
followed None far before = None
followed (Some place) far before = Some (if nat_le before far then far else place)

-- the far end of an item: an earlier item of its number, and its own place where it is the first
abbrev pub IsFar : List ℕ → ℕ → Option ℕ → ℕ → ℕ → Type 0
IsFar numbers number None own far = far ≡ own
IsFar numbers number (Some before) own far = (far < own) × (slice_index numbers far ≡ number)

-- each far end is one
abbrev pub IsSkewed : List ℕ → List (Option ℕ) → List ℕ → Type 0
IsSkewed numbers links fars =
    (place : ℕ) → place < length numbers
    → IsFar numbers (slice_index numbers place) (slice_index_or links place None) place (slice_index fars place)

-- each link goes to the greatest lower place with the same number
pub record IsChained (numbers : List ℕ) (links : List (Option ℕ)) : Type 0 where
  pub few : length numbers < 2 ^ 32
  pub long : length links ≡ length numbers
  pub linked : (place : ℕ) → place < length numbers
      → slice_index_or links place None ≡ last_place (has_number numbers (slice_index numbers place)) place
