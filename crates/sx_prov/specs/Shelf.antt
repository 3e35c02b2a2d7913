-- Page maps that are kept: which of them there are, and how they are found again.
use Rattle.std.specs.Prelude.{◌≡◌, ◌⊎◌, ℕ, List, [], ◌∷◌, ◌++◌, length, map, slice_get, Option, Some, Result, Ok, Err, Contains}
use Rattle.sx_base.specs.Places.{last_place}
use Rattle.sx_chain.specs.Newest.{has_number}
use Rattle.sx_chain.specs.Links.{IsChained}
use Rattle.sx_prov.specs.Keys.{keyed_labels}
use Rattle.sx_prov.specs.declared.key.PageKey.{PageKey}
use Rattle.sx_prov.specs.declared.shelf.Kept.{Kept}

-- what a map is of: an image, the key of a page, and the bytes of its view
pub record Entry : Type 0 where
  pub image : ℕ
  pub key : PageKey
  pub view : List ℕ

-- what a kept map is of
abbrev pub entry_of : Kept → Entry
entry_of kept = record { image = kept.image; key = kept.key; view = kept.view.now }

-- the entries of kept maps
abbrev pub entries_of : List Kept → List Entry
entries_of kept = map entry_of kept

-- their images, and of each the place of the one before it with its image
abbrev pub images_of : List Kept → List ℕ
images_of kept = map (λ one. one.image) kept

abbrev pub links_of : List Kept → List (Option ℕ)
links_of kept = map (λ one. one.before) kept

-- a kept map has the labels of its entry
abbrev pub IsMade : Kept → Type 0
IsMade one = one.map ≡ keyed_labels one.key one.view.now

-- each kept map has the labels of its entry, and is found by its image
pub record AreKept (kept : List Kept) (newest : ℕ → Option ℕ) : Type 0 where
  pub chained : IsChained (images_of kept) (links_of kept)
  pub newest_are : (image : ℕ) → newest image ≡ last_place (has_number (images_of kept) image) (length kept)
  pub made : (i : ℕ) (one : Kept) → slice_get kept i ≡ Some one → IsMade one

-- an entry was asked for: where there is one its place is told and nothing changes, and else it is the last now; or it had no
-- room, and nothing changed
abbrev pub IsAsked : {E : Type 0} → List Entry → List Entry → Entry → Result ℕ E → Type 0
IsAsked old new entry (Ok place) = (slice_get new place ≡ Some entry) × (new ≡ old ⊎ ((Contains old entry → ⊥) × (new ≡ old ++ entry ∷ [])))
IsAsked old new entry (Err e) = (Contains old entry → ⊥) × (new ≡ old)
