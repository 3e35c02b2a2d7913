-- What completes a candidate whose payload goes on in overflow pages: as many distinct pages as it needs, one behind the
-- other ("Cell Payload Overflow Pages").
use Rattle.std.specs.Prelude.{◌≡◌, ℕ, ◌-◌, true, if◌then◌else◌, List, [], ◌∷◌, ◌++◌, length, map, take, drop, Option, None, Some}
use Rattle.std.specs.List.{concat, flat_map}
use Rattle.sx_cell.specs.Local.{overflow_room, need_of}
use Rattle.sx_grammar.specs.Sightings.{Sighting}
use Rattle.sx_spill.specs.Chains.{link_of, trail_of, are_distinct, has_chain}
use Rattle.sx_spill.specs.Unused.{Unused}

-- the bytes of payload that a page holds, those behind its first word
abbrev pub body_of : ℕ → List ℕ → List ℕ
body_of usable page = take (overflow_room usable) (drop 4 page)

-- the same of a page that may be there
abbrev pub body_in : ℕ → Option (List ℕ) → List ℕ
body_in usable None = []
body_in usable (Some page) = body_of usable page

-- what the pages of these numbers hold, one after the other
abbrev pub bodies_of : Unused → List ℕ → List ℕ
bodies_of pages numbers = flat_map (λ number. body_in pages.usable (pages.view number)) numbers

-- a local part, and so many bytes more of as many distinct pages as these need, from a number on; none where there aren't so
-- many
unfoldable pub payload_from : Unused → List ℕ → ℕ → ℕ → Option (List ℕ)
payload_from pages local link left =
    if has_chain pages.view link (need_of pages.usable left)
    then Some (local ++ take left (bodies_of pages (trail_of pages.view link (need_of pages.usable left))))
    else None

-- the same where there are a local part and a first overflow page
abbrev pub completed_by : Unused → ℕ → Option (List ℕ) → Option ℕ → Option (List ℕ)
completed_by pages payload None link = None
completed_by pages payload (Some local) None = None
completed_by pages payload (Some local) (Some link) = payload_from pages local link (payload - length local)

-- the whole payload of a candidate; none where its payload stands whole in its cell, or these pages don't complete it
unfoldable pub completed_of : Unused → Sighting → Option (List ℕ)
completed_of pages sighting = completed_by pages sighting.payload sighting.local sighting.overflow

-- ---- the same as a relation

-- pages with these numbers stand one behind the other: the first has this number, and each later one is named by the first
-- word of the page before it
abbrev pub IsChain : (ℕ → Option (List ℕ)) → ℕ → List ℕ → List (List ℕ) → Type 0
IsChain view link [] [] = Unit {0}
IsChain view link [] (page ∷ pages) = ⊥
IsChain view link (number ∷ numbers) [] = ⊥
IsChain view link (number ∷ numbers) (page ∷ pages) = (number ≡ link) × (view number ≡ Some page) × IsChain view (link_of page) numbers pages

-- a payload is the local part of a candidate and then the needed bytes of exactly as many distinct pages as it needs, of
-- which its overflow word names the first
pub record IsCompleted (pages : Unused) (sighting : Sighting) (payload : List ℕ) : Type 0 where
  pub local : List ℕ
  pub link : ℕ
  pub numbers : List ℕ
  pub bytes : List (List ℕ)
  pub begins : sighting.local ≡ Some local
  pub first : sighting.overflow ≡ Some link
  pub chain : IsChain pages.view link numbers bytes
  pub distinct : are_distinct numbers ≡ true
  pub needed : length numbers ≡ need_of pages.usable (sighting.payload - length local)
  pub joined : payload ≡ local ++ take (sighting.payload - length local) (concat (map (body_of pages.usable) bytes))
