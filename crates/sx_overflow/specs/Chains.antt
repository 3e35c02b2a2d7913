-- Chains of overflow pages ("Cell Payload Overflow Pages"). Lengths are in bytes; the usable bytes of a page are at least
-- 480.
use Rattle.std.specs.Prelude.{◌≡◌, ℕ, zero, suc, ◌-◌, ◌==◌, List, [], ◌∷◌, length, take, drop, Option, Some, None, nat_le, if◌then◌else◌}
use Rattle.std.specs.Option.{option_map_or}
use Rattle.sx_base.specs.Bytes.{word_at}
use Rattle.sx_base.specs.Held.{held_pages}
use Rattle.sx_cell.specs.Local.{overflow_room, need_of}

-- the link at the front of an overflow page, the number of the next
abbrev pub link_of : List ℕ → ℕ
link_of page = word_at page 0

-- the bytes behind the link, those of payload
abbrev pub body_of : ℕ → List ℕ → List ℕ
body_of usable page = take (overflow_room usable) (drop 4 page)

-- the view that a link leads to: 0 is the number of no page
abbrev pub linked : (ℕ → Option (List ℕ)) → ℕ → Option (List ℕ)
linked view number = if number == 0 then None else view number

-- so many views from a page on, each found by the link of the one before, up to the first that isn't there
unfoldable pub chain_of : (ℕ → Option (List ℕ)) → ℕ → ℕ → List (List ℕ)
chain_of view number zero = []
chain_of view number (suc n) = option_map_or (λ page. page ∷ chain_of view (link_of page) n) (linked view number) []

-- numbers of pages that lead from one number to another, each page by its link
abbrev pub IsTrail : (ℕ → Option (List ℕ)) → ℕ → List ℕ → ℕ → Type 0
IsTrail view from [] to = to ≡ from
IsTrail view from (number ∷ trail) to =
    (number ≡ from) × (page : List ℕ) × (linked view number ≡ Some page) × IsTrail view (link_of page) trail to

-- the overflow pages of a payload with so many bytes left for them: none where it needs more pages than are held
unfoldable pub overflow_pages : ℕ → (ℕ → Option (List ℕ)) → ℕ → ℕ → ℕ → List (List ℕ)
overflow_pages size view usable number left =
    if nat_le (need_of usable left) (length (held_pages size view)) then chain_of view number (need_of usable left) else []

-- what the payload takes of each: the body, but no more than it has left
unfoldable pub bodies_of : ℕ → ℕ → List (List ℕ) → List (List ℕ)
bodies_of usable left [] = []
bodies_of usable left (page ∷ pages) = take left (body_of usable page) ∷ bodies_of usable (left - overflow_room usable) pages
