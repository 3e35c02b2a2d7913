-- What a payload is, told by the whole chain of its overflow pages ("Cell Payload Overflow Pages").
use Rattle.std.specs.Prelude.{◌≡◌, ℕ, ◌≤◌, List, [], ◌∷◌, ◌++◌, length, take, map, Option, Some, unwrap_or}
use Rattle.std.specs.List.{concat}
use Rattle.sx_base.specs.Held.{held_pages}
use Rattle.sx_cell.specs.declared.cell.Cell.{Cell}
use Rattle.sx_cell.specs.Local.{spilled, need_of}
use Rattle.sx_overflow.specs.Chains.{link_of, body_of, linked}
use Rattle.sx_overflow.specs.Payloads.{local_part}

-- the pages are found one after the other, each by the link of the one before
abbrev pub IsLinked : (ℕ → Option (List ℕ)) → ℕ → List (List ℕ) → Type 0
IsLinked view number [] = Unit {0}
IsLinked view number (page ∷ pages) = (linked view number ≡ Some page) × IsLinked view (link_of page) pages

-- each view has the usable bytes
abbrev pub HasUsable : (ℕ → Option (List ℕ)) → ℕ → Type 0
HasUsable view usable = (number : ℕ) (page : List ℕ) → view number ≡ Some page → usable ≤ length page

-- the bytes are the payload of a cell: its local part and, of the bodies of exactly the pages that it needs, the first as
-- many bytes as are missing; and no more pages are needed than are held
pub record IsPayload (size : ℕ) (view : ℕ → Option (List ℕ)) (page : List ℕ) (usable : ℕ) (cell : Cell) (bytes : List ℕ) : Type 0 where
  pub pages : List (List ℕ)
  pub chain : IsLinked view (unwrap_or cell.overflow 0) pages
  pub needed : length pages ≡ need_of usable (spilled cell)
  pub few : length pages ≤ length (held_pages size view)
  pub joined : bytes ≡ local_part page cell ++ take (spilled cell) (concat (map (body_of usable) pages))
