-- Chains of pages, each named by the one before it and the first by a cell, and how many bytes of the cell's payload are
-- still to come at each ("Cell Payload Overflow Pages").
use Rattle.std.specs.Prelude.{◌≡◌, ℕ, ◌+◌, ◌-◌, ◌*◌, Bool, true, false, List, [], ◌∷◌, length, Option, Some, None, option_map}
use Rattle.sx_base.specs.declared.role.Role.{Role}
use Rattle.sx_base.specs.declared.role.Role.TheVariants.{Overflow}
use Rattle.sx_closure.specs.declared.pair.Source.{Source}
use Rattle.sx_closure.specs.declared.pair.Source.TheVariants.{Root, Cell, Page}
use Rattle.sx_closure.specs.declared.pair.Target.{Target}
use Rattle.sx_closure.specs.Graph.{Graph, references_to, only}

-- the one reference to a page, where it has no other
abbrev pub one_reference : Graph → ℕ → Option Target
one_reference graph page = only (references_to graph page)

-- the page of a source, where that is a page and no cell
abbrev pub page_of : Source → Option ℕ
page_of (Page page) = Some page
page_of Root = None
page_of (Cell page cell) = None

-- the page that a reference comes from, where it comes from no cell
abbrev pub page_before : Option Target → Option ℕ
page_before None = None
page_before (Some target) = page_of target.source

-- the bytes that the payload of a source has past it, where that is a cell
abbrev pub rest_of : Source → ℕ → Option ℕ
rest_of (Cell page cell) rest = Some rest
rest_of Root rest = None
rest_of (Page page) rest = None

-- the bytes past a cell, where the reference comes from a cell
abbrev pub rest_at : Option Target → Option ℕ
rest_at None = None
rest_at (Some target) = rest_of target.source target.rest

-- a chain from its last page back to the first: each page has one reference, the first from a cell whose payload has so
-- many bytes more, each later one from the page before it
abbrev pub IsChain : (ℕ → Option Target) → ℕ → List ℕ → Type 0
IsChain one rest [] = ⊥
IsChain one rest (page ∷ []) = rest_at (one page) ≡ Some rest
IsChain one rest (page ∷ before ∷ pages) = (page_before (one page) ≡ Some before) × IsChain one rest (before ∷ pages)

-- a reference is of the role of overflow pages
abbrev pub is_role_overflow : Role → Bool
is_role_overflow Overflow = true
is_role_overflow _ = false

abbrev pub is_overflow : Option Target → Bool
is_overflow None = false
is_overflow (Some target) = is_role_overflow target.pair.role

-- a page has a place, counted from 1, in the chain of a cell whose payload has so many bytes more
pub record IsPlaced (one : ℕ → Option Target) (page place rest : ℕ) : Type 0 where
  pub before : List ℕ
  pub chain : IsChain one rest (page ∷ before)
  pub long : place ≡ length before + 1
  pub role : is_overflow (one page) ≡ true

-- how many bytes are still to come at a page: none where it has no place, else those past the cell, less one body for
-- each page before it, cut off at 0
abbrev pub IsLeft : (ℕ → Option Target) → ℕ → ℕ → Option ℕ → Type 0
IsLeft one body page None = (place rest : ℕ) → IsPlaced one page place rest → ⊥
IsLeft one body page (Some left) = (place : ℕ) × (rest : ℕ) × IsPlaced one page place rest × (left ≡ rest - (place - 1) * body)

-- the number of a page by the one before it: all past the cell where its reference comes from a cell, else one body less
-- than at the page that it comes from
abbrev pub number_by : ℕ → Source → ℕ → Option ℕ → Option ℕ
number_by body Root rest before = None
number_by body (Cell page cell) rest before = Some rest
number_by body (Page page) rest before = option_map (λ left. left - body) before

abbrev pub number_of : ℕ → Option Target → Option ℕ → Option ℕ
number_of body None before = None
number_of body (Some target) before = number_by body target.source target.rest before
