-- How many bytes of a payload are still to come at a page of an overflow chain ("Cell Payload Overflow Pages").
use Rattle.std.specs.Prelude.{ℕ, zero, suc, if◌then◌else◌, length, Option, None, option_and_then}
use Rattle.sx_closure.specs.declared.pair.Target.{Target}
use Rattle.sx_closure.specs.Graph.{Graph}
use Rattle.sx_closure.specs.Chains.{page_before, number_of, is_overflow, one_reference}

-- the bytes that are still to come at a page, found by going back along its chain over at most so many pages: all past the
-- cell at the first page, and at each later one a body less than at the page before it. None where no cell is found
unfoldable pub left_within : ℕ → (ℕ → Option Target) → ℕ → ℕ → Option ℕ
left_within zero one body page = None
left_within (suc most) one body page = number_of body (one page) (option_and_then (left_within most one body) (page_before (one page)))

-- the bytes that are still to come at a page: a chain has no page twice, so it has at most the held pages
abbrev pub left_in : Graph → ℕ → ℕ → Option ℕ
left_in graph body page = left_within (length graph.held) (one_reference graph) body page

-- where the page is named as an overflow page
abbrev pub left_at_overflow : Graph → ℕ → ℕ → Option ℕ
left_at_overflow graph body page = if is_overflow (one_reference graph page) then left_in graph body page else None
