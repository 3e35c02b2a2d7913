-- Chains of pages that name one another, seen by their numbers ("Cell Payload Overflow Pages").
use Rattle.std.specs.Prelude.{ℕ, zero, suc, ◌==◌, Bool, true, not, ◌&&◌, nat_eq, List, [], ◌∷◌, length, Option}
use Rattle.std.specs.List.{list_any}
use Rattle.std.specs.Option.{option_map_or}
use Rattle.sx_base.specs.Bytes.{word_at}

-- the first word of a page, the number of the next one
abbrev pub link_of : List ℕ → ℕ
link_of page = word_at page 0

-- the numbers of so many pages from one on, each later one named by the first word of the page before it, up to the first
-- that isn't there
unfoldable pub trail_of : (ℕ → Option (List ℕ)) → ℕ → ℕ → List ℕ
trail_of view number zero = []
trail_of view number (suc n) = option_map_or (λ page. number ∷ trail_of view (link_of page) n) (view number) []

-- no number stands twice
unfoldable pub are_distinct : List ℕ → Bool
are_distinct [] = true
are_distinct (number ∷ numbers) = not (list_any (nat_eq number) numbers) && are_distinct numbers

-- so many distinct pages follow one another from a number on
unfoldable pub has_chain : (ℕ → Option (List ℕ)) → ℕ → ℕ → Bool
has_chain view number n = (length (trail_of view number n) == n) && are_distinct (trail_of view number n)
