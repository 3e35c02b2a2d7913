-- The pages that a moment of the evidence holds. Pages are numbered from 1 ("Pages"); a page has a view where the
-- evidence holds its bytes.
use Rattle.std.specs.Prelude.{ℕ, List, Option, is_some, filter, find, nat_lt}
use Rattle.std.specs.List.{range_with_len}

-- the pages up to a size that have a view, in rising order
unfoldable pub held_pages : ℕ → (ℕ → Option (List ℕ)) → List ℕ
held_pages size view = filter (λ number. is_some (view number)) (range_with_len 1 size)

-- the least of them above a number, if there is one
unfoldable pub held_after : ℕ → (ℕ → Option (List ℕ)) → ℕ → Option ℕ
held_after size view after = find (nat_lt after) (held_pages size view)
