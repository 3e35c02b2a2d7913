-- The first and the last place below a bound that pass a test. Places count from 0.
use Rattle.std.specs.Prelude.{ℕ, Bool, List, [], ◌∷◌, Option, None, Some, filter}
use Rattle.std.specs.List.{range_with_len, last_or}

-- the first of a list, if there is one
abbrev pub first_of : List ℕ → Option ℕ
first_of [] = None
first_of (x ∷ xs) = Some x

-- the least place below a bound that passes a test, if there is one: the first that a filter of all places keeps
unfoldable pub first_place : (ℕ → Bool) → ℕ → Option ℕ
first_place test bound = first_of (filter test (range_with_len 0 bound))

-- the greatest, if there is one: the last that a filter of all places keeps
unfoldable pub last_place : (ℕ → Bool) → ℕ → Option ℕ
last_place test bound = last_or None (filter test (range_with_len 0 bound))
