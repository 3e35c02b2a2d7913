-- The newest item of a number in a list, below a bound: the last frame of a page that a reader may see
-- ("Database File Format", section "Reader Algorithm"). Places in the list count from 0.
use Rattle.std.specs.Prelude.{ℕ, ◌==◌, Bool, List, slice_index}

-- the item at a place is this number
abbrev pub has_number : List ℕ → ℕ → ℕ → Bool
has_number numbers number place = slice_index numbers place == number
