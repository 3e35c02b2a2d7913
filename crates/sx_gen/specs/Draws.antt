-- The draws of a drill: one stream of numbers from a seed. The letters of all rows are drawn first, row after row, and
-- then for each commit the leaf that it takes. Draws, rows, leaves and commits are numbered from 0.
use Rattle.std.specs.Prelude.{ℕ, zero, suc, ◌+◌, ◌*◌, ◌/◌, ◌%◌, ◌^◌, if◌then◌else◌, nat_lt, List, map}
use Rattle.std.specs.List.{range_with_len}

-- the state behind a state: a linear congruence modulo 2^64
abbrev pub next_state : ℕ → ℕ
next_state state = (state * 6364136223846793005 + 1442695040888963407) % 2 ^ 64

-- the state after so many draws
unfoldable pub state_after : ℕ → ℕ → ℕ
state_after state zero = state
state_after state (suc n) = next_state (state_after state n)

-- draw k from a state on: the upper 31 bits of the state behind it
abbrev pub draw : ℕ → ℕ → ℕ
draw state k = state_after state (k + 1) / 2 ^ 33

-- how many letters a row has: 4 large ones, its number, and 8 small ones, its text
abbrev pub letters_of_row : ℕ
letters_of_row = 12

-- the letter that begins the alphabet which letter k is of
abbrev pub first_letter : ℕ → ℕ
first_letter k = if nat_lt (k % letters_of_row) 4 then 65 else 97

-- letter k: by draw k, one of 26
abbrev pub letter : ℕ → ℕ → ℕ
letter state k = first_letter k + draw state k % 26

-- the letters of so many rows, one draw each
unfoldable pub letters : ℕ → ℕ → List ℕ
letters state rows = map (letter state) (range_with_len 0 (letters_of_row * rows))

-- the leaf that commit k takes
abbrev pub taken_leaf : ℕ → ℕ → ℕ → ℕ
taken_leaf state leaves k = draw state k % leaves

-- the leaves that the commits take, one draw each
unfoldable pub taken_leaves : ℕ → ℕ → ℕ → List ℕ
taken_leaves state leaves commits = map (taken_leaf state leaves) (range_with_len 0 commits)
