-- The serial types at the front of a header, each with how many bytes its spelling has ("Record Format").
use Rattle.std.specs.Prelude.{ℕ, zero, suc, List, [], ◌∷◌, length, drop, Option, Some, None}
use Rattle.sx_bytes.specs.Varints.{varint_at, BeginsWith, EndsInside}

-- a type was found, and those behind its spelling follow it
abbrev pub spelled_first : Option (ℕ × ℕ) → (ℕ → List (ℕ × ℕ)) → List (ℕ × ℕ)
spelled_first None behind = []
spelled_first (Some found) behind = found ∷ behind found.1

-- the types in at most so many bytes: the one at the front, and those behind its spelling
unfoldable pub spelled_within : ℕ → List ℕ → List (ℕ × ℕ)
spelled_within zero bytes = []
spelled_within (suc most) bytes = spelled_first (varint_at bytes) (λ len. spelled_within most (drop len bytes))

-- the types that stand one after the other, up to the first that doesn't end by the end of the bytes
unfoldable pub spelled_types : List ℕ → List (ℕ × ℕ)
spelled_types bytes = spelled_within (length bytes) bytes

-- the bytes spell these types one after the other, each in so many bytes, and end inside a number behind them
abbrev pub AreSpelled : List (ℕ × ℕ) → List ℕ → Type 0
AreSpelled [] bytes = EndsInside bytes
AreSpelled (found ∷ others) bytes = BeginsWith bytes found.0 found.1 × AreSpelled others (drop found.1 bytes)
