-- Texts: lists of lines, and their bytes.
use Rattle.std.specs.Prelude.{◌≡◌, ℕ, ◌<◌, ◌≤◌, Bool, true, false, List, [], ◌∷◌, ◌++◌, length, take, Option}
use Rattle.std.specs.List.{flat_map}
use Rattle.std.specs.Io.KnownBytes.{Appends}

-- a line with its end, a line feed
abbrev pub ended : List ℕ → List ℕ
ended line = line ++ 10 ∷ []

-- the bytes of lines, each with its end
abbrev pub text_of : List (List ℕ) → List ℕ
text_of lines = flat_map ended lines

-- some front of the text was appended, or the whole
abbrev pub AppendsSome : Option (List ℕ) → Option (List ℕ) → List ℕ → Type 0
AppendsSome old new text = (n : ℕ) × (n ≤ length text) × Appends old new (take n text)

-- of the lines to come the first was taken, with its end, or there was none
abbrev pub IsNextLine : List (List ℕ) → List (List ℕ) → List ℕ → Bool → Type 0
IsNextLine old new line true = (first : List ℕ) × (old ≡ first ∷ new) × (line ≡ ended first)
IsNextLine old new line false = old ≡ []

-- the next lines were put into a piece, with their ends: some of them where more may come, else all that were left
abbrev pub IsNextPiece : List (List ℕ) → List (List ℕ) → List ℕ → Bool → Type 0
IsNextPiece old new piece true = (text_of old ≡ piece ++ text_of new) × (length new < length old)
IsNextPiece old new piece false = text_of old ≡ piece
