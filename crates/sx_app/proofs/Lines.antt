-- The text of one line.
use Rattle.std.proofs.Common.{◌≡◌, ℕ, List, [], ◌∷◌, ◌++◌, sym, append-nil}
use Rattle.sx_lines.specs.Lines.{text_of}

pub one_line : (line : List ℕ) → line ++ 10 ∷ [] ≡ text_of (line ∷ [])
one_line line = sym (append-nil (line ++ 10 ∷ []))
