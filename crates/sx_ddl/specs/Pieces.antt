-- Pieces of a text.
use Rattle.std.specs.Prelude.{ℕ, ◌<◌, ◌≤◌}
use Rattle.sx_ddl.specs.declared.piece.Piece.{Piece}
use Rattle.sx_ddl.specs.declared.piece.Piece.TheVariants as pieces

-- a piece isn't empty, and no longer than the text at whose front it stands
abbrev pub IsPart : Piece → ℕ → Type 0
IsPart (pieces.Blank len) most = (0 < len) × (len ≤ most)
IsPart (pieces.Lexeme kind len) most = (0 < len) × (len ≤ most)
IsPart pieces.Unended most = Unit {0}
