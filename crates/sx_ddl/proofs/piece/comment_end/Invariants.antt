use Rattle.std.proofs.Common.{◌≡◌, drop, false}
use Rattle.sx_ddl.specs.Tokens.{comment_end}
use Rattle.sx_ddl.proofs.piece.comment_end.Given as goal

-- the comment ends where it ends from here on
abbrev pub invariant-loop-at : goal.invariant-loop-at
invariant-loop-at l = comment_end false 2 (drop 2 l.text) ≡ comment_end l.starred l.at (drop l.at l.text)
