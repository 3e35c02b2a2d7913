use Rattle.std.proofs.Common.{◌≡◌, drop, false}
use Rattle.sx_ddl.specs.Tokens.{quote_end}
use Rattle.sx_ddl.proofs.piece.quote_end.Given as goal

-- the name ends where it ends from here on
abbrev pub invariant-loop-at : goal.invariant-loop-at
invariant-loop-at l = quote_end l.mark false 1 (drop 1 l.text) ≡ quote_end l.mark l.marked l.at (drop l.at l.text)
