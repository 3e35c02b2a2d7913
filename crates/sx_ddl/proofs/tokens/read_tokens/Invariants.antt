use Rattle.std.proofs.Common.{◌≡◌, ◌≤◌, ◌-◌, length, drop}
use Rattle.sx_ddl.specs.Tokens.{lexed, lexed_from, with_tokens}
use Rattle.sx_ddl.proofs.tokens.read_tokens.Given as goal

-- the tokens so far stand before those of the rest
abbrev pub invariant-loop-at : goal.invariant-loop-at
invariant-loop-at l = (l.at ≤ length l.text) × (lexed l.text ≡ with_tokens l.tokens.items (lexed_from 0 l.at (drop l.at l.text)))

abbrev pub decreases-loop-at : goal.decreases-loop-at
decreases-loop-at l = length l.text - l.at
