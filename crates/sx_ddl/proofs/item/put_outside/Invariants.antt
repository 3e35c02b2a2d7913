use Rattle.std.proofs.Common.{◌≡◌, ◌≤◌, ◌++◌, drop}
use Rattle.sx_ddl.specs.Items.{outside}
use Rattle.sx_ddl.proofs.item.put_outside.Given as goal

-- what the buffer holds stands before the rest
abbrev pub invariant-loop-place : goal.invariant-loop-place
invariant-loop-place l = (l.depth ≤ l.place) × (outside 0 l.tokens ≡ l.kinds.items ++ outside l.depth (drop l.place l.tokens))
