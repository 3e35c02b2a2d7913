use Rattle.std.proofs.Common.{◌≡◌, drop}
use Rattle.sx_ddl.specs.Items.{has_key}
use Rattle.sx_ddl.proofs.column.has_key.Given as goal

-- no key stands before
abbrev pub invariant-loop-place : goal.invariant-loop-place
invariant-loop-place l = has_key l.kinds ≡ has_key (drop l.place l.kinds)
