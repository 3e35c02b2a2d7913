use Rattle.std.proofs.Common.{◌≡◌, ◌++◌, drop, false}
use Rattle.sx_ddl.specs.Shapes.{undoubled}
use Rattle.sx_ddl.proofs.names.undoubled.Given as goal

-- the name so far stands before the rest
abbrev pub invariant-loop-place : goal.invariant-loop-place
invariant-loop-place l = undoubled l.mark false l.bytes ≡ l.name.items ++ undoubled l.mark l.marked (drop l.place l.bytes)
