use Rattle.std.proofs.Common.{◌≡◌, length}
use Rattle.sx_ddl.specs.Items.{items_from, found_by}
use Rattle.sx_ddl.proofs.items.Items.read.Given as goal

-- the items are those that are read from here on
abbrev pub invariant-loop-rest : goal.invariant-loop-rest
invariant-loop-rest l = items_from l.end 0 (found_by l.initial.self) l.tokens ≡ items_from l.end 0 (found_by l.self) l.rest

abbrev pub decreases-loop-rest : goal.decreases-loop-rest
decreases-loop-rest l = length l.rest
