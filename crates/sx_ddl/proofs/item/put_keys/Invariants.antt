use Rattle.std.proofs.Common.{◌≡◌, ◌≤◌, ◌++◌, drop}
use Rattle.sx_ddl.specs.Items.{keys_of}
use Rattle.sx_ddl.proofs.item.put_keys.Given as goal

-- the keys so far stand before the rest
abbrev pub invariant-loop-place : goal.invariant-loop-place
invariant-loop-place l = (l.depth ≤ l.place) × (l.initial.keys.items ++ keys_of 0 l.tokens ≡ l.keys.items ++ keys_of l.depth (drop l.place l.tokens))
