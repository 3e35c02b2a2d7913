use Rattle.std.proofs.Common.{◌≡◌, ◌≤◌, drop}
use Rattle.sx_ddl.specs.Items.{item_len}
use Rattle.sx_ddl.proofs.item.item_len.Given as goal

-- the item ends where it ends from here on
abbrev pub invariant-loop-place : goal.invariant-loop-place
invariant-loop-place l = (l.depth ≤ l.place) × (item_len 0 0 l.tokens ≡ item_len l.depth l.place (drop l.place l.tokens))
