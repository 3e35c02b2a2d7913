use Rattle.std.proofs.Common.{◌≡◌, drop}
use Rattle.std.specs.List.{position_from}
use Rattle.sx_ddl.specs.Shapes.{is_alias}
use Rattle.sx_ddl.proofs.alias.first_alias.Given as goal

-- no column before stands for the rowid
abbrev pub invariant-loop-place : goal.invariant-loop-place
invariant-loop-place l =
    position_from (is_alias l.text l.items.keys.items) 0 l.items.columns.items
    ≡ position_from (is_alias l.text l.items.keys.items) l.place (drop l.place l.items.columns.items)
