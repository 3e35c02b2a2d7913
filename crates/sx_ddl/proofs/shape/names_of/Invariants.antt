use Rattle.std.proofs.Common.{◌≡◌, map, take}
use Rattle.sx_ddl.specs.Shapes.{name_in}
use Rattle.sx_ddl.proofs.shape.names_of.Given as goal

-- the names of the columns so far
abbrev pub invariant-loop-column : goal.invariant-loop-column
invariant-loop-column l = map (λ name. name.items) l.names.items ≡ map (λ column. name_in l.text column.name) (take l.column-index l.columns)
