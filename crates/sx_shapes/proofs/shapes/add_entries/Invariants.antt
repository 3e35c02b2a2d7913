use Rattle.std.proofs.Common.{◌≡◌, drop}
use Rattle.sx_schema.specs.GivenEntries.{all_by}
use Rattle.sx_shapes.specs.Shapes.{with_entries}
use Rattle.sx_shapes.proofs.shapes.add_entries.Given as goal

abbrev pub invariant-loop-place : goal.invariant-loop-place
invariant-loop-place l = with_entries l.fn.shapes.items (all_by l.entries) ≡ with_entries l.shapes.items (drop l.place (all_by l.entries))
