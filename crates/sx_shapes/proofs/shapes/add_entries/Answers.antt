use Rattle.sx_schema.specs.GivenEntries.{all_by}
use Rattle.sx_shapes.specs.Shapes.{with_entries}
use Rattle.sx_shapes.proofs.ShapeLemmas.{entries_step, entries_end}
use Rattle.sx_shapes.proofs.shapes.add_entries.Goals as goal

pub loop-place-preserved : goal.loop-place-preserved
loop-place-preserved c =
    entries_step (with_entries c.args.shapes.now.items (all_by c.args.entries.now)) c.loop-place.shapes.items c.add_entry.new.shapes.items c.args.entries.now c.loop-place.place c.index-entries-place.result
    c.loop-place-test.true c.index-entries-place.is c.loop-place.invariant c.in_ok-add_entry.ensures

pub returns : goal.returns
returns c =
    entries_end (with_entries c.args.shapes.now.items (all_by c.args.entries.now)) c.loop-place.shapes.items c.args.entries.now c.loop-place.place c.loop-place-test.false c.loop-place.invariant
