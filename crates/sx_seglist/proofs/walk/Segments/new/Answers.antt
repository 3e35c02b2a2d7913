use Rattle.sx_seglist.proofs.Walking.{linked_first}
use Rattle.sx_seglist.proofs.walk.Segments.new.Goals as goal

pub invariant_of-result : goal.invariant_of-result
invariant_of-result c = linked_first c.args.items.now c.requires
