use Rattle.std.proofs.Common.{◌≡◌, length}
use Rattle.sx_edge.specs.Shelf.{files_of, names_differ}
use Rattle.sx_edge.proofs.shelf.names_differ.Given as goal

abbrev pub invariant-loop-first : goal.invariant-loop-first
invariant-loop-first l = names_differ (files_of l.files) ≡ names_differ (files_of l.rest)

abbrev pub decreases-loop-first : goal.decreases-loop-first
decreases-loop-first l = length l.rest
