use Rattle.sx_generations.specs.Older.{older_run}
use Rattle.sx_generations.proofs.Listings.{Listing}
use Rattle.sx_generations.proofs.listing.list.Given as goal

abbrev pub invariant-loop-streak : goal.invariant-loop-streak
invariant-loop-streak l = Listing (older_run l.frames.page_size l.frames.bytes.now) l.streak-items l.streak-index l.runs.items l.commits.items
