use Rattle.std.proofs.Common.{◌≡◌, ◌++◌, drop}
use Rattle.sx_schema.specs.Entries.{roots_of}
use Rattle.sx_schema.specs.GivenEntries.{all_by}
use Rattle.sx_schema.proofs.listing.roots_of.Given as goal

abbrev pub invariant-loop-place : goal.invariant-loop-place
invariant-loop-place l = l.roots.items ++ roots_of (all_by (drop l.place l.entries)) ≡ roots_of (all_by l.entries)
