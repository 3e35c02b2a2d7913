use Rattle.std.proofs.Common.{◌≡◌, ◌+◌, ◌-◌, ◌++◌}
use Rattle.std.specs.List.{filter, range_with_len}
use Rattle.sx_generations.specs.Older.{has_size}
use Rattle.sx_generations.proofs.listing.list_commits.Given as goal

abbrev pub invariant-loop-i : goal.invariant-loop-i
invariant-loop-i l =
    l.commits.items ≡ l.initial.commits.items ++ filter (has_size l.frames.page_size l.frames.bytes.now) (range_with_len (l.fn.streak.first + 1) (l.i - (l.fn.streak.first + 1)))
