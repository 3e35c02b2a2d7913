use Rattle.std.proofs.Common.{◌≡◌, ◌++◌}
use Rattle.sx_moment.specs.Images.{is_past}
use Rattle.sx_moment.specs.Gathering.{images_of}
use Rattle.sx_moment.proofs.gathering.past_of_records.Given as goal

-- what is kept of the entries so far, and of those to come
abbrev pub invariant-loop-page : goal.invariant-loop-page
invariant-loop-page l = l.items.items ++ images_of (is_past l.lock l.count) l.page-iterator ≡ images_of (is_past l.lock l.count) l.found.entries
