use Rattle.std.proofs.Common.{◌≡◌, ◌++◌}
use Rattle.sx_moment.specs.Gathering.{images_of}
use Rattle.sx_moment.proofs.Images.{is_numbered}
use Rattle.sx_moment.proofs.gathering.numbered_images.Given as goal

-- what is kept of the entries so far, and of those to come
abbrev pub invariant-loop-page : goal.invariant-loop-page
invariant-loop-page l = l.items.items ++ images_of is_numbered l.page-iterator ≡ images_of is_numbered l.found.entries
