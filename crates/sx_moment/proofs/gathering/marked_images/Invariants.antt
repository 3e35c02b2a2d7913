use Rattle.std.proofs.Common.{◌≡◌, take, map, length}
use Rattle.sx_base.specs.Places.{first_place}
use Rattle.sx_chain.specs.Newest.{has_number}
use Rattle.sx_moment.specs.Gathering.{firsts_of}
use Rattle.sx_moment.proofs.gathering.marked_images.Given as goal

-- those of the pages so far
abbrev pub invariant-loop-i : goal.invariant-loop-i
invariant-loop-i l = l.items.items ≡ firsts_of (λ number. first_place (has_number l.frames number) (length l.frames)) (take l.i (map (λ image. image.page) l.same))
