use Rattle.std.proofs.Common.{◌≡◌, ◌+◌, length, drop}
use Rattle.sx_moment.specs.Firsts.{below, taken}
use Rattle.sx_moment.proofs.first_images.FirstImages.count_taken.Given as goal

-- those so far are counted
abbrev pub invariant-loop-i : goal.invariant-loop-i
invariant-loop-i l = l.count + length (taken (below l.bound) l.size (drop l.i l.self-inside.items.items)) ≡ length (taken (below l.bound) l.size l.self-inside.items.items)
