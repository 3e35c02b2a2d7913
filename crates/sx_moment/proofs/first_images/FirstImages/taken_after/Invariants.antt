use Rattle.std.proofs.Common.{◌≡◌, drop, find, nat_lt}
use Rattle.sx_moment.specs.Firsts.{below, taken}
use Rattle.sx_base.specs.Places.{first_of}
use Rattle.sx_moment.proofs.first_images.FirstImages.taken_after.Given as goal

-- the page is the first of those to come
abbrev pub invariant-loop-i : goal.invariant-loop-i
invariant-loop-i l = find (nat_lt l.fn.after) (taken (below l.bound) l.size l.self-inside.items.items) ≡ first_of (taken (below l.bound) l.size (drop l.i l.self-inside.items.items))
