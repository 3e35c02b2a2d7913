use Rattle.std.proofs.Common.{◌≡◌, ◌<◌, length, drop, slice_index}
use Rattle.sx_moment.specs.Firsts.{below, taken}
use Rattle.sx_moment.proofs.first_images.FirstImages.taken_at.Given as goal

-- the page at the place is so far on among those to come
abbrev pub invariant-loop-i : goal.invariant-loop-i
invariant-loop-i l = record {
  left : l.left < length (taken (below l.bound) l.size (drop l.i l.self-inside.items.items));
  same : slice_index (taken (below l.bound) l.size (drop l.i l.self-inside.items.items)) l.left ≡ slice_index (taken (below l.bound) l.size l.self-inside.items.items) l.place;
}
