use Rattle.std.proofs.Common.{◌≡◌, ◌++◌, map, take}
use Rattle.sx_moment.proofs.ranked.push_pages.Given as goal

-- the pages so far stand behind the others
abbrev pub invariant-loop-i : goal.invariant-loop-i
invariant-loop-i l = l.numbers.items ≡ l.initial.numbers.items ++ map (λ image. image.page) (take l.i l.images)
