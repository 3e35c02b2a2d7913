use Rattle.std.proofs.Common.{◌≡◌, ℕ, ◌&&◌, is_some}
use Rattle.std.specs.Ordering.{nat_cmp}
use Rattle.std.specs.BTreeMap.{get}
use Rattle.sx_moment.specs.Gathered.{page_count}
use Rattle.sx_moment.specs.Views.{lock_in}
use Rattle.sx_moment.specs.Marks.{is_same}
use Rattle.sx_moment.specs.Images.{is_in_file}
use Rattle.sx_base.proofs.Places.{some_place}
use Rattle.sx_moment.proofs.gathering.same_slots.Given as goal

-- a page is marked where one of the slots so far is the same
abbrev pub invariant-loop-i : goal.invariant-loop-i
invariant-loop-i l = (number : ℕ) → is_some (get nat_cmp l.found number) ≡ (is_in_file (lock_in l.sources) (page_count l.sources) number && some_place (is_same l.sources number) l.i)
