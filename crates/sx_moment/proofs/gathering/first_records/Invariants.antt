use Rattle.std.proofs.Common.{◌≡◌, ℕ}
use Rattle.std.specs.Ordering.{nat_cmp}
use Rattle.std.specs.BTreeMap.{get}
use Rattle.sx_base.specs.Places.{first_place}
use Rattle.sx_moment.specs.Views.{is_good_record}
use Rattle.sx_moment.proofs.gathering.first_records.Given as goal

-- the first of the Good records so far
abbrev pub invariant-loop-i : goal.invariant-loop-i
invariant-loop-i l = (number : ℕ) → get nat_cmp l.found number ≡ first_place (is_good_record l.sources number) l.i
