use Rattle.std.proofs.Common.{◌≡◌, ◌-◌, ◌≤◌, map}
use Rattle.std.specs.List.{range_with_len}
use Rattle.sx_moment.specs.Gathered.{slot_at}
use Rattle.sx_moment.proofs.turns.slot_numbers.Given as goal

-- the pages of the slots up to the one in hand stand there
abbrev pub invariant-loop-i : goal.invariant-loop-i
invariant-loop-i l = record {
  order : l.from ≤ l.i;
  same : l.pages.items ≡ map (λ j. (slot_at l.sources j).page) (range_with_len l.from (l.i - l.from));
}
