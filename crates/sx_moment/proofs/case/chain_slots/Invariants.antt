use Rattle.std.proofs.Common.{◌≡◌, take, length}
use Rattle.sx_moment.specs.Views.{slot_pages}
use Rattle.sx_moment.proofs.case.chain_slots.Given as goal

-- the pages of the slots so far
abbrev pub invariant-loop-i : goal.invariant-loop-i
invariant-loop-i l = record {
  same : l.pages.items ≡ take l.i (slot_pages l.sources);
  long : length l.pages.items ≡ l.i;
}
