use Rattle.std.proofs.Common.{◌≡◌, ◌≤◌, sum}
use Rattle.sx_moment.specs.Counts.{seen_below}
use Rattle.sx_moment.proofs.counts.see_slots.Given as goal

-- the pages whose first slot stands before the one in hand are flagged
abbrev pub invariant-loop-i : goal.invariant-loop-i
invariant-loop-i l = record {
  seen : l.seen ≡ seen_below l.i l.images;
  few : sum l.seen ≤ l.i;
}
