use Rattle.std.proofs.Common.{◌≡◌, ◌≤◌, take}
use Rattle.sx_timeline_text.specs.Rest.{tally_of}
use Rattle.sx_timeline_text.proofs.tally.count_classes.Given as goal

-- the slots so far are counted, and each count is at most their number
abbrev pub invariant-loop-i : goal.invariant-loop-i
invariant-loop-i l = record {
  counted : l.tally ≡ tally_of (take l.i l.wal.slots);
  committed : l.tally.committed ≤ l.i;
  pending : l.tally.pending ≤ l.i;
  foreign : l.tally.foreign ≤ l.i;
  broken : l.tally.broken ≤ l.i;
}
