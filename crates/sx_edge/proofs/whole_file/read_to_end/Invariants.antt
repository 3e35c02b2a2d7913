use Rattle.std.proofs.Common.{◌≡◌, ◌-◌, ◌≤◌, length}
use Rattle.std.specs.Io.KnownBytes.{Consumes}
use Rattle.sx_edge.specs.declared.whole_file.TheConstants.{GREATEST_FILE}
use Rattle.sx_edge.proofs.whole_file.read_to_end.Given as goal

abbrev pub invariant-loop-bytes : goal.invariant-loop-bytes
invariant-loop-bytes g l = record {
  contents : g.S.Store.contents l.store ≡ g.S.Store.contents l.initial.store;
  absent : g.S.Store.absent l.store ≡ g.S.Store.absent l.initial.store;
  given : g.S.Store.given l.store ≡ length l.bytes.items;
  within : length l.bytes.items ≤ GREATEST_FILE;
  consumed : Consumes (g.S.Store.left l.initial.store) (g.S.Store.left l.store) l.bytes.items;
  later : g.S.Store.faults l.initial.store ≤ g.S.Store.faults l.store;
}

abbrev pub decreases-loop-bytes : goal.decreases-loop-bytes
decreases-loop-bytes g l = GREATEST_FILE - length l.bytes.items
