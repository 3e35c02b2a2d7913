use Rattle.std.proofs.Common.{◌≡◌, ◌+◌, ◌-◌, ◌≤◌, ◌++◌, length}
use Rattle.sx_spill.specs.Unused.{unused_by}
use Rattle.sx_spill.proofs.GatherLemmas.{rest_of}
use Rattle.sx_spill.proofs.spill.gather.Given as goal

abbrev pub invariant-loop : goal.invariant-loop
invariant-loop l = record {
  joined : l.bytes.items ++ rest_of (unused_by l.pages) l.at l.left (l.need - l.counter) ≡ l.fn.local ++ rest_of (unused_by l.pages) l.link l.fn.left l.need;
  few : length l.bytes.items + l.left ≤ length l.fn.local + l.fn.left;
}
