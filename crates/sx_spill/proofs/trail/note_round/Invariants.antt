use Rattle.std.proofs.Common.{◌≡◌, ℕ, if◌then◌else◌, Some, nat_eq, take}
use Rattle.std.specs.List.{list_any}
use Rattle.std.specs.Ordering.{nat_cmp}
use Rattle.std.specs.BTreeMap.{get}
use Rattle.sx_spill.proofs.trail.note_round.Given as goal

abbrev pub invariant-loop-number : goal.invariant-loop-number
invariant-loop-number l =
    (q : ℕ) → get nat_cmp l.known q ≡ (if list_any (nat_eq q) (take l.number-index l.round) then Some l.len else get nat_cmp l.fn.known q)
