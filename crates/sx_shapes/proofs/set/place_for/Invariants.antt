use Rattle.std.proofs.Common.{◌≡◌, ℕ, ◌-◌, ◌<◌, ◌≤◌, true, length, get_or}
use Rattle.sx_shapes.specs.Shapes.{is_before}
use Rattle.sx_shapes.proofs.set.place_for.Given as goal

abbrev pub invariant-loop-at : goal.invariant-loop-at
invariant-loop-at l = record {
  within : l.at ≤ length l.shapes;
  before : (k : ℕ) → k < l.at → is_before (get_or l.shapes k l.shape) l.shape ≡ true;
}

abbrev pub decreases-loop-at : goal.decreases-loop-at
decreases-loop-at l = length l.shapes - l.at
