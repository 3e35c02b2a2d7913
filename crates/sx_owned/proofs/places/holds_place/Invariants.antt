use Rattle.std.proofs.Common.{◌≡◌, length}
use Rattle.sx_owned.specs.Runs.{Apart, is_owned}
use Rattle.sx_owned.proofs.places.holds_place.Given as goal

abbrev pub invariant-loop-left : goal.invariant-loop-left
invariant-loop-left l = record {
  same : is_owned l.left l.at ≡ is_owned l.runs l.at;
  apart : Apart 0 l.left;
}

abbrev pub decreases-loop-left : goal.decreases-loop-left
decreases-loop-left l = length l.left
