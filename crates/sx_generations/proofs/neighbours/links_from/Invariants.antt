use Rattle.std.proofs.Common.{◌≡◌, ℕ, ◌-◌, ◌≤◌, ◌<◌, true}
use Rattle.sx_generations.specs.Neighbours.{is_followed}
use Rattle.sx_generations.proofs.neighbours.links_from.Given as goal

abbrev pub invariant-loop-at : goal.invariant-loop-at
invariant-loop-at g l = record {
  from : l.first ≤ l.at;
  below : l.at < g.N.Neighbours.places l.row;
  each : (k : ℕ) → l.first ≤ k → k < l.at → is_followed (g.N.Neighbours.joined l.row) (g.N.Neighbours.places l.row) k ≡ true;
}

abbrev pub decreases-loop-at : goal.decreases-loop-at
decreases-loop-at g l = g.N.Neighbours.places l.row - l.at
