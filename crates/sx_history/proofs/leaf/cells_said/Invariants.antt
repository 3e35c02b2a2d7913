use Rattle.std.proofs.Common.{◌≡◌, ℕ, ◌+◌, ◌++◌, ◌<◌, ◌≤◌}
use Rattle.sx_node.specs.Nodes.{cell_in}
use Rattle.sx_history.specs.Given.{faults_by, items_by}
use Rattle.sx_history.specs.Leaves.{IsLocal, leaf_faults, leaf_found}
use Rattle.sx_history.proofs.leaf.cells_said.Given as goal

abbrev pub invariant-loop-index : goal.invariant-loop-index
invariant-loop-index l = record {
  found : items_by l.history ++ leaf_found l.rowid l.node l.index ≡ leaf_found l.rowid l.node 0;
  faults : faults_by l.history + leaf_faults l.node l.index ≡ leaf_faults l.node 0;
  few : faults_by l.history ≤ l.index;
  local : (i : ℕ) → i < l.index → IsLocal (cell_in l.node i);
}
