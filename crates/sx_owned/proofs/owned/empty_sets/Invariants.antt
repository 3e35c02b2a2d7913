use Rattle.std.proofs.Common.{◌≡◌, List, [], length}
use Rattle.std.specs.Prelude.{All}
use Rattle.sx_owned.specs.declared.run.Run.{Run}
use Rattle.sx_owned.proofs.owned.empty_sets.Given as goal

abbrev pub invariant-loop : goal.invariant-loop
invariant-loop l = record {
  count : length l.sets.items ≡ l.counter;
  none : All (λ (places : List Run). places ≡ []) l.sets.items;
}
