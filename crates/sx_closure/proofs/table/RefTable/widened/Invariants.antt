use Rattle.std.proofs.Common.{◌≡◌, map, take}
use Rattle.sx_closure.specs.Tallying.{rank_of, entry_by_rank, number_at}
use Rattle.sx_closure.proofs.table.RefTable.widened.Given as goal

abbrev pub invariant-loop-number : goal.invariant-loop-number
invariant-loop-number l = record {
  entries : l.entries.items ≡ map (λ page. entry_by_rank l.self.entries (rank_of l.self.held page)) (take l.number-index l.numbers);
  lefts : l.lefts.items ≡ map (λ page. number_at l.self page) (take l.number-index l.numbers);
}
