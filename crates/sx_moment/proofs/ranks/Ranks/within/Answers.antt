use Rattle.std.proofs.Common.{◌≡◌, ◌<◌, length, nat_le, sym, subst, ap, ◌∙◌, arith, rules}
use Rattle.std.specs.List.Sorted.{IsStrictlyIncreasing}
use Rattle.std.proofs.lemmas.List.Sorted.{IsPartitionPoint-from_clause, IsPartitionedBy-leb}
use Rattle.sx_moment.proofs.Numbered.{rises_ordered, searched_within}
use Rattle.sx_moment.proofs.ranks.Ranks.within.Goals as goal

pub returns-clause-within : goal.returns-clause-within
returns-clause-within c rank below =
    let same : c.deref.result.now ≡ c.args.self.now = c.deref.ensures.value ∙ c.self.view_is in
    let rising : IsStrictlyIncreasing c.deref.result.now = subst IsStrictlyIncreasing (sym c.deref.ensures.value) c.self.invariant.rising in
    let parted = IsPartitionedBy-leb (λ x. x) c.deref.result.now c.args.size (rises_ordered c.deref.result.now rising) in
    let searched = IsPartitionPoint-from_clause (λ x. nat_le x c.args.size) _ _ c.partition_point.ensures.partitioned parted (λ a r q k. search rules) in
    let inside : rank < length c.deref.result.now = omega (arith, below, ap length same) in
    rw (← same) (searched_within c.deref.result.now c.args.size c.partition_point.result rank searched inside)
