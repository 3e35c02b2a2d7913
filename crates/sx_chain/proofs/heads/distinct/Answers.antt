use Rattle.std.proofs.Common.{◌≡◌, subst}
use Rattle.std.specs.List.Sorted.{IsPermutation}
use Rattle.sx_chain.proofs.Linked.{distinct_is}
use Rattle.sx_chain.proofs.heads.distinct.Goals as goal

pub returns : goal.returns
returns c =
    let copied : c.in_ok-distinct.distinct.items ≡ c.args.numbers.now = c.in_ok-distinct.ensures.items_if_clones_equal (λ x y h. h) in
    distinct_is c.args.numbers.now c.sort_unstable.new.self.items c.dedup.new.self.items
    (subst (λ l. IsPermutation l c.sort_unstable.new.self.items) copied c.sort_unstable.ensures.permutation)
    c.sort_unstable.ensures.sorted c.dedup.ensures.filtered
