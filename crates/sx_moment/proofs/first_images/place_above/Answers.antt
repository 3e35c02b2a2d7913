use Rattle.std.proofs.Common.{nat_le, rules}
use Rattle.std.proofs.lemmas.List.Sorted.{IsPartitionPoint-from_clause, IsPartitionedBy-leb}
use Rattle.sx_moment.proofs.Listed.{rises_ordered}
use Rattle.sx_moment.proofs.first_images.place_above.Goals as goal

pub returns-clause-searched : goal.returns-clause-searched
returns-clause-searched c =
    let parted = IsPartitionedBy-leb (λ image. image.page) _ c.args.page (rises_ordered 1 _ c.requires) in
    IsPartitionPoint-from_clause (λ image. nat_le image.page c.args.page) _ _ c.partition_point.ensures.partitioned parted (λ a r q k. search rules)
