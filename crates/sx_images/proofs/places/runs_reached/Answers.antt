use Rattle.std.proofs.Common.{nat_le, rules}
use Rattle.std.proofs.lemmas.List.Sorted.{IsPartitionPoint-from_clause, IsPartitionedBy-leb}
use Rattle.sx_images.proofs.Journals.{heads_ordered, is_reached}
use Rattle.sx_images.proofs.places.runs_reached.Goals as goal

pub returns-clause-searched : goal.returns-clause-searched
returns-clause-searched c =
    let parted = IsPartitionedBy-leb (λ run. run.head) c.args.runs.now c.args.offset (heads_ordered 0 c.args.runs.now c.requires) in
    is_reached c.args.offset c.args.runs.now c.partition_point.result c.partition_point.ensures.bound
    (IsPartitionPoint-from_clause (λ run. nat_le run.head c.args.offset) _ _ c.partition_point.ensures.partitioned parted (λ a r q k. search rules))
