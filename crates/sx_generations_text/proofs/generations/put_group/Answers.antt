use Rattle.std.proofs.Common.{arith}
use Rattle.sx_generations_text.proofs.LineLemmas.{group_next, groups_end}
use Rattle.sx_generations_text.proofs.generations.put_group.Goals as goal

pub returns-in_ok-put_group_line : goal.returns-in_ok-put_group_line
returns-in_ok-put_group_line c = λ slots runs. group_next slots runs _ _ _ _ c.group.ensures c.in_ok-put_group_line.ensures

pub returns-else-i-groups : goal.returns-else-i-groups
returns-else-i-groups c = λ slots runs. groups_end slots runs c.args.confirmed.now c.args.i (omega arith)
