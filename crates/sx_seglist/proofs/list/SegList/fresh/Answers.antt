use Rattle.sx_seglist.proofs.Counting.{fresh_list, fresh_length, fresh_counted}
use Rattle.sx_seglist.proofs.list.SegList.fresh.Goals as goal

pub invariant_of-result : goal.invariant_of-result
invariant_of-result c = fresh_list c.args.len c.in_ok-items.items.items c.in_ok-items.ensures.items c.requires.some c.requires.page

pub returns-clause-len : goal.returns-clause-len
returns-clause-len c = fresh_length c.args.len c.in_ok-items.items.items c.in_ok-items.ensures.items

pub returns-clause-none : goal.returns-clause-none
returns-clause-none c = fresh_counted c.args.len c.in_ok-items.items.items c.in_ok-items.ensures.items c.requires.some
