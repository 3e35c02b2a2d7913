use Rattle.std.proofs.Common.{◌+◌, ◌++◌, ◌∙◌, drop, length, take, refl, arith}
use Rattle.sx_seglist.proofs.Loops.{IsDone, claim_finished}
use Rattle.sx_seglist.proofs.list.claim_bytes.Goals as goal

pub overflow_add-end : goal.overflow_add-end
overflow_add-end c = let page = c.requires.list.page in let within = c.requires.within in omega arith

done : (c : goal.After-items-2-1)
    → IsDone c.args.items.now.items (take c.cut.new.items.len (c.join.new.items ++ drop (length c.join.new.items) (take c.cut.new.items.len (c.raise.new.items ++ drop (length c.raise.new.items) c.cut.new.items.items))))
    c.holder_of-holder.result c.args.span c.args.label
done c =
    claim_finished c.args.items.now.items c.deref.result.now c.cut-first.new.items.items c.cut.new.items.items c.deref_mut.result.now c.raise.new.items c.deref_mut-2.result.now c.join.new.items
    (drop (length c.raise.new.items) c.cut.new.items.items) (drop (length c.join.new.items) (take c.cut.new.items.len (c.raise.new.items ++ drop (length c.raise.new.items) c.cut.new.items.items)))
    c.args.from c.holder_of-holder.result c.cut-first.result c.cut.result c.saturating_sub.result c.args.span.start (c.args.span.start + c.args.span.len) c.cut.new.items.len
    c.args.span c.args.label refl refl (let some = c.requires.some in omega arith) c.requires.list c.deref.ensures.value c.saturating_sub.ensures c.holder_of-holder.ensures
    c.cut-first.ensures.cut c.cut.ensures.cut c.deref_mut.ensures.value c.deref_mut-2.ensures.value (c.raise.auto.items ∙ c.deref_mut.ensures.len) (c.join.auto.items ∙ c.deref_mut-2.ensures.len)
    c.raise.ensures c.join.ensures

pub returns-clause-list : goal.returns-clause-list
returns-clause-list c = (done c).list

pub returns-clause-claimed : goal.returns-clause-claimed
returns-clause-claimed c = (done c).claimed
