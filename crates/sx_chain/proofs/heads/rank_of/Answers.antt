use Rattle.std.proofs.Common.{Err}
use Rattle.std.proofs.lemmas.List.Sorted.{searched}
use Rattle.sx_chain.proofs.Linked.{rise_upto, not_found}
use Rattle.sx_chain.proofs.heads.rank_of.Goals as goal

pub returns-in-Err-clause-none : goal.returns-in-Err-clause-none
returns-in-Err-clause-none c there =
    let found = searched c.args.distinct.now c.args.number (Err c.in-Err.field-0) c.in-Err.ensures.position (rise_upto c.args.distinct.now c.requires) in
    not_found c.args.distinct.now c.args.number c.in-Err.field-0 found.1 found.2 there
