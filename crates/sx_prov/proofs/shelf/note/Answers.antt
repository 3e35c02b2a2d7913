use Rattle.std.proofs.Common.{Some, cond, ap, ◌∙◌}
use Rattle.std.specs.Ordering.{nat_cmp}
use Rattle.std.specs.BTreeMap.{get}
use Rattle.sx_prov.proofs.Finding.{same_key}
use Rattle.sx_prov.proofs.shelf.note.Goals as goal

pub returns-clause-ok : goal.returns-clause-ok
returns-clause-ok c = λ other.
    c.in_ok-insert.ensures.updates.0 other
    ∙ ap (λ b. cond b (Some c.args.place) (get nat_cmp c.args.newest.now other)) (same_key c.args.image other)
