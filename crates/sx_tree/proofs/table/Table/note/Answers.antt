use Rattle.std.proofs.Common.{cond, true, false, Some, is_some, sym, ap, ◌∙◌}
use Rattle.std.specs.Ordering.{nat_cmp}
use Rattle.std.specs.BTreeMap.{get}
use Rattle.sx_tree.specs.Tables.{with_name, entries_of}
use Rattle.sx_tree.proofs.Entries.{same_page, pushed_is, name_first, name_again}
use Rattle.sx_tree.proofs.table.Table.note.Goals as goal

pub returns-in-None : goal.returns-in-None
returns-in-None c =
    let old = get nat_cmp c.self.inside.again in
    name_first old (get nat_cmp c.insert.new.self) c.args.no c.self.inside.order.items c.push.new.self.items c.self.invariant
    (ap is_some (sym c.in_ok-insert.ensures.old ∙ c.in-None.is))
    (λ p. c.in_ok-insert.ensures.updates.0 p ∙ ap (λ b. cond b (Some false) (old p)) (same_page c.args.no p))
    (pushed_is c.self.inside.order.items c.reserve.new.self.items c.push.new.self.items c.args.no c.push.result c.unwrap.result
    c.in_ok-reserve.ensures.items c.push.ensures.items c.unwrap.ensures)
    ∙ ap (λ table. with_name table c.args.no) c.self.view_is

pub returns-in_ok-insert-in-Some : goal.returns-in_ok-insert-in-Some
returns-in_ok-insert-in-Some c =
    let old = get nat_cmp c.self.inside.again in
    let once = get nat_cmp c.insert.new.self in
    ap (entries_of (get nat_cmp c.insert-in-Some.new.self)) c.in_ok-reserve.ensures.items
    ∙ name_again old once (get nat_cmp c.insert-in-Some.new.self) c.args.no c.self.inside.order.items c.self.invariant
    (ap is_some (sym c.in_ok-insert.ensures.old ∙ c.in-Some.is))
    (λ p. c.in_ok-insert.ensures.updates.0 p ∙ ap (λ b. cond b (Some false) (old p)) (same_page c.args.no p))
    (λ p. c.in_ok-insert-in-Some.ensures.updates.0 p ∙ ap (λ b. cond b (Some true) (once p)) (same_page c.args.no p))
    ∙ ap (λ table. with_name table c.args.no) c.self.view_is
