use Rattle.std.proofs.Common.{nat_eq, sym, ap, ◌∙◌}
use Rattle.std.specs.Map.{lookup}
use Rattle.std.specs.Ordering.{nat_cmp}
use Rattle.std.specs.BTreeMap.{get}
use Rattle.sx_tree.proofs.Entries.{entry_is_mark}
use Rattle.sx_tree.proofs.table.Table.named_again.Goals as goal

pub returns : goal.returns
returns c =
    c.copied.ensures
    ∙ c.get.ensures.value
    ∙ sym (entry_is_mark (get nat_cmp c.self.inside.again) c.self.inside.order.items c.args.no c.self.invariant)
    ∙ ap (lookup (nat_eq c.args.no)) c.self.view_is
