use Rattle.std.proofs.Common.{slice_get, ap, ◌∙◌, arith}
use Rattle.std.specs.Map.{keys_of}
use Rattle.std.specs.Ordering.{nat_cmp}
use Rattle.std.specs.BTreeMap.{get}
use Rattle.sx_tree.proofs.Entries.{page_here, page_past}
use Rattle.sx_tree.proofs.table.Table.page_at.Goals as goal

pub returns-then-place-len : goal.returns-then-place-len
returns-then-place-len c =
    page_here (get nat_cmp c.self.inside.again) c.self.inside.order.items c.args.place c.index.result.now (omega arith) c.index.ensures
    ∙ ap (λ table. slice_get (keys_of table) c.args.place) c.self.view_is

pub returns-else-place-len : goal.returns-else-place-len
returns-else-place-len c =
    page_past (get nat_cmp c.self.inside.again) c.self.inside.order.items c.args.place (omega arith)
    ∙ ap (λ table. slice_get (keys_of table) c.args.place) c.self.view_is
