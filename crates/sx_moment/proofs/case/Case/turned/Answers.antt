use Rattle.sx_moment.proofs.Turned.{turned_is}
use Rattle.sx_moment.proofs.case.Case.turned.Goals as goal

pub returns : goal.returns
returns c =
    turned_is c.args.self.now c.args.k c.in_ok-pages.pages.items c.sort_unstable.new.self.items c.dedup.new.self.items
    c.in_ok-pages.ensures c.sort_unstable.ensures.permutation c.sort_unstable.ensures.sorted c.dedup.ensures.filtered
