use Rattle.std.proofs.Common.{◌+◌}
use Rattle.sx_seglist.proofs.Counting.{counts_none, counted_from, within_is}
use Rattle.sx_seglist.proofs.list.SegList.claim.Goals as goal

pub returns-then-span-eq0-clause-ok : goal.returns-then-span-eq0-clause-ok
returns-then-span-eq0-clause-ok c = counts_none c.args.self.now c.args.span c.args.label c.if-span-eq0.true

pub claim_bytes-self-inside-requires-clause-within : goal.claim_bytes-self-inside-requires-clause-within
claim_bytes-self-inside-requires-clause-within c =
    within_is c.self.inside.items.items c.reserve.new.self.items (c.args.span.start + c.args.span.len) c.reserve.ensures.items (rw (← c.self.view_is) at c.requires)

pub returns-clause-ok : goal.returns-clause-ok
returns-clause-ok c =
    rw (← c.self.view_is)
    (counted_from c.self.inside.items.items c.reserve.new.self.items c.claim_bytes-self-inside.new.items.items c.args.span c.args.label c.reserve.ensures.items c.claim_bytes-self-inside.ensures.claimed)
