-- One set has the places of the span besides, or nothing changes.
use Rattle.std.proofs.Common.{◌+◌}
use Rattle.sx_owned.proofs.Tables.{on_ok, owns, stays_within, table_kept}
use Rattle.sx_owned.proofs.owned.OwnedRuns.add.Goals as goal

pub invariant_of-self : goal.invariant_of-self
invariant_of-self c =
    table_kept c.self.inside.page_size c.self.inside.owned.items c.self.inside.blocks.items c.args.image c.index_mut-places.result.now c.add.new.self
    (rw (← c.self.view_is) at c.requires.image) c.index_mut-places.ensures.value
    (λ within. stays_within c.add.result c.index_mut-places.result.now c.add.new.self (record { start = c.args.span.start; end = c.args.span.start + c.args.span.len }) c.self.inside.page_size
    c.add.ensures.ok c.add.ensures.err within (rw (← c.self.view_is) at c.requires.within))
    c.self.invariant

pub returns-clause-ok : goal.returns-clause-ok
returns-clause-ok c =
    on_ok c.add.result
    (λ more. rw (← c.self.view_is)
    (owns c.self.inside.page_size c.self.inside.owned.items c.self.inside.blocks.items c.args.image c.index_mut-places.result.now c.add.new.self c.args.span
    (rw (← c.self.view_is) at c.requires.image) c.index_mut-places.ensures.value more))
    c.add.ensures.ok
