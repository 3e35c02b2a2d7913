use Rattle.std.proofs.Common.{refl, ◌∙◌}
use Rattle.sx_tally.proofs.Spans.{raised}
use Rattle.sx_tally.proofs.nodes.raise.Goals as goal

pub raise_above-requires : goal.raise_above-requires
raise_above-requires c = (raised c.args.sums.now c.args.len c.args.place _ c.requires.tallied c.requires.within c.requires.few refl).0

pub returns-clause-raised : goal.returns-clause-raised
returns-clause-raised c =
    c.raise_above.ensures.counts ∙ (raised c.args.sums.now c.args.len c.args.place _ c.requires.tallied c.requires.within c.requires.few refl).1
