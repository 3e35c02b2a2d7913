use Rattle.sx_spill.proofs.SpillLemmas.{none_past_most, none_past_reach}
use Rattle.sx_spill.proofs.spill.Spill.complete_from.Goals as goal

pub returns-then-need-from-clause-payload : goal.returns-then-need-from-clause-payload
returns-then-need-from-clause-payload c =
    none_past_most c.self.inside.pages c.args.self.now c.args.local.now c.args.link c.args.left c.usable.result c.need_of-need.result c.most.result c.from.result
    c.self.view_is c.usable.ensures.usable c.need_of-need.ensures.value c.most.ensures c.from.ensures c.if-need-from.true

pub returns-then-need-from-2-clause-payload : goal.returns-then-need-from-2-clause-payload
returns-then-need-from-2-clause-payload c =
    none_past_reach c.self.inside.pages c.args.self.now c.args.local.now c.args.link c.args.left c.usable.result c.need_of-need.result c.in_ok-reach.reach c.from-2.result
    c.self.view_is c.usable.ensures.usable c.need_of-need.ensures.value c.in_ok-reach.ensures.len c.from-2.ensures c.if-need-from-2.true
