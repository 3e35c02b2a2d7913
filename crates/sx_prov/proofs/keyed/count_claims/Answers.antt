use Rattle.std.proofs.Common.{◌∙◌}
use Rattle.sx_base.specs.declared.label.Label.TheVariants.{DbHeader}
use Rattle.sx_prov.proofs.Claiming.{counted_none, counted_next, counted_all, claim_lies}
use Rattle.sx_prov.proofs.keyed.count_claims.Goals as goal

pub loop-span-init : goal.loop-span-init
loop-span-init c = record { long = c.in_ok-states.ensures.len; counted = counted_none c.args.claims.now c.in_ok-states.states c.in_ok-states.ensures.none }

pub claim-requires : goal.claim-requires
claim-requires c =
    claim_lies c.args.claims.now c.loop-span.span-index c.args.len (record { start = 0; len = 0 }, DbHeader) c.loop-span.states c.loop-span-test.true c.requires.within c.loop-span.invariant.long

pub loop-span-preserved : goal.loop-span-preserved
loop-span-preserved c = record {
  long = c.in_ok-claim.ensures.ok.len ∙ c.loop-span.invariant.long;
  counted = counted_next c.args.claims.now c.loop-span.states c.claim.new.self c.loop-span.span-index (record { start = 0; len = 0 }, DbHeader) c.loop-span-test.true
      c.loop-span.invariant.counted c.in_ok-claim.ensures.ok;
}

pub returns-clause-len : goal.returns-clause-len
returns-clause-len c = c.loop-span.invariant.long

pub returns-clause-counted : goal.returns-clause-counted
returns-clause-counted c = counted_all c.args.claims.now c.loop-span.states c.loop-span.span-index c.loop-span-test.false c.loop-span.invariant.counted
