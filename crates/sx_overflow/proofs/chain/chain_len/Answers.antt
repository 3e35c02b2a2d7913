use Rattle.std.proofs.Common.{length, sym, arith}
use Rattle.sx_overflow.specs.Chains.{chain_of}
use Rattle.sx_overflow.proofs.ChainSteps.{chain_more, chain_short, chain_whole}
use Rattle.sx_overflow.proofs.chain.chain_len.Goals as goal

pub returns-in-None-clause-value : goal.returns-in-None-clause-value
returns-in-None-clause-value g c =
    let view = g.P.PageViews.view c.args.pages.now in
    chain_short view c.loop-met.at c.args.most c.loop-met.met (length (chain_of view c.args.link c.args.most)) c.loop-met-test.true
    (sym c.in-None.ensures.view) c.loop-met.invariant

pub loop-met-preserved : goal.loop-met-preserved
loop-met-preserved g c =
    let view = g.P.PageViews.view c.args.pages.now in
    let more = chain_more view c.loop-met.at c.args.most c.loop-met.met c.be32-at.result c.in-Some.page.now c.loop-met-test.true
    (sym c.in-Some.ensures.view) c.be32-at.ensures in
    omega (arith, more, c.loop-met.invariant)

pub returns-clause-value : goal.returns-clause-value
returns-clause-value g c =
    let view = g.P.PageViews.view c.args.pages.now in
    chain_whole view c.loop-met.at c.args.most c.loop-met.met (length (chain_of view c.args.link c.args.most)) c.loop-met.auto.met-end
    c.loop-met-test.false c.loop-met.invariant
