use Rattle.std.proofs.Common.{◌+◌, get_or, take, arith}
use Rattle.sx_base.specs.declared.evidence.Span.{Span}
use Rattle.sx_base.specs.declared.label.Label.{Label}
use Rattle.sx_base.specs.declared.label.Label.TheVariants.{DbHeader}
use Rattle.sx_prov.proofs.Apart.{apart_start, apart_long, gap_put, gap_long, claim_put, apart_end}
use Rattle.sx_prov.proofs.keyed.put_apart.Goals as goal

abbrev nothing : Span × Label
nothing = (record { start = 0; len = 0 }, DbHeader)

pub loop-span-init : goal.loop-span-init
loop-span-init c = apart_start c.args.content c.args.usable c.args.claims.now c.args.map.now c.requires.none

pub put_unclaimed-requires-clause-behind : goal.put_unclaimed-requires-clause-behind
put_unclaimed-requires-clause-behind c =
    let long = apart_long c.args.content c.args.usable _ c.loop-span.map c.loop-span.end c.loop-span.invariant in
    let behind = c.if-span-end.false in
    omega (arith, long, behind)

pub put_one-requires-clause-behind : goal.put_one-requires-clause-behind
put_one-requires-clause-behind c =
    let i = c.loop-span.span-index in
    let gap =
    gap_put c.args.content c.args.usable c.args.claims.now i nothing c.loop-span.map c.put_unclaimed.new.map c.loop-span.end c.loop-span-test.true c.requires.within
    c.if-span-end.false c.loop-span.invariant c.in_ok-put_unclaimed.ensures in
    let long =
    gap_long c.args.content c.args.usable (take i c.args.claims.now) (take (i + 1) c.args.claims.now) c.put_unclaimed.new.map (get_or c.args.claims.now i nothing) gap in
    omega (arith, long)

pub loop-span-preserved : goal.loop-span-preserved
loop-span-preserved c =
    let gap =
    gap_put c.args.content c.args.usable c.args.claims.now c.loop-span.span-index nothing c.loop-span.map c.put_unclaimed.new.map c.loop-span.end c.loop-span-test.true c.requires.within
    c.if-span-end.false c.loop-span.invariant c.in_ok-put_unclaimed.ensures in
    claim_put c.args.content c.args.usable c.args.claims.now c.loop-span.span-index nothing c.put_unclaimed.new.map c.put_one.new.map c.loop-span-test.true gap c.in_ok-put_one.ensures

pub put_unclaimed-requires-2-clause-behind : goal.put_unclaimed-requires-2-clause-behind
put_unclaimed-requires-2-clause-behind c =
    let long = apart_long c.args.content c.args.usable _ c.loop-span.map c.loop-span.end c.loop-span.invariant in
    let within = c.loop-span.invariant.within in
    omega (arith, long, within)

pub returns : goal.returns
returns c = λ yes.
    apart_end c.args.content c.args.usable c.args.claims.now c.loop-span.span-index c.loop-span.map c.put_unclaimed-2.new.map c.loop-span.end c.loop-span-test.false c.loop-span.invariant
    c.in_ok-put_unclaimed-2.ensures
