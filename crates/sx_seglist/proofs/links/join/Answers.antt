use Rattle.std.proofs.Common.{inl, inr}
use Rattle.sx_seglist.proofs.Loops.{joining_end, joining_go, joining_go_nearer, joining_taken, joining_taken_nearer, not_true}
use Rattle.sx_seglist.proofs.links.join.Goals as goal

pub loop-segment-preserved : goal.loop-segment-preserved
loop-segment-preserved c =
    joining_go c.args.items.now c.loop-segment.items c.args.first c.loop-segment.index c.loop-segment.invariant c.if-segment-eq-END.false
    (not_true c.is.result c.is.ensures.found c.if-is.false)

pub loop-segment-preserved-then-is : goal.loop-segment-preserved-then-is
loop-segment-preserved-then-is c =
    joining_taken c.args.items.now c.loop-segment.items c.args.first c.loop-segment.index c.loop-segment.invariant c.if-segment-eq-END.false (c.is.ensures.same c.if-is.true)

pub loop-segment-smaller : goal.loop-segment-smaller
loop-segment-smaller c = joining_go_nearer c.args.items.now c.loop-segment.items c.args.first c.loop-segment.index c.loop-segment.invariant c.if-segment-eq-END.false

pub loop-segment-smaller-then-is : goal.loop-segment-smaller-then-is
loop-segment-smaller-then-is c = joining_taken_nearer c.args.items.now c.loop-segment.items c.args.first c.loop-segment.index c.loop-segment.invariant c.if-segment-eq-END.false

pub returns-then-segment-eq-END : goal.returns-then-segment-eq-END
returns-then-segment-eq-END c = elim c.then-segment-eq-END.either [
  | inl last ↦ joining_end c.args.items.now c.loop-segment.items c.args.first c.loop-segment.index c.args.end c.loop-segment.invariant (inl last)
  | inr behind ↦ joining_end c.args.items.now c.loop-segment.items c.args.first c.loop-segment.index c.args.end c.loop-segment.invariant (inr behind.1)
]
