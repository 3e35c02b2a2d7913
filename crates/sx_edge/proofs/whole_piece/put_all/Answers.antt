use Rattle.std.proofs.Common.{arith}
use Rattle.sx_edge.proofs.Pieces.{appended_further}
use Rattle.sx_edge.proofs.whole_piece.put_all.Goals as goal

pub loop-done-preserved : goal.loop-done-preserved
loop-done-preserved g c = record {
  within = omega (arith, c.in_ok-done.ensures.bound);
  appended = appended_further _ _ _ c.args.piece.now _ _ c.loop-done.invariant.appended c.in_ok-done.ensures.bytes;
  later = omega (arith, c.write.ensures.cause.later);
}
