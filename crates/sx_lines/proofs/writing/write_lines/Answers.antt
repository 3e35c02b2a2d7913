-- At each exit by an error what was taken is a front of the text; each turn takes some lines more.
use Rattle.std.proofs.Common.{arith}
use Rattle.sx_lines.proofs.Fronts.{written_more, written_some, written_front, written_end, on_err}
use Rattle.sx_lines.proofs.writing.write_lines.Goals as goal

pub returns-in_err-next_piece-clause-front : goal.returns-in_err-next_piece-clause-front
returns-in_err-next_piece-clause-front g c = on_err _ (written_some _ _ _ _ c.loop-piece.invariant.written)

pub loop-piece-preserved : goal.loop-piece-preserved
loop-piece-preserved g c =
    let next = rw c.if-branch.true at c.in_ok-next_piece.ensures in
    let more = rw c.as_bytes.ensures.value at c.in_ok-write_piece.ensures.whole in
    record {
      written = written_more _ _ _ _ _ _ _ c.loop-piece.invariant.written next more;
      later = omega (arith, c.loop-piece.invariant.later, c.write_piece.ensures.later);
    }

pub returns-in_err-write_piece-clause-front : goal.returns-in_err-write_piece-clause-front
returns-in_err-write_piece-clause-front g c =
    let next = rw c.if-branch.true at c.in_ok-next_piece.ensures in
    let some = rw c.as_bytes.ensures.value at c.in_err-write_piece.ensures.front in
    on_err _ (written_front _ _ _ _ _ _ _ c.loop-piece.invariant.written next.0 some)

pub returns-clause-front : goal.returns-clause-front
returns-clause-front g c =
    let last = rw c.if-branch.false at c.in_ok-next_piece.ensures in
    let some = rw c.as_bytes-2.ensures.value at c.write_piece-2.ensures.front in
    written_end c.write_piece-2.result _ _ (g.W.Sink.taken c.write_piece-2.new.out) _ _ _ c.loop-piece.invariant.written last some
