use Rattle.sx_overflow.proofs.WholeLemmas.{payload_is_whole, payload_is_only}
use Rattle.sx_overflow.proofs.law.pieces_make_the_payload.Goals as goal

pub returns-clause-short : goal.returns-clause-short
returns-clause-short c = payload_is_whole

pub returns-clause-only : goal.returns-clause-only
returns-clause-only c = payload_is_only
