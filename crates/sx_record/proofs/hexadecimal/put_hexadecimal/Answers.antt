-- The digits of one more piece.
use Rattle.std.proofs.Common.{◌∙◌}
use Rattle.std.specs.String.{string_bytes}
use Rattle.sx_record.proofs.Digits.{piece_put}
use Rattle.sx_record.proofs.hexadecimal.put_hexadecimal.Goals as goal

pub loop-rest-preserved : goal.loop-rest-preserved
loop-rest-preserved c =
    piece_put (string_bytes c.loop-rest.line) (string_bytes c.put_piece.new.line) c.loop-rest.rest.now 32
    c.split_at.result.0.now c.split_at.result.1.now c.split_at.ensures.front c.split_at.ensures.back c.in_ok-put_piece.ensures
    ∙ c.loop-rest.invariant
