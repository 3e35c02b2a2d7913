-- The digits fill their part of the buffer, and digits are UTF-8.
use Rattle.std.proofs.Common.{rules}
use Rattle.sx_record.proofs.Digits.{digits_are_text}
use Rattle.sx_record.proofs.hexadecimal.put_piece.Goals as goal

pub put_run-requires : goal.put_run-requires
put_run-requires c = digits_are_text c.args.piece.now c.encode_to_slice.new.output (search rules)
