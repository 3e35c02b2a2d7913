-- Plain bytes stand, and so does a character.
use Rattle.sx_record.proofs.Standing.{plain_stands, character_stands}
use Rattle.sx_record.proofs.utf8.first_standing_len.Goals as goal

pub returns-then-plain-gt0-clause-stands : goal.returns-then-plain-gt0-clause-stands
returns-then-plain-gt0-clause-stands c = plain_stands c.args.bytes.now c.plain_len-plain.result c.plain_len-plain.ensures.value

pub returns-clause-stands : goal.returns-clause-stands
returns-clause-stands c = character_stands c.args.bytes.now c.character_len.result c.character_len.ensures.value
