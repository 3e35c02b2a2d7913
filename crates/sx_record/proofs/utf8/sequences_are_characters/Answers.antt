use Rattle.sx_record.proofs.Characters.{characters_both}
use Rattle.sx_record.proofs.utf8.sequences_are_characters.Goals as goal

pub returns : goal.returns
returns c = characters_both
