-- A unit before one that is no second half of its pair stands by itself.
use Rattle.std.proofs.Common.{sym, ◌∙◌}
use Rattle.sx_bytes.specs.Decoding.{units_of}
use Rattle.sx_bytes.proofs.Matching.{lone_before}
use Rattle.sx_bytes.proofs.decoding.first_character.Goals as goal

pub returns-else-is_pair-clause-first : goal.returns-else-is_pair-clause-first
returns-else-is_pair-clause-first c =
    lone_before c.args.unit c.in-Some.second (units_of c.args.encoding c.args.behind.now) (units_of c.args.encoding c.in-Some.rest.now)
    c.lone_character-else-is_pair.result c.lone_character-else-is_pair.ensures (sym c.is_pair.ensures ∙ c.if-is_pair.false) c.in-Some.ensures.units
