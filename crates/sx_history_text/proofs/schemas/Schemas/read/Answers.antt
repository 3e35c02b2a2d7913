use Rattle.sx_schemas.proofs.Behind.{read_behind}
use Rattle.sx_history_text.proofs.schemas.Schemas.read.Goals as goal

pub invariant_of-self-2 : goal.invariant_of-self-2
invariant_of-self-2 c =
    read_behind c.self.inside.sweep c.settled.new.self c.in_ok-here.here.walk c.settled.ensures.case c.settled.ensures.numbers c.settled.ensures.settled
    c.moment-moment.ensures.there c.in_ok-here.ensures.tells.stands
