use Rattle.std.proofs.Common.{◌≡◌, ◌<◌, length, nat_lt, slice_index, ap, sym, ◌∙◌, arith}
use Rattle.std.proofs.lemmas.List.{get_or_default, length-set}
use Rattle.sx_moment.specs.Changes.{Changing}
use Rattle.sx_moment.proofs.Changed.{listed_marked, listed_fits}
use Rattle.sx_moment.proofs.changes.Changes.mark.Goals as goal

pub enter-self-inside-requires-clause-room : goal.enter-self-inside-requires-clause-room
enter-self-inside-requires-clause-room c early =
    let same : c.self.inside.turns.items ≡ c.args.self.now.turns = ap (λ (v : Changing). v.turns) c.self.view_is in
    let within : c.args.rank < length c.self.inside.turns.items = omega (arith, ap length same, c.requires.rank) in
    let here : c.index.result.now ≡ slice_index c.self.inside.turns.items c.args.rank = c.index.ensures ∙ get_or_default c.self.inside.turns.items c.args.rank c.index.result.now 0 within in
    listed_fits c.self.inside.settled c.args.turn c.args.rank c.self.inside.count c.self.inside.turns.items c.self.inside.listed.items
    c.self.invariant.2 c.self.invariant.1 c.self.invariant.0 within (ap (nat_lt c.self.inside.settled) (sym here) ∙ early)

pub invariant_of-self : goal.invariant_of-self
invariant_of-self c =
    let same : c.self.inside.turns.items ≡ c.args.self.now.turns = ap (λ (v : Changing). v.turns) c.self.view_is in
    let settled : c.self.inside.settled ≡ c.args.self.now.settled = ap (λ (v : Changing). v.settled) c.self.view_is in
    let within : c.args.rank < length c.self.inside.turns.items = omega (arith, ap length same, c.requires.rank) in
    let later : c.self.inside.settled < c.args.turn = omega (arith, settled, c.requires.later) in
    let here : c.index.result.now ≡ slice_index c.self.inside.turns.items c.args.rank = c.index.ensures ∙ get_or_default c.self.inside.turns.items c.args.rank c.index.result.now 0 within in (
      c.enter-self-inside.ensures.long ∙ c.self.invariant.0 ∙ sym (length-set c.self.inside.turns.items c.args.rank c.args.turn),
      c.enter-self-inside.ensures.count,
      listed_marked c.self.inside.settled c.args.turn c.args.rank c.self.inside.count (nat_lt c.self.inside.settled c.index.result.now) c.self.inside.turns.items _ _
          c.self.invariant.2 within later (ap (nat_lt c.self.inside.settled) here) c.enter-self-inside.ensures.listed,
    )
