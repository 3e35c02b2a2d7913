use Rattle.std.proofs.Common.{◌≡◌, ◌≤◌, All, sym, ap, subst, arith}
use Rattle.sx_moment.specs.Changes.{Changing}
use Rattle.sx_moment.proofs.Changed.{listed_none}
use Rattle.sx_moment.proofs.changes.Changes.settle.Goals as goal

pub invariant_of-self : goal.invariant_of-self
invariant_of-self c =
    let same : c.self.inside.turns.items ≡ c.args.self.now.turns = ap (λ (v : Changing). v.turns) c.self.view_is in
    let all : All (λ other. other ≤ c.args.turn) c.self.inside.turns.items = subst (All (λ other. other ≤ c.args.turn)) (sym same) c.requires in
    (c.self.invariant.0, omega arith, listed_none c.args.turn c.self.inside.turns.items all)
