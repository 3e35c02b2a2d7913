use Rattle.std.proofs.Common.{Vec, Global, ◌+◌, ◌++◌, ◌∷◌, [], sym, ap, arith, ◌∙◌}
use Rattle.sx_generations.specs.declared.neighbours.Streak.{Streak}
use Rattle.sx_generations.specs.Neighbours.{links_from}
use Rattle.sx_generations.proofs.Walks.{found_more, found_none, found_same}
use Rattle.sx_generations.proofs.neighbours.streaks.Goals as goal
use Rattle.sx_generations.proofs.neighbours.streaks.Goals.{then-links-gt0+in_ok-push, else-links-gt0}

pub loop-at-preserved : goal.loop-at-preserved
loop-at-preserved g c =
    let is = c.links_from-links.ensures.links ∙ sym (ap (λ n. links_from (g.N.Neighbours.joined c.args.row.now) n c.loop-at.at) c.count-count.ensures) in
    elim c.if-links-gt0.branch [
      | then-links-gt0+in_ok-push w ↦
          found_same (g.N.Neighbours.joined c.args.row.now) c.count-count.result (c.loop-at.at + (c.links_from-links.result + 1)) (c.loop-at.found.items ++ record { first = c.loop-at.at; len = c.links_from-links.result + 1 } ∷ []) c.if-links-gt0.found.items (ap (λ (v : Vec Streak Global). v.items) w.found-is ∙ w.in_ok-push.ensures.items)
          (found_more (g.N.Neighbours.joined c.args.row.now) c.count-count.result c.loop-at.at c.links_from-links.result c.loop-at.found.items c.loop-at.invariant (omega (arith, c.links_from-links.ensures.within)) is w.if-links-gt0.true)
      | else-links-gt0 w ↦
          found_same (g.N.Neighbours.joined c.args.row.now) c.count-count.result (c.loop-at.at + (c.links_from-links.result + 1)) c.loop-at.found.items c.if-links-gt0.found.items (ap (λ (v : Vec Streak Global). v.items) w.found-is)
          (found_none (g.N.Neighbours.joined c.args.row.now) c.count-count.result c.loop-at.at c.links_from-links.result c.loop-at.found.items c.loop-at.invariant (omega (arith, c.links_from-links.ensures.within)) is w.if-links-gt0.false)
    ]
