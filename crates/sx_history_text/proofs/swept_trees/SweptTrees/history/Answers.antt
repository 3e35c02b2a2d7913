use Rattle.std.proofs.Common.{◌≡◌, ◌∙◌, subst, sym, arith, w64, to_z, of_z}
use Rattle.std.proofs.Math.Facts.{to_z-of_z}
use Rattle.sx_history_text.specs.Trees.{IsAt}
use Rattle.sx_history_text.proofs.Sweeping.{behind_now}
use Rattle.sx_history_text.proofs.swept_trees.SweptTrees.history.Goals as goal

pub invariant_of-self-2 : goal.invariant_of-self-2
invariant_of-self-2 c =
    let before = c.self.inside.sweep in
    let rowid = c.self.inside.rowid in
    let read : to_z w64 (of_z w64 rowid) ≡ rowid = grind (arith, to_z-of_z) in
    let step = c.self.invariant.1 in (
      behind_now before c.settled.new.self rowid c.in_ok-walk.walk c.settled.ensures.case c.settled.ensures.numbers c.settled.ensures.settled
          c.moment-moment.ensures.there
          (subst (λ own. IsAt before.case before.moment before.numbers own c.in_ok-walk.walk) read c.in_ok-walk.ensures.stands),
      record { case = step.case ∙ sym c.settled.ensures.case; place = step.place ∙ sym c.settled.ensures.place },
    )
