use Rattle.std.proofs.Common.{◌∙◌, ap, sym, subst, map, option_copied, length}
use Rattle.sx_history.specs.Marks.{AreLinkedBut}
use Rattle.sx_history.proofs.Keeping.{none_linked}
use Rattle.sx_history.proofs.marks.mark_again.Goals as goal
use Rattle.sx_history.proofs.marks.mark_again.Goals.{then-not-fits, else-not-fits}

pub mark_on-requires-clause-linked : goal.mark_on-requires-clause-linked
mark_on-requires-clause-linked c =
    let numbers = c.args.numbers.now in
    let views = map option_copied c.args.views.now in
    elim c.if-not-fits.branch [
      | then-not-fits w ↦ none_linked numbers views c.if-not-fits.chains.items c.args.changed.now (length c.args.chains.now.items) (ap (λ v. v.items) w.chains-is ∙ w.clear-then-not-fits.ensures)
      | else-not-fits w ↦ subst (λ v. AreLinkedBut numbers views v.items c.args.changed.now) (sym w.chains-is) (c.requires.linked w.if-not-fits.false)
    ]
