use Rattle.std.proofs.Common.{◌≡◌, ◌∙◌, ◌<◌, Err, false, sym, subst, length, arith}
use Rattle.std.proofs.lemmas.List.{get_or_read}
use Rattle.std.proofs.lemmas.List.Sorted.{searched}
use Rattle.sx_history.specs.Marks.{Grows, is_marked}
use Rattle.sx_history.proofs.Marking.{grows_one, not_found, rise_upto}
use Rattle.sx_history.proofs.marks.note.Goals as goal

pub returns-in_default-clause-noted : goal.returns-in_default-clause-noted
returns-in_default-clause-noted c there =
    let found = searched c.args.numbers.now c.args.no (Err c.in_default.field-0) c.in_default.ensures.position (rise_upto c.args.numbers.now c.requires.rising) in
    absurd (not_found c.args.numbers.now c.args.no c.in_default.field-0 found.1 found.2 there)

pub returns-clause-grown : goal.returns-clause-grown
returns-clause-grown c =
    let marks = c.args.marks.now.items in
    let within : c.in-Ok.rank < length marks = omega (arith, c.in-Ok.ensures.bound, c.requires.marks) in
    let unmarked : is_marked marks c.in-Ok.rank ≡ false = sym (get_or_read marks _ _ within c.index.ensures false) ∙ c.if-index.false in
    subst (Grows marks _ c.args.work.now.items) (sym c.in_ok-push.ensures.items) (grows_one marks c.args.work.now.items c.in-Ok.rank within unmarked)
