use Rattle.std.proofs.Common.{ap, sym, ◌∙◌, ◌≡◌, ℕ, Option, ◌&&◌, ◌==◌}
use Rattle.std.specs.Ordering.{nat_cmp, is_eq}
use Rattle.std.specs.Map.{lookup}
use Rattle.sx_journal.specs.declared.entry.Entry.{Entry}
use Rattle.sx_journal.specs.Entries.{is_good_class}
use Rattle.sx_moment.specs.Views.{is_good_record}
use Rattle.sx_moment.specs.Gathering.{noted}
use Rattle.sx_base.proofs.Places.{first_place-zero}
use Rattle.sx_moment.proofs.Noted.{note_step}
use Rattle.sx_moment.proofs.gathering.first_records.Goals as goal

pub loop-i-init : goal.loop-i-init
loop-i-init c = λ number. ap (lookup (λ k. is_eq (nat_cmp number k))) c.new-found.ensures.empty ∙ sym (first_place-zero _)

pub loop-i-preserved : goal.loop-i-preserved
loop-i-preserved c = λ number.
    let is : is_good_record c.args.sources.now number c.loop-i.i ≡ (c.is_good_class.result && (c.record-item.result.page == number)) =
    ap (λ (e : Entry). is_good_class e.class && (e.page == number)) (sym c.record-item.ensures) ∙ ap (λ b. b && (c.record-item.result.page == number)) (sym c.is_good_class.ensures) in
    c.in_ok-note.ensures number
    ∙ ap (λ (o : Option ℕ). noted c.is_good_class.result c.record-item.result.page c.loop-i.i o number) (c.loop-i.invariant number)
    ∙ note_step (is_good_record c.args.sources.now number) c.is_good_class.result c.record-item.result.page c.loop-i.i number is
