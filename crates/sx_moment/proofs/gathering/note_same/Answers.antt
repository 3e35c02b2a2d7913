use Rattle.std.proofs.Common.{ap, ◌∙◌, ◌≡◌, Bool, true, false, is_some, rules}
use Rattle.std.specs.Ordering.{nat_cmp}
use Rattle.std.specs.BTreeMap.{get}
use Rattle.std.proofs.lemmas.Result.{on_ok_weaker}
use Rattle.sx_moment.specs.Gathered.{page_count, slot_at}
use Rattle.sx_moment.specs.Views.{lock_in}
use Rattle.sx_wal.specs.declared.slot.Slot.{Slot}
use Rattle.sx_moment.specs.Marks.{is_same}
use Rattle.sx_moment.specs.Images.{is_in_file}
use Rattle.sx_moment.specs.Gathering.{noted}
use Rattle.sx_moment.proofs.Noted.{marked_out, marked_known, marked_more}
use Rattle.sx_moment.proofs.gathering.note_same.Goals as goal

pub returns-then-not-is_in_file : goal.returns-then-not-is_in_file
returns-then-not-is_in_file c = λ number.
    let out : is_in_file (lock_in c.args.sources.now) (page_count c.args.sources.now) (slot_at c.args.sources.now c.args.i).page ≡ false = search rules in
    marked_out c.args.sources.now _ _ c.args.i number (get nat_cmp c.args.found.now number) out

pub returns-then-contains_key : goal.returns-then-contains_key
returns-then-contains_key c = λ number.
    let known : is_some (get nat_cmp c.args.found.now (slot_at c.args.sources.now c.args.i).page) ≡ true = search rules in
    marked_known c.args.sources.now _ _ c.args.i number (get nat_cmp c.args.found.now) known

pub returns : goal.returns
returns c =
    let within : is_in_file (lock_in c.args.sources.now) (page_count c.args.sources.now) (slot_at c.args.sources.now c.args.i).page ≡ true = search rules in
    on_ok_weaker c.note.result (λ each number.
    ap is_some (each number
    ∙ ap (λ (b : Bool). noted b c.slot-page.result.page c.args.i (get nat_cmp c.args.found.now number) number) c.is_same.ensures
    ∙ ap (λ (s : Slot). noted (is_same c.args.sources.now (slot_at c.args.sources.now c.args.i).page c.args.i) s.page c.args.i (get nat_cmp c.args.found.now number) number) c.slot-page.ensures)
    ∙ marked_more c.args.sources.now _ _ c.args.i number (get nat_cmp c.args.found.now number) within) c.note.ensures
