use Rattle.std.proofs.Common.{◌≡◌, ◌<◌, ◌+◌, [], ◌∷◌, ◌++◌, length, take, slice_index, ap, sym, ◌∙◌, arith, length-append}
use Rattle.std.proofs.lemmas.List.{length-map}
use Rattle.std.proofs.lemmas.List.{take_more}
use Rattle.sx_wal.specs.declared.slot.Slot.{Slot}
use Rattle.sx_moment.specs.Views.{slot_pages}
use Rattle.sx_moment.proofs.Noted.{page_of_slot}
use Rattle.sx_moment.proofs.case.chain_slots.Goals as goal

pub loop-i-preserved : goal.loop-i-preserved
loop-i-preserved c =
    let pages = slot_pages c.args.sources.now in
    let below : c.loop-i.i < length pages = omega (arith, c.loop-i-test.true, c.slots-i-end.ensures.value, length-map c.args.sources.now.wal.slots (λ (slot : Slot). slot.page)) in
    let page : c.slot.result.page ≡ slice_index pages c.loop-i.i = ap (λ (s : Slot). s.page) c.slot.ensures ∙ sym (page_of_slot c.args.sources.now c.loop-i.i) in
    record {
      same = c.in_ok-push.ensures.items
          ∙ ap (λ l. l ++ c.slot.result.page ∷ []) c.loop-i.invariant.same
          ∙ ap (λ n. take c.loop-i.i pages ++ n ∷ []) page
          ∙ sym (take_more pages c.loop-i.i 0 below);
      long = ap length c.in_ok-push.ensures.items ∙ length-append c.loop-i.pages.items (c.slot.result.page ∷ []) ∙ ap (λ n. n + 1) c.loop-i.invariant.long;
    }
