use Rattle.std.proofs.Common.{ℕ, List, ◌++◌, ◌∷◌, [], ◌∙◌, sym, ap, arith, Vec, Global, length, map, take, drop, ◌≡◌, ◌<◌, ◌^◌}
use Rattle.std.proofs.lemmas.List.FromFn.{length-map-range_with_len}
use Rattle.sx_wal.specs.declared.slot.Slot.{Slot}
use Rattle.sx_wal.specs.Walk.{slot_past, as_committed}
use Rattle.sx_wal.proofs.RunLemmas.{some_where_fit}
use Rattle.sx_wal.proofs.WalkLemmas.{walked_commit, walked_other, walked_same, walked_end, walked_index, written_back}
use Rattle.sx_wal.proofs.read.read_slots.Goals as goal
use Rattle.sx_wal.proofs.read.read_slots.Goals.{then-is_commit+in_ok-push-2, else-is_commit}

pub slot-requires-clause-tested : goal.slot-requires-clause-tested
slot-requires-clause-tested c = c.is_some-valid.ensures ∙ some_where_fit _ _ _ _ c.continued-run.ensures

pub is_commit-requires-clause-tested : goal.is_commit-requires-clause-tested
is_commit-requires-clause-tested c = c.is_some-valid.ensures ∙ some_where_fit _ _ _ _ c.continued-run.ensures

pub loop-i-preserved : goal.loop-i-preserved
loop-i-preserved c =
    let one = c.in_ok-push.ensures.items ∙ ap (λ (slot : Slot). c.loop-i.slots.items ++ slot ∷ []) c.slot.ensures in
    elim c.if-is_commit.branch [
      | then-is_commit+in_ok-push-2 w ↦
          walked_same _ _ _ _ _ _ _ _ _ (ap (λ (v : Vec ℕ Global). v.items) w.commits-is) w.committed-is
          (walked_commit _ _ _ _ _ _ _ _ _ _ c.loop-i.invariant c.continued-run.ensures one (sym w.if-is_commit.ensures) w.in_ok-push-2.ensures.items)
      | else-is_commit w ↦
          walked_same _ _ _ _ _ _ _ _ _ (ap (λ (v : Vec ℕ Global). v.items) w.commits-is) w.committed-is
          (walked_other _ _ _ _ _ _ _ _ _ c.loop-i.invariant c.continued-run.ensures one (sym w.if-is_commit.ensures))
    ]

pub mark_committed-requires : goal.mark_committed-requires
mark_committed-requires c =
    let len = ap (λ (xs : List Slot). length xs) c.loop-i.invariant.listed
    ∙ length-map-range_with_len (slot_past c.new-log.result.page_size c.new-log.result.bytes.now) 0 c.loop-i.i in
    omega (arith, c.deref_mut.ensures.len, c.loop-i.invariant.within)

pub invariant_of-result : goal.invariant_of-result
invariant_of-result c =
    let few : c.loop-i.i < 2 ^ 32 = omega (arith, c.frames-count.ensures.few) in
    let len = ap (λ (xs : List Slot). length xs) (sym c.deref_mut.ensures.value) ∙ c.deref_mut.ensures.len in
    let back = written_back _ _ _ (c.mark_committed.auto.slots ∙ c.deref_mut.ensures.len) len in
    walked_index _ _ _ _ _ _ _ _ _ few c.loop-i.invariant
    (ap (λ (xs : List Slot). length xs) back ∙ c.mark_committed.auto.slots ∙ ap (λ (xs : List Slot). length xs) c.deref_mut.ensures.value)

pub returns : goal.returns
returns c =
    let all : c.loop-i.i ≡ c.frames-count.result = omega arith in
    let len = ap (λ (xs : List Slot). length xs) (sym c.deref_mut.ensures.value) ∙ c.deref_mut.ensures.len in
    let back = written_back _ _ _ (c.mark_committed.auto.slots ∙ c.deref_mut.ensures.len) len in
    walked_end _ _ _ _ _ _ _ _ _ _ c.loop-i.i c.new-log.ensures.size c.new-log.ensures.bytes c.requires.is c.requires.some (all ∙ c.frames-count.ensures.count) c.loop-i.invariant
    (back ∙ c.mark_committed.ensures ∙ ap (λ (xs : List Slot). map as_committed (take c.loop-i.committed xs) ++ drop c.loop-i.committed xs) c.deref_mut.ensures.value)
