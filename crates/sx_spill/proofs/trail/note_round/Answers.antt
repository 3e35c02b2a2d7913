use Rattle.std.proofs.Common.{cond, Some, get_or, ap, ◌∙◌}
use Rattle.std.specs.Ordering.{nat_cmp}
use Rattle.std.specs.BTreeMap.{get}
use Rattle.sx_spill.proofs.TrailLemmas.{same_page}
use Rattle.sx_spill.proofs.RoundLemmas.{noted_more}
use Rattle.sx_spill.proofs.trail.note_round.Goals as goal

pub loop-number-preserved : goal.loop-number-preserved
loop-number-preserved c = λ q.
    let round = c.args.round.now in
    let i = c.loop-number.number-index in
    noted_more round i c.args.len q (get nat_cmp c.args.known.now q) (get nat_cmp c.loop-number.known q) (get nat_cmp c.insert.new.self q) c.loop-number-test.true
    (c.in_ok-insert.ensures.updates.0 q ∙ ap (λ b. cond b (Some c.args.len) (get nat_cmp c.loop-number.known q)) (same_page (get_or round i 0) q))
    (c.loop-number.invariant q)
