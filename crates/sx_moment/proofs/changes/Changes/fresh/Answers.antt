use Rattle.std.proofs.Common.{◌≡◌, length, replicate, ap, sym, ◌∙◌, arith}
use Rattle.std.specs.List.{range_with_len}
use Rattle.std.proofs.lemmas.List.{take_all, length-replicate}
use Rattle.std.proofs.lemmas.List.FromFn.{length-range_with_len}
use Rattle.sx_moment.proofs.Changed.{listed_fresh}
use Rattle.sx_moment.proofs.changes.Changes.fresh.Goals as goal

pub invariant_of-result : goal.invariant_of-result
invariant_of-result c =
    let listed : c.in_ok-listed.listed.items ≡ range_with_len 0 c.args.ranks = c.in_ok-listed.ensures in
    let turns : c.in_ok-turns.turns.items ≡ replicate c.args.ranks 1 = c.in_ok-turns.ensures.items_if_clones_equal (λ y h. h) in
    let long : length c.in_ok-listed.listed.items ≡ c.args.ranks = ap length listed ∙ length-range_with_len 0 c.args.ranks in
    let many : length c.in_ok-turns.turns.items ≡ c.args.ranks = ap length turns ∙ length-replicate c.args.ranks 1 in
    let all = take_all c.args.ranks c.in_ok-listed.listed.items (omega (arith, long)) in
    (long ∙ sym many, omega (arith, long), rw (all, listed, turns) (listed_fresh c.args.ranks))
