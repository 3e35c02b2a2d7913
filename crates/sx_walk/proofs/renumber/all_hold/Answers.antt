use Rattle.std.proofs.Common.{◌<◌, ◌∙◌, get_or, length, ap, sym, subst}
use Rattle.std.proofs.lemmas.Bool.{lt-ltb, ltb-true, false≢true}
use Rattle.std.proofs.lemmas.List.{get_or_default}
use Rattle.sx_walk.specs.Renumbering.{HoldsAt}
use Rattle.sx_walk.proofs.TurnLemmas.{rank_is}
use Rattle.sx_walk.proofs.StepLemmas.{rank_within}
use Rattle.sx_walk.proofs.RenumberLemmas.{holds_more}
use Rattle.sx_walk.proofs.renumber.all_hold.Goals.{in-Some+else-not-holds_at, in_default}
use Rattle.sx_walk.proofs.renumber.all_hold.Goals as goal

pub loop-rank-preserved : goal.loop-rank-preserved
loop-rank-preserved g c =
    let view = g.P.PageViews.view c.args.pages.now in
    let numbers = c.args.numbers.now in
    let ranks = c.args.touched.now in
    let i = c.loop-rank.rank-index in
    holds_more view c.args.usable numbers ranks i c.args.table.now c.loop-rank-test.true c.loop-rank.invariant
    (λ page rank ranked at.
    elim c.match-get.branch [
      | in-Some+else-not-holds_at w ↦
          let low : get_or ranks i 0 < length numbers = ltb-true (get_or ranks i 0) (length numbers) (sym w.in-Some.ensures.lookup.0) in
          subst (HoldsAt view c.args.usable c.args.table.now) (w.in-Some.ensures.lookup.1 ∙ sym (get_or_default numbers (get_or ranks i 0) 0 w.in-Some.no.now low) ∙ ap (λ r. get_or numbers r 0) at ∙ rank_is numbers page rank ranked)
          (w.holds_at.ensures w.if-not-holds_at.false)
      | in_default w ↦
          absurd (false≢true (w.in_default.ensures.lookup.0 ∙ lt-ltb (get_or ranks i 0) (length numbers)
          (subst (λ r. r < length numbers) (sym at) (rank_within numbers page rank ranked))))
    ])
