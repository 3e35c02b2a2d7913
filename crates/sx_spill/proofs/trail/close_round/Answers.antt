use Rattle.std.proofs.Common.{◌<◌, ◌≤◌, ◌-◌, length, drop, sym, ap, subst, ◌∙◌, arith}
use Rattle.std.specs.Prelude.{slice_index}
use Rattle.std.specs.Ordering.{nat_cmp}
use Rattle.std.specs.BTreeMap.{get}
use Rattle.sx_spill.specs.Unused.{unused_by}
use Rattle.sx_spill.proofs.TrailLemmas.{trail_few}
use Rattle.sx_spill.proofs.RoundLemmas.{is_placed, closed}
use Rattle.sx_spill.proofs.trail.close_round.Goals as goal

pub overflow_cast-len : goal.overflow_cast-len
overflow_cast-len c =
    let few : length c.args.trail.now.items ≤ c.most-most.result
    = trail_few (unused_by c.args.pages.now).view c.args.link c.args.at c.most-most.result c.args.trail.now.items c.most-most.ensures c.requires.out.leads c.requires.out.apart in
    omega (arith, few, c.len.ensures, c.as_slice.ensures.len, ap length c.as_slice.ensures.value)

pub returns : goal.returns
returns c =
    let trail = c.args.trail.now.items in
    let slice = c.as_slice.ensures.value in
    let first = c.place_of-first.result in
    let there = c.requires.out.noted.half c.args.at c.requires.round in
    let within : first < length trail
    = is_placed trail c.args.at first (subst (λ t. first ≤ length t) slice c.place_of-first.ensures.within) (λ k below is. c.place_of-first.ensures.before k below (ap (λ t. slice_index t k) slice ∙ is)) there in
    closed (unused_by c.args.pages.now).view c.args.link c.args.at first (c.len.result - first) trail c.split_at.result.1.now c.truncate.new.self.items
    (get nat_cmp c.args.known.now) (get nat_cmp c.note_round.new.known) c.requires.out within
    (ap (λ t. slice_index t first) (sym slice) ∙ c.place_of-first.ensures.found (subst (λ t. first < length t) (sym slice) within))
    (omega (arith, c.len.ensures, c.as_slice.ensures.len, ap length slice)) (c.split_at.ensures.back ∙ ap (drop first) c.as_slice-2.ensures.value) c.truncate.ensures.items c.in_ok-note_round.ensures
