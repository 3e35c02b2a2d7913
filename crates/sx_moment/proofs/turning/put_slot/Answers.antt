use Rattle.std.proofs.Common.{◌≡◌, ◌==◌, ℕ, refl, ap, subst}
use Rattle.sx_wal.specs.declared.slot.Slot.{Slot}
use Rattle.sx_moment.specs.Gathered.{slot_at}
use Rattle.sx_moment.specs.Changes.{AreMarked}
use Rattle.sx_moment.specs.Turning.{is_within}
use Rattle.sx_moment.proofs.Stepped.{slot_elsewhere, slot_put, slot_marked, slot_unmarked}
use Rattle.sx_moment.proofs.turning.put_slot.Goals as goal

pub returns-in_default : goal.returns-in_default
returns-in_default c =
    let page : c.slot-page.result.page ≡ (slot_at c.args.sources.now c.args.i).page = ap (λ (s : Slot). s.page) c.slot-page.ensures in
    record {
      origins = slot_elsewhere c.args.sources.now c.args.i c.slot-page.result.page c.args.ranks.now c.args.origins.now.items page c.in_default.ensures.none c.requires.origins;
      marked = subst (λ (n : ℕ). AreMarked (is_within (λ number. n == number) c.args.step.within c.args.ranks.now) c.args.step.turn c.args.changes.now.turns c.args.changes.now.turns) page
          (slot_unmarked c.args.ranks.now c.slot-page.result.page c.args.step.within c.args.step.turn c.args.changes.now.turns c.in_default.ensures.none c.requires.long);
      settled = refl;
    }

pub returns : goal.returns
returns c =
    let page : c.slot-page.result.page ≡ (slot_at c.args.sources.now c.args.i).page = ap (λ (s : Slot). s.page) c.slot-page.ensures in
    let rising = c.rank.ensures.ranks.rising in
    let here = c.in-Some.ensures.some in
    record {
      origins = slot_put c.args.sources.now c.args.i c.slot-page.result.page c.in-Some.rank c.args.ranks.now c.args.origins.now.items _ page rising here.0 here.1 c.requires.origins refl;
      marked = subst (λ (n : ℕ). AreMarked (is_within (λ number. n == number) c.args.step.within c.args.ranks.now) c.args.step.turn c.args.changes.now.turns c.mark_if.new.changes.turns) page
          (slot_marked c.args.ranks.now c.slot-page.result.page c.in-Some.rank c.args.step.within c.args.step.turn c.args.changes.now.turns c.mark_if.new.changes.turns rising here.0 here.1 c.requires.long c.mark_if.ensures.marked);
      settled = c.mark_if.ensures.settled;
    }
