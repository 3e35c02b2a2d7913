use Rattle.std.proofs.Common.{sym, subst}
use Rattle.sx_base.specs.declared.moment.Moment.{Moment}
use Rattle.sx_moment.specs.Changes.{AreMarked}
use Rattle.sx_moment.specs.Turning.{AreOrigins, base_of, is_turned, is_within, one_before}
use Rattle.sx_moment.proofs.Stepped.{base_before, base_after, commit_marked, unmarked_first}
use Rattle.sx_moment.proofs.turning.put_images.Goals as goal

pub put_slots-requires-clause-origins : goal.put_slots-requires-clause-origins
put_slots-requires-clause-origins c =
    base_before c.args.sources.now c.in-Commit.k c.limit_before-from.result c.args.ranks.now c.args.origins.now.items c.limit_before-from.ensures.value
    (subst (λ (m : Moment). AreOrigins (base_of c.args.sources.now (one_before m)) c.args.ranks.now c.args.origins.now.items) c.in-Commit.is c.requires.origins)

pub returns-in-Commit-clause-origins : goal.returns-in-Commit-clause-origins
returns-in-Commit-clause-origins c =
    subst (λ (m : Moment). AreOrigins (base_of c.args.sources.now m) c.args.ranks.now c.put_slots.new.origins.items) (sym c.in-Commit.is)
    (base_after c.args.sources.now c.in-Commit.k c.limit.result c.args.ranks.now c.put_slots.new.origins.items c.limit.ensures.value c.put_slots.ensures.origins)

pub returns-in-Commit-clause-marked : goal.returns-in-Commit-clause-marked
returns-in-Commit-clause-marked c =
    subst (λ (m : Moment). AreMarked (is_within (is_turned c.args.sources.now m) c.args.step.within c.args.ranks.now) c.args.step.turn c.args.changes.now.turns c.put_slots.new.changes.turns) (sym c.in-Commit.is)
    (commit_marked c.args.sources.now c.in-Commit.k c.limit_before-from.result c.limit.result c.args.step.within c.args.step.turn c.args.ranks.now c.args.changes.now.turns c.put_slots.new.changes.turns
    c.limit_before-from.ensures.value c.limit.ensures.value c.put_slots.ensures.marked)

pub returns-in-Journal-clause-marked : goal.returns-in-Journal-clause-marked
returns-in-Journal-clause-marked c =
    subst (λ (m : Moment). AreMarked (is_within (is_turned c.args.sources.now m) c.args.step.within c.args.ranks.now) c.args.step.turn c.args.changes.now.turns c.args.changes.now.turns) (sym c.in-Journal.is)
    (unmarked_first c.args.sources.now c.args.step.within c.args.step.turn c.args.ranks.now c.args.changes.now.turns)
