use Rattle.std.proofs.Common.{◌≡◌, ◌≤◌, List, Option, IsTrue, length, min, nat_le, slice_index, ap, ◌∙◌, sym, subst, arith}
use Rattle.sx_moment.specs.Gathered.{size_at, is_moment}
use Rattle.sx_moment.specs.Changes.{AreMarked}
use Rattle.sx_moment.specs.Reading.{IsGathered}
use Rattle.sx_moment.specs.Turning.{AreOrigins, base_of, is_held, is_turned, is_within}
use Rattle.sx_moment.specs.declared.origin.Origin.{Origin}
use Rattle.sx_moment.proofs.Stepped.{all_passed, within_order, step_order}
use Rattle.sx_moment.proofs.turning.turn.Goals as goal

pub mark_held-requires : goal.mark_held-requires
mark_held-requires c =
    let case = c.args.before.now.case.now in
    let items = c.deref.ensures.value in
    let low : c.min-within.result ≤ c.size-size_before.result = omega (arith, c.min-within.ensures) in
    record {
      order = within_order c.args.ranks.now c.min-within.result c.size-size_before.result c.within-from.result c.within.result low c.within-from.ensures.bound c.within-from.ensures.within c.within.ensures.within;
      end = omega (arith, c.within.ensures.bound, ap length items, c.requires.origins.long);
      long = c.requires.long ∙ sym (ap length items ∙ c.requires.origins.long);
      later = c.requires.later;
    }

pub put_images-requires : goal.put_images-requires
put_images-requires c =
    let same = c.sources-sources.ensures.same in
    let listed : IsTrue (is_moment c.args.before.now.case.now c.args.now.now.moment) = rw c.requires.case at c.args.now.now.listed in
    record {
      listed = rw same listed;
      origins = rw (same, ← c.requires.follows) c.requires.origins;
      long = c.mark_held.ensures.marked.long ∙ c.requires.long;
      later = omega (arith, c.mark_held.ensures.settled, c.requires.later);
    }

pub mark_held-requires-2 : goal.mark_held-requires-2
mark_held-requires-2 c =
    let items = c.deref-2.ensures.value in
    let low : c.min-within.result ≤ c.size-size.result = omega (arith, c.min-within.ensures) in
    let long : length c.deref-2.result.now ≡ length c.args.ranks.now = ap length items ∙ c.put_images.ensures.origins.long in
    record {
      order = within_order c.args.ranks.now c.min-within.result c.size-size.result c.within-from.result c.within-2.result low c.within-from.ensures.bound c.within-from.ensures.within c.within-2.ensures.within;
      end = omega (arith, c.within-2.ensures.bound, long);
      long = c.put_images.ensures.marked.long ∙ c.mark_held.ensures.marked.long ∙ c.requires.long ∙ sym long;
      later = omega (arith, c.put_images.ensures.settled, c.mark_held.ensures.settled, c.requires.later);
    }

pub returns : goal.returns
returns c =
    let case = c.args.before.now.case.now in
    let before = c.args.before.now.moment in
    let now = c.args.now.now.moment in
    let numbers = c.args.ranks.now in
    let same = c.sources-sources.ensures.same in
    let gathered : IsGathered case = c.sources-sources.ensures.gathered in
    let listed : IsTrue (is_moment case now) = rw c.requires.case at c.args.now.now.listed in
    let size_before : c.size-size_before.result ≡ size_at case before = rw (← same) c.size-size_before.ensures in
    let size : c.size-size.result ≡ size_at case now = rw (← same) c.size-size.ensures in
    let later : AreOrigins (base_of case now) numbers c.put_images.new.origins.items = rw (← same) c.put_images.ensures.origins in
    let first : AreMarked (is_held c.args.origins.now.items c.within-from.result c.within.result) c.args.turn c.args.changes.now.turns c.mark_held.new.changes.turns =
    subst (λ (l : List (Option Origin)). AreMarked (is_held l c.within-from.result c.within.result) c.args.turn c.args.changes.now.turns c.mark_held.new.changes.turns) c.deref.ensures.value c.mark_held.ensures.marked in
    let second : AreMarked (is_within (is_turned case now) c.min-within.result numbers) c.args.turn c.mark_held.new.changes.turns c.put_images.new.changes.turns = rw (← same) c.put_images.ensures.marked in
    let third : AreMarked (is_held c.put_images.new.origins.items c.within-from.result c.within-2.result) c.args.turn c.put_images.new.changes.turns c.mark_held-2.new.changes.turns =
    subst (λ (l : List (Option Origin)). AreMarked (is_held l c.within-from.result c.within-2.result) c.args.turn c.put_images.new.changes.turns c.mark_held-2.new.changes.turns) c.deref-2.ensures.value c.mark_held-2.ensures.marked in
    record {
      origins = later;
      passed = all_passed case before now numbers c.args.origins.now.items c.put_images.new.origins.items c.within-from.result c.within.result c.within-2.result c.min-within.result c.args.turn
          c.args.changes.now.turns c.mark_held.new.changes.turns c.put_images.new.changes.turns c.mark_held-2.new.changes.turns
          c.requires.ranked c.requires.long c.requires.follows (step_order case now gathered listed) (record {
            first = first;
            second = second;
            third = third;
            low_is = c.min-within.ensures ∙ ap (λ n. min n c.size-size.result) size_before ∙ ap (min (size_at case before)) size;
            from_is = c.within-from.ensures.within;
            end_is = λ rank below. c.within.ensures.within rank below ∙ ap (nat_le (slice_index numbers rank)) size_before;
            last_is = λ rank below. c.within-2.ensures.within rank below ∙ ap (nat_le (slice_index numbers rank)) size;
            origins_are = c.requires.origins;
            later_are = later;
          });
      settled = c.mark_held-2.ensures.settled ∙ c.put_images.ensures.settled ∙ c.mark_held.ensures.settled;
    }
