use Rattle.std.proofs.Common.{ℕ, Option, None, Bool, cond, ap, ◌∙◌, subst}
use Rattle.sx_moment.specs.Gathered.{page_count}
use Rattle.sx_moment.specs.Views.{lock_in}
use Rattle.sx_moment.specs.Firsts.{Rises}
use Rattle.sx_moment.specs.Reading.{IsGathered}
use Rattle.sx_moment.specs.Images.{is_past, is_marked}
use Rattle.sx_moment.proofs.Counted.{past_first, marks_first}
use Rattle.sx_moment.proofs.Firsts.{first_of, slot_first}
use Rattle.sx_moment.proofs.case.Case.gather.Goals as goal

pub invariant_of-result : goal.invariant_of-result
invariant_of-result c =
    let past : ℕ → Bool = is_past (lock_in c.in_ok-sources.sources) (page_count c.in_ok-sources.sources) in
    record {
      gathered = subst IsGathered c.sources.view_is c.sources.invariant;
      slots_are = c.in_ok-frames.ensures;
      past_rise = subst (Rises 1) c.past.view_is c.past.invariant;
      past_are = c.in_ok-past.ensures;
      marks_rise = subst (Rises 1) c.marks.view_is c.marks.invariant;
      marks_are = λ number.
          c.in_ok-marks.ensures number
          ∙ ap (λ b. cond b (first_of c.in_ok-frames.frames number) None) (c.in_ok-same.ensures number)
          ∙ ap (λ (o : Option ℕ). cond (is_marked c.in_ok-sources.sources number) o None) (slot_first c.in_ok-sources.sources c.in_ok-frames.frames number c.in_ok-frames.ensures);
      past_records_rise = subst (Rises 1) c.past_records.view_is c.past_records.invariant;
      past_records_are = λ number. c.in_ok-past_records.ensures number ∙ ap (λ (o : Option ℕ). cond (past number) o None) (c.in_ok-records.ensures number);
      records_are = c.in_ok-records.ensures;
      past_counted = c.in_ok-past_counts.ensures;
      marks_counted = c.in_ok-mark_counts.ensures;
    }

pub counts_at_commits-requires : goal.counts_at_commits-requires
counts_at_commits-requires c =
    past_first c.in_ok-sources.sources c.in_ok-past.past (subst (Rises 1) c.past.view_is c.past.invariant) c.in_ok-past.ensures

pub counts_at_commits-requires-2 : goal.counts_at_commits-requires-2
counts_at_commits-requires-2 c =
    marks_first c.in_ok-sources.sources c.in_ok-marks.marks (subst (Rises 1) c.marks.view_is c.marks.invariant)
    (λ number.
    c.in_ok-marks.ensures number
    ∙ ap (λ b. cond b (first_of c.in_ok-frames.frames number) None) (c.in_ok-same.ensures number)
    ∙ ap (λ (o : Option ℕ). cond (is_marked c.in_ok-sources.sources number) o None) (slot_first c.in_ok-sources.sources c.in_ok-frames.frames number c.in_ok-frames.ensures))
