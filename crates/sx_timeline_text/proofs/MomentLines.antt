-- The lines of the moments, one after the other.
use Rattle.std.proofs.Common.{◌≡◌, ℕ, suc, ◌+◌, ◌∷◌, map, drop, get_or, Some, sym, ◌∙◌, ap, add-one, drop-cons}
use Rattle.std.specs.Prelude.{slice_get}
use Rattle.std.proofs.lemmas.Option.{get_or_from_slice_get, slice_get_within}
use Rattle.sx_base.specs.declared.moment.Moment.{Moment}
use Rattle.sx_moment.specs.Gathered.{Gathered, moments_of}
use Rattle.sx_timeline_text.specs.Timeline.{moment_line}
use Rattle.sx_timeline_text.specs.Rest.{moment_lines_after, lines_from}
use Rattle.sx_timeline_text.specs.declared.timeline.TimelineLine.{TimelineLine}
use Rattle.sx_timeline_text.specs.declared.timeline.TimelineLine.TheVariants.{Moments}

-- while moments are left, the next line is that of the next
pub next_moment : (case : Gathered) (next : TimelineLine) (done : ℕ) (moment : Moment) → next ≡ Moments done → slice_get (moments_of case) done ≡ Some moment
    → lines_from next case ≡ moment_line case moment ∷ moment_lines_after (done + 1) case
next_moment case next done moment is listed =
    let below = slice_get_within (moments_of case) done moment listed in
    let at : get_or (moments_of case) done moment ≡ moment = get_or_from_slice_get (moments_of case) done moment moment listed in
    ap (λ (line : TimelineLine). lines_from line case) is
    ∙ ap (λ l. map (moment_line case) l) (drop-cons (moments_of case) done moment below)
    ∙ ap (λ m. moment_line case m ∷ map (moment_line case) (drop (suc done) (moments_of case))) at
    ∙ ap (λ n. moment_line case moment ∷ moment_lines_after n case) (sym (add-one done))
