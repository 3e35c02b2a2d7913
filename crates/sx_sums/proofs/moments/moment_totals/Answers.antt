-- The sums, the lock-byte page and the absent pages are all pages.
use Rattle.std.proofs.Common.{◌∙◌, refl}
use Rattle.sx_sums.proofs.Showing.{moment_is}
use Rattle.sx_sums.proofs.moments.moment_totals.Goals as goal

pub returns : goal.returns
returns c = λ graph view numbers shown held_is.
    moment_is graph c.args.layout.now view c.args.size c.args.held c.from.result c.from-page_size.result c.from-2.result c.owned.result c.slack.result c.fault.result
    numbers c.args.sums.now shown held_is (c.from.ensures ∙ c.lock_count-lock.ensures.count) c.from-page_size.ensures
    (c.from-2.ensures ∙ c.saturating_sub-absent.ensures ∙ rw (c.from.ensures, c.saturating_sub.ensures) refl)
    c.owned.ensures.value c.slack.ensures.value c.fault.ensures.value
