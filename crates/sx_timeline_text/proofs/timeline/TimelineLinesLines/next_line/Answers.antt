use Rattle.sx_timeline_text.proofs.Listed.{listed_is}
use Rattle.sx_timeline_text.proofs.MomentLines.{next_moment}
use Rattle.sx_timeline_text.specs.Timeline.{moment_line}
use Rattle.sx_timeline_text.proofs.timeline.TimelineLinesLines.next_line.Goals as goal

pub put_moment_line-requires : goal.put_moment_line-requires
put_moment_line-requires c = listed_is c.args.self.now.case.now _ _ c.moment.ensures

pub returns-in_ok-put_moment_line-in-Moments : goal.returns-in_ok-put_moment_line-in-Moments
returns-in_ok-put_moment_line-in-Moments c =
    (moment_line c.args.self.now.case.now c.moment.result, next_moment _ _ _ _ c.in-Moments.is c.moment.ensures, c.in_ok-put_moment_line-in-Moments.ensures)
