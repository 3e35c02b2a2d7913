use Rattle.std.proofs.Common.{◌-◌, ◌≤◌}
use Rattle.sx_images.specs.Images.{images_of}
use Rattle.sx_moment.specs.Gathered.{size_at}
use Rattle.sx_moment.specs.Views.{view_of, source_of}
use Rattle.sx_sweep.specs.Growth.{Growing}
use Rattle.sx_sweep.specs.Told.{told_owns, told_begins, any_above}
use Rattle.sx_sweep.proofs.pages.add_pages.Given as goal

abbrev pub invariant-loop-no : goal.invariant-loop-no
invariant-loop-no l =
    let case = l.snapshot.case.now in
    let moment = l.snapshot.moment in
    let owns = told_owns l.refs l.layout (view_of case moment) (source_of case moment) (images_of l.images) in
    let begins = told_begins l.refs l.layout (view_of case moment) (source_of case moment) (images_of l.images) in
    record {
      within : l.after ≤ size_at case moment;
      growing : Growing l.fn.owned l.owned (λ image at. any_above (owns image at) 0 (size_at case moment)) (λ image at. any_above (begins image at) 0 (size_at case moment))
          (λ image at. any_above (owns image at) l.after (size_at case moment)) (λ image at. any_above (begins image at) l.after (size_at case moment));
    }

abbrev pub decreases-loop-no : goal.decreases-loop-no
decreases-loop-no l = size_at l.snapshot.case.now l.snapshot.moment - l.after
