use Rattle.std.proofs.Common.{ap, ◌∙◌, ◌||◌, ◌&&◌}
use Rattle.sx_moment.specs.Gathered.{page_count}
use Rattle.sx_moment.specs.Views.{lock_in}
use Rattle.sx_moment.specs.Marks.{is_same}
use Rattle.sx_moment.specs.Images.{is_in_file}
use Rattle.sx_moment.proofs.Noted.{any_step}
use Rattle.sx_moment.proofs.gathering.same_slots.Goals as goal

pub loop-i-preserved : goal.loop-i-preserved
loop-i-preserved c = λ number.
    let file = is_in_file (lock_in c.args.sources.now) (page_count c.args.sources.now) number in
    c.in_ok-note_same.ensures number
    ∙ ap (λ b. b || (file && is_same c.args.sources.now number c.loop-i.i)) (c.loop-i.invariant number)
    ∙ any_step (is_same c.args.sources.now number) c.loop-i.i file
