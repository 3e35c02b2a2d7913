use Rattle.std.proofs.Common.{◌≡◌, length, arith}
use Rattle.sx_base.proofs.HeldPages.{held_few}
use Rattle.sx_moment.specs.Gathered.{size_at}
use Rattle.sx_moment.specs.Views.{view_of}
use Rattle.sx_moment.specs.Images.{file_pages_at}
use Rattle.sx_moment.proofs.case.Case.snapshot.Goals as goal

pub overflow_add-result : goal.overflow_add-result
overflow_add-result c =
    let case = c.args.self.now in
    let few = held_few (size_at case c.args.moment) (view_of case c.args.moment) in
    let size : c.size.result ≡ size_at case c.args.moment = rw (← c.sources-sources.ensures.same) c.size.ensures in
    let file : c.file_held.result ≡ length (file_pages_at case c.args.moment) = rw (← c.sources-sources.ensures.same) c.file_held.ensures in
    omega (arith, few, c.past_held-past.ensures, file, size, c.size.type_inv)
